-- What a store of format 1 opens to, told in format 2.
use Rattle.std.proofs.Common.{◌≡◌, ℕ, List, Some, Ok, Err, refl, ap, ◌∙◌}
use Rattle.tks_text.specs.Size.{Extent}
use Rattle.tks_text.specs.declared.limits.Limits.{Limits}
use Rattle.tks_disk.specs.declared.disk.Side.{Side}
use Rattle.tks_spelling.specs.Spelling.{Read}
use Rattle.tks_spelling.specs.declared.format.Format.TheVariants.{One, Two}
use Rattle.tks_spelling.specs.declared.header.Header.{Header}
use Rattle.tks_journal.specs.Sides.{AllShort, kept}
use Rattle.tks_codec.specs.World as codec
use Rattle.tks_codec.proofs.Formats.{read_in_second}
use Rattle.tks_durable.specs.Inputs.{counted}
use Rattle.tks_durable.specs.Opening.{opened}
use Rattle.tks_durable.proofs.Formats.{formats_agree}
use Rattle.tks_app.specs.Applications.{Application}
use Rattle.tks_state.specs.World.{World}
use Rattle.tks_session.specs.Terminals.{stored, stored_in, terminal}

-- a world that is stored in the one is stored in the other
stored_alike : (header : Header) (bytes : List ℕ) (world : World) → stored One header bytes ≡ Some world → stored Two header bytes ≡ Some world
stored_alike header bytes world e = by (codec.world_at One header.grid bytes) (read_in_second header.grid bytes) e
  where
    by : (read : Read World) → ((rest : List ℕ) (w : World) → read ≡ Ok (w, rest) → codec.world_at Two header.grid bytes ≡ Ok (w, rest))
        → stored_in header.names read ≡ Some world → stored_in header.names (codec.world_at Two header.grid bytes) ≡ Some world
    by (Err left) reads e = absurd (cc e)
    by (Ok x) reads e = ap (stored_in header.names) (reads x.1 x.0 refl) ∙ e

pub opens_alike : (app : Application) (limits : Limits) (grid : Extent) (live : Side) (header : Header) (bytes : List ℕ) (bodies : List (List ℕ)) (world : World) → AllShort bodies
    → opened (terminal app limits grid) (kept live One header bytes (Some bodies)) ≡ Ok world → opened (terminal app limits grid) (kept live Two header bytes (Some (counted bodies))) ≡ Ok world
opens_alike app limits grid live header bytes bodies world short e =
    formats_agree (terminal app limits grid) header bytes world (stored_alike header bytes) bodies short e
