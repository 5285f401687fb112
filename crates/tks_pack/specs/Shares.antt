-- The shares of contents, as they are found from the first to the last.
use Rattle.std.specs.Prelude.{◌≡◌, ℕ, ◌-◌, ◌<◌, ◌≤◌, ◌⊎◌, if◌then◌else◌, length, drop, List, [], ◌∷◌}
use Rattle.tks_pack.specs.declared.note.Note.{Note}
use Rattle.tks_pack.specs.declared.share.Shares.{Shares}
use Rattle.tks_pack.specs.declared.stretch.Stretch.{Stretch}
use Rattle.tks_pack.specs.Notes.{no_note, notes, most_asked, AreOvertaken}
use Rattle.tks_pack.specs.Packer.{parcel_length}
use Rattle.tks_pack.specs.Requests.{request_with, too_long}
use Rattle.tks_pack.specs.Stretch.{lies_along}

-- what is left of a cavity's length behind the first of contents
abbrev pub left_behind : ℕ → List Stretch → ℕ
left_behind r [] = r
left_behind r (s ∷ rest) = if lies_along s.edge then r - parcel_length r s rest else r

-- where the notes from i on ask for more than those from k on, all still fits
pub record Passed (i k r : ℕ) (contents : List Stretch) (ns : List Note) : Type 0 where
  pub each : (x : ℕ) → 1 ≤ x → x < too_long → (most_asked x (drop i ns) ≡ most_asked x (drop k ns)) ⊎ (request_with x (drop i contents) ≤ r)

-- shares are ready for the contents from i on, in a cavity of length r
pub record AreReady (i r : ℕ) (contents : List Stretch) (shares : Shares) : Type 0 where
  pub notes : shares.notes.items ≡ notes no_note contents
  pub overtakings : AreOvertaken 0 shares.notes.items shares.overtakings.items
  pub inside : shares.first ≤ length contents
  pub passed : i < shares.first → Passed i shares.first r contents shares.notes.items
