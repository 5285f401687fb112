-- What holds of the spelling of worlds.
use Rattle.std.proofs.Common.{◌≡◌, ℕ, suc, ◌+◌, Bool, true, false, List, [], length, Option, Some, None, Ok, Err, refl, sym, ap, ◌∙◌, subst, arith}
use Rattle.std.specs.Prelude.{if◌then◌else◌}
use Rattle.tks_text.specs.Size.{Extent}
use Rattle.tks_spelling.specs.Spelling.{Lawful, Read, ◌>>=◌, passed}
use Rattle.tks_spelling.specs.Reading.{Fails}
use Rattle.tks_spelling.specs.declared.format.Format.{Format}
use Rattle.tks_spelling.specs.declared.format.Format.TheVariants as formats
use Rattle.tks_spelling.specs.declared.unread.Unread.{Unread}
use Rattle.tks_spelling.specs.declared.unread.Unread.TheVariants as unread
use Rattle.tks_spelling.proofs.EachKind.{test_lawful, field_lawful, through_lawful}
use Rattle.tks_codec_events.proofs.Waiting.{queue_lawful, waiting_lawful}
use Rattle.tks_codec_variables.proofs.OfVariables.{variables_lawful}
use Rattle.tks_state.specs.Restoring.{is_possible, world_of, restored}
use Rattle.tks_state.specs.WellFormed.{WellFormed}
use Rattle.tks_state.specs.World.{World, windows_of}
use Rattle.tks_state.specs.declared.restoring.WorldParts.{WorldParts}
use Rattle.tks_codec_variables.specs.Variables.{variables}
use Rattle.tks_codec.specs.Happenings.{happenings}
use Rattle.tks_codec.specs.Windows.{windows}
use Rattle.tks_codec.specs.World.{counts_of, happenings_of, ends_of, WaitsAreLegal, fields, fields_at, world, world_at}
use Rattle.tks_codec.specs.declared.counts.Counts.{Counts}
use Rattle.tks_codec.proofs.OfParts.{counts_lawful, counts_legal, happenings_lawful, happenings_next, waiting_next, ends_lawful}
use Rattle.tks_codec.proofs.OfWindows.{windows_lawful, windows_next}

-- counts that agree
same_counts : (x y : Counts) → x.accepted ≡ y.accepted → x.clock ≡ y.clock → x.window ≡ y.window → x.binding ≡ y.binding → x.timer ≡ y.timer → x ≡ y
same_counts x y a c w b t = rw (a, c, w, b, t) refl

fields_lawful : (format : Format) (grid : Extent) → Lawful (fields format grid)
fields_lawful format grid =
    field_lawful counts_of _ _
    (λ c w k h. same_counts (counts_of w) c (ap (λ (w : World). w.accepted) h.1.1.1.1.1.1) (ap (λ (w : World). w.clock) h.1.1.1.1.1.1)
    (windows_next c.window (windows_of w) h.0) (happenings_next c.binding (happenings_of w) h.1.1.0) (waiting_next c.timer w.timers h.1.1.1.1.0))
    counts_lawful (λ c.
    field_lawful windows_of _ _ (λ ws w k h. ap windows_of h.1.1.1.1.1) (windows_lawful c.window) (λ ws.
    field_lawful (λ w. w.variables) _ _ (λ vs w k h. ap (λ (w : World). w.variables) h.1.1.1.1) variables_lawful (λ vs.
    field_lawful happenings_of _ _ (λ hs w k h. ap happenings_of h.1.1.1) (happenings_lawful c.binding) (λ hs.
    field_lawful (λ w. w.queue) _ _ (λ q w k h. ap (λ (w : World). w.queue) h.1.1) queue_lawful (λ q.
    field_lawful (λ w. w.timers) _ _ (λ ts w k h. ap (λ (w : World). w.timers) h.1) (waiting_lawful c.timer) (λ ts.
    through_lawful ends_of _ _ (λ e k. refl) (ends_lawful format)))))))

-- a world whose other parts have spellings has one in a side of the second format
pub fields_legal : (w : World) → WellFormed w → (windows w.tree.next).Legal (windows_of w) → (w.variables.locals ≡ [] → variables.Legal w.variables) → (happenings w.bindings.next).Legal (happenings_of w) → WaitsAreLegal w → (fields formats.Two w.grid).Legal w
fields_legal w h ws vs hs waits =
    let counted = counts_legal (counts_of w) h.counted h.event_loop.clock h.windows.windows.bounded h.events.bindings.next h.event_loop.timers.next in
    (counted, (ws, (vs h.rests, (hs, (waits.queue, (waits.timers, (waits.ends, refl)))))))

pub world_lawful : (format : Format) (grid : Extent) → Lawful (world format grid)
world_lawful format grid = test_lawful is_possible (fields format grid) (λ v h. omega arith) (fields_lawful format grid)

-- ---- reading

or_this : {X : Type 0} → X → Option X → X
or_this d None = d
or_this d (Some x) = x

some_same : {X : Type 0} (x y : X) → Some x ≡ Some y → x ≡ y
unfolding or_this
some_same x y e = ap (or_this x) e

-- a world that was read is a possible one
pub possible_read : (format : Format) (grid : Extent) (bytes rest : List ℕ) (p : WorldParts) (w : World) → fields_at format grid bytes ≡ Ok (world_of p, rest) → Some w ≡ restored p → world_at format grid bytes ≡ Ok (w, rest)
unfolding fields_at world_at
possible_read format grid bytes rest p w e h = ap (λ (r : Read World). r >>= passed is_possible) e ∙ by (is_possible (world_of p)) h
  where
    found : Bool → Read World
    found b = if b then Ok (world_of p, rest) else Err (suc (length rest))

    kept : Bool → Option World
    kept b = if b then Some (world_of p) else None

    by : (b : Bool) → Some w ≡ kept b → found b ≡ Ok (w, rest)
    by true h = ap (λ (x : World). Ok (x, rest)) (sym (some_same w (world_of p) h))
    by false h = absurd cc

pub impossible_read : (format : Format) (grid : Extent) (bytes rest : List ℕ) (p : WorldParts) → fields_at format grid bytes ≡ Ok (world_of p, rest) → None ≡ restored p → world_at format grid bytes ≡ Err (length rest + 1)
unfolding fields_at world_at
impossible_read format grid bytes rest p e h = ap (λ (r : Read World). r >>= passed is_possible) e ∙ by (is_possible (world_of p)) h
  where
    found : Bool → Read World
    found b = if b then Ok (world_of p, rest) else Err (suc (length rest))

    kept : Bool → Option World
    kept b = if b then Some (world_of p) else None

    by : (b : Bool) → None ≡ kept b → found b ≡ Err (length rest + 1)
    by true h = absurd cc
    by false h =
        let same : suc (length rest) ≡ length rest + 1 = omega arith in
        ap (λ (n : ℕ). Err n) same

-- a fault behind what was read, and one of the last part
pub fails_behind : {A B : Type 0} (e : Unread) (r : Read A) (x : A × List ℕ) (f : A × List ℕ → Read B) → r ≡ Ok x → Fails e (f x) → Fails e (r >>= f)
fails_behind e r x f is h = subst (λ r. Fails e (r >>= f)) (sym is) h

pub fails_first : {A B : Type 0} (e : Unread) (r : Read A) (f : A × List ℕ → Read B) → Fails e r → Fails e (r >>= f)
fails_first unread.NoMemory r f h = tt
fails_first (unread.Left n) r f h = ap (λ r. r >>= f) h
