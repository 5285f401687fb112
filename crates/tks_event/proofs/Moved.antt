-- An event of another window is one that there is.
use Rattle.std.proofs.Common.{◌≡◌, ◌≤◌, ◌^◌, ℕ, true, refl, ◌∙◌}
use Rattle.std.specs.Prelude.{◌&&◌, nat_le}
use Rattle.std.proofs.lemmas.Bool.{and_from, and_parts, le-leb}
use Rattle.tks_event.specs.Event.{Event}
use Rattle.tks_event.specs.Legality.{max_number, max_time, goes_with, is_event}
use Rattle.tks_event.specs.declared.kind.Kind.{Kind}
use Rattle.tks_event.specs.declared.kind.Kind.TheVariants as kind

-- what goes with a kind is in no window
anywhere : (k : Kind) (e : Event) (n : ℕ) → goes_with k (record e { window = n }) ≡ goes_with k e
anywhere kind.KeyPress e n = refl
anywhere kind.KeyRelease e n = refl
anywhere kind.ButtonPress e n = refl
anywhere kind.ButtonRelease e n = refl
anywhere kind.FocusIn e n = refl
anywhere kind.FocusOut e n = refl
anywhere kind.Virtual e n = refl

pub in_window : (e : Event) (n : ℕ) → n ≤ 2 ^ 62 → is_event e ≡ true → is_event (record e { window = n }) ≡ true
unfolding is_event
in_window e n bound h =
    let rest = and_parts (nat_le e.time max_time) (goes_with e.kind e) (and_parts (nat_le e.window max_number) (nat_le e.time max_time && goes_with e.kind e) h).1 in
    and_from (nat_le n max_number) (nat_le e.time max_time && goes_with e.kind (record e { window = n })) (le-leb n max_number bound)
    (and_from (nat_le e.time max_time) (goes_with e.kind (record e { window = n })) rest.0 (anywhere e.kind e n ∙ rest.1))
