-- The test by which the code tells what beats what.
use Rattle.std.specs.Prelude.{Bool, true, false, ◌&&◌, ◌||◌, not, ◌==◌, nat_lt, bit_and, if◌then◌else◌, List, [], ◌∷◌, length}
use Rattle.tks_event.specs.Equality.{equal_patterns}
use Rattle.tks_event.specs.declared.pattern.Pattern.{Pattern}
use Rattle.tks_bind.specs.Occurs.{turned}
use Rattle.tks_bind.specs.Choice.{Way, last_has_detail}

-- from the first one on, the first two sets that differ are a superset and its subset
abbrev pub overrides : List Pattern → List Pattern → Bool
overrides [] qs = false
overrides (p ∷ ps) [] = false
overrides (p ∷ ps) (q ∷ qs) = if p.modifiers == q.modifiers then overrides ps qs else (bit_and p.modifiers q.modifiers == q.modifiers)

-- where neither or both have a last event with a detail
abbrev pub is_longer : Way → Way → Bool
is_longer a b = nat_lt (length b.sequence) (length a.sequence)

abbrev pub is_more_modified : Way → Way → Bool
is_more_modified a b = (length a.sequence == length b.sequence) && overrides (turned a.sequence []) (turned b.sequence [])

abbrev pub is_met_itself : Way → Way → Bool
is_met_itself a b = equal_patterns a.sequence b.sequence && (not a.is_virtual && b.is_virtual)

abbrev pub beats_alike : Way → Way → Bool
beats_alike a b = is_longer a b || (is_more_modified a b || is_met_itself a b)

abbrev pub beats : Way → Way → Bool
beats a b =
    if last_has_detail a.sequence then (if last_has_detail b.sequence then beats_alike a b else true)
    else (if last_has_detail b.sequence then false else beats_alike a b)
