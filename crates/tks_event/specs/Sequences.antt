-- Which lists of patterns are sequences (bind(n), "Event patterns"). A repeat word is spread into patterns that are
-- close behind one another; that a sequence has at most eight events is this project's own rule.
use Rattle.std.specs.Prelude.{ℕ, zero, suc, ◌-◌, Bool, true, false, not, ◌&&◌, ◌||◌, ◌==◌, nat_lt, nat_le, List, [], ◌∷◌, ◌++◌, length, if◌then◌else◌}
use Rattle.std.specs.List.{list_all}
use Rattle.tks_text.specs.Text.{same_text}
use Rattle.tks_event.specs.Modifiers.{all_bits}
use Rattle.tks_event.specs.Kinds.{same_kind, is_detail}
use Rattle.tks_event.specs.declared.kind.Kind.TheVariants as kind
use Rattle.tks_event.specs.declared.pattern.Pattern.{Pattern}
use Rattle.tks_event.specs.declared.pattern.Repeated.{Repeated}

-- ---- what repeated patterns are

-- n times the pattern, each close behind the one before
abbrev pub near_ones : Pattern → ℕ → List Pattern
near_ones p zero = []
near_ones p (suc n) = record { near = true; kind = p.kind; modifiers = p.modifiers; detail = p.detail } ∷ near_ones p n

-- a pattern as often as it comes
abbrev pub events_of : Repeated → List Pattern
events_of r = r.pattern ∷ near_ones r.pattern (r.times - 1)

-- all of them, one behind the other
abbrev pub all_events : List Repeated → List Pattern
all_events [] = []
all_events (r ∷ rs) = events_of r ++ all_events rs

-- the most that a sequence may have
abbrev pub max_events : ℕ
max_events = 8

-- ---- names of virtual events

-- a printing character other than space, `<` and `>`
abbrev pub is_name_char : ℕ → Bool
is_name_char c = nat_le 33 c && (nat_le c 126 && (not (c == 60) && not (c == 62)))

abbrev pub is_some_text : List ℕ → Bool
is_some_text [] = false
is_some_text (c ∷ t) = true

-- whether a text is the name of a virtual event
abbrev pub is_name : List ℕ → Bool
is_name t = is_some_text t && list_all is_name_char t

-- ---- sequences

-- whether a pattern is one of physical events: its detail goes with its kind, or there is none
abbrev pub is_physical : Pattern → Bool
is_physical p = not (same_kind p.kind kind.Virtual) && (nat_lt p.modifiers all_bits && (not (is_some_text p.detail) || is_detail p.kind p.detail))

abbrev pub same_pattern : Pattern → Pattern → Bool
same_pattern p q = same_kind p.kind q.kind && ((p.modifiers == q.modifiers) && same_text p.detail q.detail)

-- what may stand behind a pattern: it comes close behind itself at most so many times more, then others may follow
abbrev pub may_follow : Pattern → ℕ → List Pattern → Bool
may_follow head more [] = true
may_follow head more (p ∷ ps) =
    if p.near then nat_lt 0 more && (same_pattern p head && may_follow head (more - 1) ps) else (is_physical p && may_follow p 3 ps)

-- one or more physical events
abbrev pub is_physical_sequence : List Pattern → Bool
is_physical_sequence [] = false
is_physical_sequence (p ∷ ps) = not p.near && (is_physical p && (may_follow p 3 ps && nat_le (length (p ∷ ps)) max_events))

abbrev pub is_virtual : Pattern → Bool
is_virtual p = not p.near && (same_kind p.kind kind.Virtual && ((p.modifiers == 0) && is_name p.detail))

-- a virtual event, which stands alone
abbrev pub is_virtual_sequence : List Pattern → Bool
is_virtual_sequence [] = false
is_virtual_sequence (p ∷ []) = is_virtual p
is_virtual_sequence (p ∷ q ∷ ps) = false

unfoldable pub is_sequence : List Pattern → Bool
is_sequence ps = is_physical_sequence ps || is_virtual_sequence ps
