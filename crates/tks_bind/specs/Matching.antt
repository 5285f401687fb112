-- Which events a pattern fits, and what may lie between those of a sequence (bind(n), "Event patterns"; what may lie
-- between, and how near repeats are, are this project's own rules).
use Rattle.std.specs.Prelude.{◌+◌, Bool, ◌&&◌, ◌||◌, not, ◌==◌, nat_le, bit_and}
use Rattle.std.specs.Ordering.{int_eq}
use Rattle.tks_text.specs.Text.{same_text}
use Rattle.tks_event.specs.Keysyms.{is_modifier_key}
use Rattle.tks_event.specs.Kinds.{is_of_button, same_kind}
use Rattle.tks_event.specs.Sequences.{is_some_text}
use Rattle.tks_event.specs.Event.{Event}
use Rattle.tks_event.specs.declared.kind.Kind.TheVariants as kind
use Rattle.tks_event.specs.declared.pattern.Pattern.{Pattern}

-- an event fits a pattern: it has its kind, its detail, if it has one, and at least its modifiers
abbrev pub fits : Pattern → Event → Bool
fits p e = same_kind p.kind e.kind && ((not (is_some_text p.detail) || same_text p.detail e.detail) && (bit_and e.state p.modifiers == p.modifiers))

-- the later event comes close behind the one before: no more than 500 milliseconds later and, at buttons, in the same
-- cell of the screen
abbrev pub is_close : Event → Event → Bool
is_close before later =
    (nat_le before.time later.time && nat_le later.time (before.time + 500))
    && (not (is_of_button later.kind) || (int_eq before.root_x later.root_x && int_eq before.root_y later.root_y))

-- what a chosen event and the one chosen before it have to be to each other: they are in one window, and close where the
-- pattern is near
abbrev pub may_follow : Pattern → Event → Event → Bool
may_follow p before later = (before.window == later.window) && (not p.near || is_close before later)

-- whether an event may lie before a chosen one: it is neither a key nor a button that goes down, or a modifier key that
-- goes down where the chosen one is a key that goes down
abbrev pub may_lie_before : Event → Event → Bool
may_lie_before chosen e =
    not (same_kind e.kind kind.KeyPress || same_kind e.kind kind.ButtonPress)
    || (same_kind e.kind kind.KeyPress && (is_modifier_key e.detail && same_kind chosen.kind kind.KeyPress))
