-- Values that are put into scripts.
use Rattle.std.proofs.Common.{◌≡◌, ℕ, true, List, [], ◌∷◌}
use Rattle.tks_list.specs.ListText.{Splits}
use Rattle.tks_list.proofs.Joined.{backslashed_splits}
use Rattle.tks_event.specs.Event.{Event}
use Rattle.tks_bind.specs.Percents.{has_field, field_text, value}
use Rattle.tks_bind.specs.declared.field.Field.{Field}

pub value_splits : (e : Event) (path : List ℕ) (f : Field) → has_field e.kind f ≡ true → Splits (value e path f) (field_text e path f ∷ [])
value_splits e path f h = rw h (backslashed_splits (field_text e path f))
