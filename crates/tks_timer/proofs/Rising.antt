-- Ids rise.
use Rattle.std.proofs.Common.{List, [], ◌∷◌, arith}
use Rattle.tks_timer.specs.After.{Content, with_timer, with_idle, without}
use Rattle.tks_timer.specs.Ids.{Act, KeepTimer, KeepIdle, TakeOut, given_out, RiseFrom}

pub ids_rise : (acts : List Act) (c : Content) → RiseFrom c.next (given_out acts c)
ids_rise [] c = tt
ids_rise (KeepTimer due script ∷ acts) c = (omega arith, ids_rise acts (with_timer due script c))
ids_rise (KeepIdle script ∷ acts) c = (omega arith, ids_rise acts (with_idle script c))
ids_rise (TakeOut id ∷ acts) c = ids_rise acts (without id c)
