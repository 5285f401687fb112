-- What ends as what, once a value that was lent out is given back.
use Rattle.std.specs.Prelude.{Result}
use Rattle.std.specs.Borrow.{LendsIfOk, MutBor, Fml, RattleType}
use Rattle.tks_share.specs.contracts.shared.Shared.{the_row}

-- the value that is held is the last one behind r, and stays where r is an error
abbrev pub LendsHeld : (T : RattleType) → MutBor T.Denot → {E : Type 0} → Result (MutBor T.Denot) E → Fml
LendsHeld T s r = LendsIfOk (the_row T) T s r (λ w. w) s.now
