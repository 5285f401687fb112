-- What contracts see of the code's borrowed names and its frames.
use Rattle.std.specs.Prelude.{ℕ, List, option_map}
use Rattle.std.specs.Borrow.{Bor}
use Rattle.tks_vars.specs.Names as names
use Rattle.tks_vars.specs.declared.name.Name.{Name}

abbrev pub pair_seen : Bor (List ℕ) × Bor (List ℕ) → List ℕ × List ℕ
pair_seen p = (p.0.now, p.1.now)

abbrev pub name_seen : Name → names.Name
name_seen n = record { variable = n.variable.now; index = option_map (λ i. i.now) n.index }
