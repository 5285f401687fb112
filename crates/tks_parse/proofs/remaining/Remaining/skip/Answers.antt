use Rattle.std.proofs.Common.{◌∙◌, ap, drop}
use Rattle.tks_parse.proofs.Drops.{drop_next}
use Rattle.tks_parse.proofs.remaining.Remaining.skip.Goals as goal

pub returns-then-self-len : goal.returns-then-self-len
returns-then-self-len g c = drop_next c.self.inside.at c.self.inside.items.value.items ∙ ap (λ xs. drop 1 xs) c.self.view_is
