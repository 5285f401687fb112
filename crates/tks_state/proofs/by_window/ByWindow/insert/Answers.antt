use Rattle.std.proofs.Common.{ap, ◌∙◌}
use Rattle.std.specs.FinMap as map
use Rattle.tks_state.proofs.ByWindow.{inserted}
use Rattle.tks_state.proofs.by_window.ByWindow.insert.Goals as goal

pub returns-clause-ok : goal.returns-clause-ok
returns-clause-ok g c =
    inserted c.number.result c.args.value c.self.inside.entries.entries c.insert.new.self.entries c.in_ok-insert.ensures.updates.0
    ∙ ap (λ m. map.insert m c.number.result c.args.value) c.self.view_is ∙ ap (λ n. map.insert c.args.self.now n c.args.value) c.number.ensures
