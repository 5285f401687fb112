use Rattle.std.proofs.Common.{ap, sym, ◌∙◌}
use Rattle.std.specs.FinMap as map
use Rattle.tks_state.proofs.ByWindow.{found}
use Rattle.tks_state.proofs.by_window.ByWindow.get.Goals as goal

pub returns : goal.returns
returns g c =
    c.copied.ensures ∙ c.get.ensures.value ∙ sym (found c.number.result c.self.inside.entries.entries)
    ∙ ap (λ m. map.get m c.number.result) c.self.view_is ∙ ap (map.get c.args.self.now) c.number.ensures
