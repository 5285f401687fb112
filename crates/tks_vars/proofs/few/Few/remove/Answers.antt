use Rattle.std.proofs.Common.{filter, not, ap, ◌∙◌, rules}
use Rattle.std.proofs.lemmas.Fn.{filter_same}
use Rattle.tks_text.specs.Text.{same_text}
use Rattle.tks_vars.specs.Few.{Entry}
use Rattle.tks_vars.proofs.few.Few.remove.Goals as goal

pub returns : goal.returns
returns c =
    let other : Entry → _ = λ e. not (same_text e.0 c.args.name.now) in
    filter_same _ other _ (λ x b f' k. search rules) _ _ c.retain.ensures.filtered ∙ ap (filter other) c.self.view_is
