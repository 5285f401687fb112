use Rattle.std.proofs.Common.{ap, sym, ◌∙◌, Some, None, Bool, if◌then◌else◌}
use Rattle.tks_opt.specs.Table.{option_named}
use Rattle.tks_opt.specs.Options.{Options}
use Rattle.tks_opt.proofs.Values.{had_kept}
use Rattle.tks_opt.proofs.options.Options.option_named.Goals as goal

pub returns-then-contains_key : goal.returns-then-contains_key
returns-then-contains_key c =
    sym (had_kept c.args.self.now c.self.inside.values.entries c.in_ok-option.option (option_named c.args.name.now) c.contains_key.result (ap (λ (t : Options). t.values) c.self.view_is)
    (c.in_ok-option.ensures ∙ ap option_named c.as_bytes.ensures.value) c.contains_key.ensures ∙ ap (λ (b : Bool). if b then Some c.in_ok-option.option else None) c.if-contains_key.true)

pub returns-else-contains_key : goal.returns-else-contains_key
returns-else-contains_key c =
    sym (had_kept c.args.self.now c.self.inside.values.entries c.in_ok-option.option (option_named c.args.name.now) c.contains_key.result (ap (λ (t : Options). t.values) c.self.view_is)
    (c.in_ok-option.ensures ∙ ap option_named c.as_bytes.ensures.value) c.contains_key.ensures ∙ ap (λ (b : Bool). if b then Some c.in_ok-option.option else None) c.if-contains_key.false)
