use Rattle.std.proofs.Common.{rules, ◌≡◌, Some, None, sym, ap, ◌∙◌}
use Rattle.std.specs.Prelude.{option_copied, option_map}
use Rattle.std.specs.List.{find}
use Rattle.tks_bind.specs.Binding.{Content, is_for, script_for}
use Rattle.tks_bind.proofs.Numbering.{script_found}
use Rattle.tks_bind.proofs.bindings.Bindings.script.Goals as goal

pub returns-in_err-binding : goal.returns-in_err-binding
returns-in_err-binding c =
    let bs = c.self.inside.bindings in
    let missing : c.held_for.result ≡ None = search rules in
    let nothing : option_copied c.from_residual.result ≡ None = search rules in
    let none : find (is_for c.args.tag.now c.args.sequence.now) bs ≡ None = sym (c.held_for.ensures bs c.self.invariant.tags) ∙ ap option_copied missing in
    nothing ∙ ap (option_map (λ b. b.script)) (sym none) ∙ sym (script_found c.args.tag.now c.args.sequence.now bs)
    ∙ ap (λ (v : Content). script_for c.args.tag.now c.args.sequence.now v.bindings) c.self.view_is

pub returns : goal.returns
returns c =
    let bs = c.self.inside.bindings in
    let some : c.held_for.result ≡ Some c.in_ok-binding.binding = search rules in
    let found : find (is_for c.args.tag.now c.args.sequence.now) bs ≡ Some c.in_ok-binding.binding.now = sym (c.held_for.ensures bs c.self.invariant.tags) ∙ ap option_copied some in
    ap (λ b. Some b.script) c.get.ensures ∙ ap (option_map (λ b. b.script)) (sym found) ∙ sym (script_found c.args.tag.now c.args.sequence.now bs)
    ∙ ap (λ (v : Content). script_for c.args.tag.now c.args.sequence.now v.bindings) c.self.view_is
