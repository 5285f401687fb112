use Rattle.std.proofs.Common.{ℕ, List, [], ◌∷◌, ◌++◌, ap, ◌∙◌}
use Rattle.tks_tcl.proofs.Parts.{last_field}
use Rattle.tks_tcl.proofs.lists.fields.Goals as goal

pub returns : goal.returns
returns c =
    c.in_ok-push-2.ensures.ok ∙ ap (λ (t : List ℕ). c.fields.list ++ t ∷ []) c.in_ok-from_text-2.ensures
    ∙ last_field c.args.separators.now c.fields.list c.fields.rest.now c.fields.len c.fields.invariant.len c.fields-test.false
    ∙ c.fields.invariant.so_far
