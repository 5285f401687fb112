use Rattle.std.proofs.Common.{◌≡◌, true, [], ◌∷◌, ◌++◌, sym, subst, ap, ◌∙◌, rules}
use Rattle.tks_text.specs.Text.{IsText}
use Rattle.tks_text.specs.Integer.{is_space}
use Rattle.tks_tcl.specs.Lists.{without_end}
use Rattle.tks_tcl.proofs.Parts.{space_falls, text_front}
use Rattle.tks_tcl.proofs.lists.without_end.Goals as goal

pub ends-preserved : goal.ends-preserved
ends-preserved c =
    let whole : c.ends.rest.now ≡ c.in-Some.front.now ++ c.in-Some.c.now ∷ [] = c.in-Some.ensures.cases.0 in
    let space : is_space c.in-Some.c.now ≡ true = search rules in
    record {
      so_far = sym (space_falls c.in-Some.front.now c.in-Some.c.now space) ∙ ap without_end (sym whole) ∙ c.ends.invariant.so_far;
      is_text = text_front c.in-Some.front.now (c.in-Some.c.now ∷ []) (subst IsText whole c.ends.invariant.is_text);
    }
