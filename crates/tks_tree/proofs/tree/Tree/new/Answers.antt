use Rattle.std.proofs.Common.{◌≡◌, ◌++◌, ◌∷◌, [], Some, refl, ap, sym, subst, ◌∙◌, arith}
use Rattle.std.specs.FinMap as fin
use Rattle.tks_text.specs.declared.class.Class.TheVariants.{Root}
use Rattle.tks_tree.specs.Path.{root_path}
use Rattle.tks_tree.specs.Windows.{root, first_windows, number_at}
use Rattle.tks_tree.specs.WellFormed.{WellFormed}
use Rattle.tks_tree.proofs.Indexed.{one_more, none_indexed}
use Rattle.tks_tree.proofs.tree.Tree.new.Goals as goal

first_formed : WellFormed first_windows
first_formed = record {
  first = ([], refl);
  numbered = (omega arith, omega arith);
  bounded = omega arith;
  founded = (record { path = refl; new = refl; parent = tt }, tt);
  classes = (refl, tt);
}

pub invariant_of-result : goal.invariant_of-result
invariant_of-result c =
    let pushed : c.push.new.self ≡ root ∷ [] =
    c.in_ok-push.ensures.ok
    ∙ ap (λ ws. ws ++ record { number = c.root.result; path = c.in_ok-from_text.field-0; class = Root } ∷ []) c.new-windows.ensures
    ∙ ap (λ n. record { number = n; path = c.in_ok-from_text.field-0; class = Root } ∷ []) c.root.ensures
    ∙ ap (λ p. record { number = 0; path = p; class = Root } ∷ []) c.in_ok-from_text.ensures in
    let indexed : c.insert.new.self ≡ fin.insert fin.empty root_path 0 =
    c.in_ok-insert.ensures.ok
    ∙ ap (λ m. fin.insert m root_path c.root-2.result) c.new-index.ensures
    ∙ ap (fin.insert fin.empty root_path) c.root-2.ensures in (
      subst (λ ws. WellFormed (record { windows = ws; next = 1 })) (sym pushed) first_formed,
      λ q. ap (λ m. fin.get m q) indexed ∙ one_more fin.empty [] root none_indexed refl q ∙ ap (λ ws. number_at ws (Some q)) (sym pushed),
    )
