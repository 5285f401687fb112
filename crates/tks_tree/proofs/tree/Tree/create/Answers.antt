use Rattle.std.proofs.Common.{◌≡◌, ◌+◌, ◌++◌, ◌∷◌, [], Some, Ok, ap, sym, subst, ◌∙◌, arith}
use Rattle.std.specs.FinMap as fin
use Rattle.tks_tree.specs.Windows.{Windows, free_path, number_at}
use Rattle.tks_tree.specs.WellFormed.{WellFormed}
use Rattle.tks_tree.proofs.Trees.{free, well_with}
use Rattle.tks_tree.proofs.Indexed.{one_more}
use Rattle.tks_tree.proofs.tree.Tree.create.Goals as goal

pub invariant_of-self-2 : goal.invariant_of-self-2
invariant_of-self-2 c =
    let ws = c.self.inside.windows in
    let n = c.self.inside.next in
    let path = c.args.path.now in
    let class = c.args.class in
    let may : free_path ws path ≡ Ok (tt {0}) = ap (λ (t : Windows). free_path t.windows path) c.self.view_is ∙ c.in_ok-check_path.ensures in
    let f = free ws path may in
    let pushed : c.push.new.self ≡ ws ++ record { number = n; path = path; class = class } ∷ [] =
    c.in_ok-push.ensures.ok
    ∙ ap (λ i. ws ++ record { number = i; path = c.in_ok-path.path; class = class } ∷ []) c.of-id.ensures
    ∙ ap (λ p. ws ++ record { number = n; path = p; class = class } ∷ []) c.in_ok-path.ensures in
    let indexed : c.insert.new.self ≡ fin.insert c.self.inside.index path n =
    c.in_ok-insert.ensures.ok
    ∙ ap (λ m. fin.insert m c.as_bytes.result.now c.of-id.result) c.in_ok-index.ensures
    ∙ ap (λ p. fin.insert c.self.inside.index p c.of-id.result) c.as_bytes.ensures.value
    ∙ ap (fin.insert c.self.inside.index path) c.of-id.ensures in (
      subst (λ vs. WellFormed (record { windows = vs; next = n + 1 })) (sym pushed)
          (well_with (record { windows = ws; next = n }) path class c.self.invariant.0 f.is_one f.new f.found (omega (arith, c.if-self-ge-MAX_NUMBER.false)) c.requires),
      λ q.
          ap (λ m. fin.get m q) indexed ∙ one_more c.self.inside.index ws (record { number = n; path = path; class = class }) c.self.invariant.1 f.new q
          ∙ ap (λ vs. number_at vs (Some q)) (sym pushed),
    )
