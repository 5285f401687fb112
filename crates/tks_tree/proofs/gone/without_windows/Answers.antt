use Rattle.std.proofs.Math.ListN.{drop_of_length-le}
use Rattle.std.proofs.Common.{◌≡◌, [], ◌∷◌, ◌+◌, ◌==◌, drop, sym, ap, subst, ◌∙◌, arith}
use Rattle.std.specs.List.{filter}
use Rattle.std.specs.Prelude.{not}
use Rattle.tks_share.specs.Lists.{Rises}
use Rattle.tks_tree.proofs.Leaving.{without_numbers, one_out, rises_left, drop_next, none_gone}
use Rattle.tks_tree.proofs.gone.without_windows.Goals as goal

pub loop-id-init : goal.loop-id-init
loop-id-init g c =
    let number_of = g.T.Numbered.number_of in
    record {
      rising = subst (Rises number_of 0) (sym c.in_ok-left.ensures) c.requires;
      left = ap (without_numbers number_of c.args.ids.now) c.in_ok-left.ensures;
    }

pub remove_number-requires : goal.remove_number-requires
remove_number-requires g c = c.loop-id.invariant.rising

pub loop-id-preserved : goal.loop-id-preserved
loop-id-preserved g c =
    let number_of = g.T.Numbered.number_of in
    let id = c.id-item.result in
    let left = c.loop-id.left in
    let rest = drop (c.loop-id.id-index + 1) c.args.ids.now in
    let steps : drop c.loop-id.id-index c.args.ids.now ≡ id ∷ rest = drop_next c.args.ids.now c.loop-id.id-index id (omega arith) c.id-item.is in
    let out : c.remove_number.new.self ≡ filter (λ x. not (number_of x == id)) left =
    c.in_ok-remove_number.ensures.ok ∙ ap (λ n. filter (λ x. not (number_of x == n)) left) c.number.ensures in
    record {
      rising = subst (Rises number_of 0) (sym out) (rises_left number_of (λ x. not (number_of x == id)) 0 left c.loop-id.invariant.rising);
      left =
          ap (without_numbers number_of rest) out ∙ one_out number_of id rest left ∙ ap (λ ns. without_numbers number_of ns left) (sym steps)
          ∙ c.loop-id.invariant.left;
    }

pub returns : goal.returns
returns g c =
    let number_of = g.T.Numbered.number_of in
    let none : drop c.loop-id.id-index c.args.ids.now ≡ [] = drop_of_length-le c.args.ids.now (omega (arith, c.loop-id-test.false)) in
    sym (none_gone c.loop-id.left) ∙ ap (λ ns. without_numbers number_of ns c.loop-id.left) (sym none) ∙ c.loop-id.invariant.left
