use Rattle.std.proofs.Common.{rules, ◌≡◌, ◌==◌, true, not, [], ◌∷◌, ◌++◌, sym, subst, ap, ◌∙◌}
use Rattle.std.specs.List.{list_all}
use Rattle.std.proofs.lemmas.List.{map-append}
use Rattle.tks_bind.specs.declared.binding.Binding.{Binding}
use Rattle.tks_bind.specs.Distinct.{all_differ}
use Rattle.tks_bind.specs.WellFormed.{differ}
use Rattle.tks_bind.proofs.Members.{one_on}
use Rattle.tks_bind.proofs.Numbering.{differs_is_new}
use Rattle.tks_bind.proofs.bindings.placed.Goals as goal

pub loop-binding-init : goal.loop-binding-init
loop-binding-init c =
    let all : c.into_iter-binding-iterator.result ≡ c.args.bindings.now = search rules in
    ([], all, c.new-places.ensures)

pub push-requires : goal.push-requires
push-requires c =
    let before = c.loop-binding.invariant in
    let b = c.in-Some.binding.now in
    let steps : c.loop-binding.binding-iterator ≡ b ∷ c.next.new.self = search rules in
    let apart = subst (λ l. all_differ differ l ≡ true) (sym before.1 ∙ ap (λ l. before.0 ++ l) steps) c.requires in
    subst (λ ns. list_all (λ n. not (n == b.number)) ns ≡ true) (sym before.2) (differs_is_new before.0 b c.next.new.self apart)

pub loop-binding-preserved : goal.loop-binding-preserved
loop-binding-preserved c =
    let before = c.loop-binding.invariant in
    let b = c.in-Some.binding.now in
    let left = c.loop-binding.binding-iterator in
    let steps : left ≡ b ∷ c.next.new.self = search rules in (
      before.0 ++ b ∷ [],
      one_on before.0 b c.next.new.self left c.args.bindings.now steps before.1,
      c.in_ok-push.ensures.ok ∙ ap (λ ns. ns ++ b.number ∷ []) before.2 ∙ sym (map-append (λ (d : Binding). d.number) before.0 (b ∷ [])),
    )
