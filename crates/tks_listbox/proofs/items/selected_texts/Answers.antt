use Rattle.std.proofs.Common.{◌≡◌, ℕ, List, [], ◌∷◌, ◌++◌, map, drop, Option, Some, None, sym, ap, ◌∙◌, rules, arith}
use Rattle.std.proofs.lemmas.List.{append-nil}
use Rattle.std.specs.Prelude.{slice_get}
use Rattle.std.specs.Fmt.{decimal}
use Rattle.tks_listbox.specs.Listbox.{selected_from}
use Rattle.tks_listbox.specs.declared.item.Item.{Item}
use Rattle.tks_listbox.proofs.Among.{some_got}
use Rattle.tks_listbox.proofs.Enclosing.{from_the_front, none_behind}
use Rattle.tks_listbox.proofs.Rising.{selected_on, selected_off}
use Rattle.tks_listbox.proofs.items.selected_texts.Goals as goal
use Rattle.tks_listbox.proofs.items.selected_texts.Goals.{then-item+in_ok-text+in_ok-push, else-item}

pub loop-place-preserved : goal.loop-place-preserved
loop-place-preserved c =
    let place = c.loop-place.place in
    let items = c.args.items.now in
    elim c.if-item.branch [
      | then-item+in_ok-text+in_ok-push w ↦
          let more : c.if-item.texts ≡ c.loop-place.texts ++ decimal place ∷ [] = search rules in
          selected_on place items c.in-Some.item.now c.loop-place.texts c.if-item.texts _ c.in-Some.ensures w.if-item.true more c.loop-place.invariant
      | else-item w ↦
          rw w.texts-is (selected_off place items c.in-Some.item.now c.loop-place.texts _ c.in-Some.ensures w.if-item.false c.loop-place.invariant)
    ]

pub loop-place-init : goal.loop-place-init
loop-place-init c =
    let front = c.args.bounds.front in
    ap (λ (texts : List (List ℕ)). texts ++ map decimal (selected_from front (drop front c.args.items.now))) c.in_ok-texts.ensures
    ∙ ap (map decimal) (sym (from_the_front c.args.bounds c.args.items.now c.requires))

pub unreachable-requires : goal.unreachable-requires
unreachable-requires c =
    let there = some_got c.args.items.now c.loop-place.place (omega (arith, c.requires.within)) in
    let none : slice_get c.args.items.now c.loop-place.place ≡ None = search rules in
    let clash : ◌≡◌ {A = Option Item} (Some there.0) None = there.1 ∙ none in
    cc

pub returns : goal.returns
returns c =
    let items = c.args.items.now in
    let texts : List (List ℕ) = c.loop-place.texts in
    let end : c.loop-place.place ≡ c.args.bounds.behind = omega (arith, c.loop-place.auto.place-end c.requires.order) in
    sym (append-nil texts)
    ∙ ap (λ ns. texts ++ map decimal ns) (sym (none_behind c.args.bounds items c.requires))
    ∙ ap (λ n. texts ++ map decimal (selected_from n (drop n items))) (sym end)
    ∙ c.loop-place.invariant
