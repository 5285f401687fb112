use Rattle.std.proofs.Common.{List, ℕ, ap, ◌∙◌, sym, map, [], ◌∷◌, ◌++◌, arith}
use Rattle.std.proofs.lemmas.List.{map-append}
use Rattle.tks_listbox.specs.Listbox.{among}
use Rattle.tks_listbox.specs.declared.item.Item.{Item}
use Rattle.tks_listbox.proofs.Among.{among_more}
use Rattle.tks_listbox.proofs.items.texts_among.Goals as goal

pub loop-place-preserved : goal.loop-place-preserved
loop-place-preserved c =
    let before = among c.args.front c.loop-place.place c.args.items.now in
    record {
      made =
          c.in_ok-push.ensures.ok
          ∙ ap (λ (ts : List (List ℕ)). ts ++ c.as_bytes.result.now ∷ []) c.loop-place.invariant.made
          ∙ ap (λ (t : List ℕ). map (λ (item : Item). item.text) before ++ t ∷ []) c.as_bytes.ensures.value
          ∙ sym (map-append (λ (item : Item). item.text) before (c.in-Some.item.now ∷ []))
          ∙ ap (map (λ (item : Item). item.text)) (sym (among_more c.args.front c.loop-place.place c.args.items.now c.in-Some.item.now c.loop-place.auto.place c.in-Some.ensures));
      none = λ h. omega arith;
    }
