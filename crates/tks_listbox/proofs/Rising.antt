-- The places of selected items rise.
use Rattle.std.proofs.Common.{◌≡◌, ℕ, suc, ◌+◌, ◌≤◌, Bool, true, false, if◌then◌else◌, List, [], ◌∷◌, ◌++◌, drop, map, Some, sym, ap, ◌∙◌, append_assoc, arith}
use Rattle.std.specs.Prelude.{slice_get}
use Rattle.std.specs.Fmt.{decimal}
use Rattle.tks_listbox.specs.Listbox.{selected_from}
use Rattle.tks_listbox.specs.Laws.{Rises}
use Rattle.tks_listbox.specs.declared.item.Item.{Item}
use Rattle.tks_listbox.proofs.Among.{behind_got}

from_lower : (low high : ℕ) (ns : List ℕ) → low ≤ high → Rises high ns → Rises low ns
from_lower low high [] h r = tt
from_lower low high (n ∷ ns) h r = let first = r.0 in (omega arith, r.1)

pub rising : (items : List Item) (place : ℕ) → Rises place (selected_from place items)
rising [] place = tt
rising (item ∷ items) place = by item.is_selected (rising items (suc place))
  where
    by : (b : Bool) → Rises (suc place) (selected_from (suc place) items) → Rises place (if b then place ∷ selected_from (suc place) items else selected_from (suc place) items)
    by true r = (omega arith, r)
    by false r = from_lower place (suc place) (selected_from (suc place) items) (omega arith) r

-- ---- told one by one

-- the places from one on, by the item there
here : (place : ℕ) (items : List Item) (x : Item) (b : Bool) → Some x ≡ slice_get items place → x.is_selected ≡ b
    → selected_from place (drop place items) ≡ (if b then place ∷ selected_from (place + 1) (drop (place + 1) items) else selected_from (place + 1) (drop (place + 1) items))
here place items x b got e =
    let next : suc place ≡ place + 1 = omega arith in
    ap (selected_from place) (behind_got items place x got)
    ∙ ap (λ b. if b then place ∷ selected_from (suc place) (drop (suc place) items) else selected_from (suc place) (drop (suc place) items)) e
    ∙ ap (λ n. if b then place ∷ selected_from n (drop n items) else selected_from n (drop n items)) next

pub selected_on : (place : ℕ) (items : List Item) (x : Item) (texts more all : List (List ℕ)) → Some x ≡ slice_get items place → x.is_selected ≡ true → more ≡ texts ++ decimal place ∷ []
    → texts ++ map decimal (selected_from place (drop place items)) ≡ all → more ++ map decimal (selected_from (place + 1) (drop (place + 1) items)) ≡ all
selected_on place items x texts more all got e m so_far =
    let rest = map decimal (selected_from (place + 1) (drop (place + 1) items)) in
    ap (λ ts. ts ++ rest) m ∙ append_assoc texts (decimal place ∷ []) rest ∙ sym (ap (λ ns. texts ++ map decimal ns) (here place items x true got e)) ∙ so_far

pub selected_off : (place : ℕ) (items : List Item) (x : Item) (texts all : List (List ℕ)) → Some x ≡ slice_get items place → x.is_selected ≡ false
    → texts ++ map decimal (selected_from place (drop place items)) ≡ all → texts ++ map decimal (selected_from (place + 1) (drop (place + 1) items)) ≡ all
selected_off place items x texts all got e so_far = sym (ap (λ ns. texts ++ map decimal ns) (here place items x false got e)) ∙ so_far
