-- A gate that is closed: what a crash leaves is as it was, or the side is closed.
use Rattle.std.proofs.Common.{◌≡◌, ◌⊎◌, inl, inr, ℕ, true, List, [], ◌∷◌, drop, get_or, refl, sym, ◌∙◌, subst, arith, Result}
use Rattle.std.proofs.lemmas.Bool.{cases_eq}
use Rattle.std.proofs.lemmas.Bool.Decides.{nat_tests}
use Rattle.std.proofs.lemmas.List.{drop_all}
use Rattle.tks_disk.specs.DiskModel.{View, Images, Rests, Torn, TornOn, Writes, Syncs, on}
use Rattle.tks_disk.specs.declared.disk.Side.{Side}
use Rattle.tks_journal.specs.Moments.{LeavesOnly, IsSettled}
use Rattle.tks_journal.specs.Sides.{is_closed}
use Rattle.tks_journal.specs.Staging.{Closing}
use Rattle.tks_journal.proofs.Lists.{torn_back}
use Rattle.tks_journal.proofs.Phases.{Phase, goes_on, synced}

pub still_settled : (old new : View) → IsSettled old → Rests old new → IsSettled new
still_settled old new settled rests i left = settled i (rests.crash i left) ∙ sym rests.same

-- a run of no calls
pub none_made : (v : View) (P : Images → Type 0) → IsSettled v → P v.reads → ((i : Images) → v.left_since v.clock i → v.may_leave i) → LeavesOnly v v P
none_made v P settled reads only_now =
    let here : (i : Images) → v.may_leave i → P i = λ i left. subst P (sym (settled i left)) reads in
    record {
      later = omega arith;
      each = λ i left. here i (only_now i left);
      now = here;
      before = λ t i le left. inl left;
    }

-- a call that changes nothing
pub rested : (old mid new : View) (P : Images → Type 0) → LeavesOnly old mid P → Rests mid new → LeavesOnly old new P
rested old mid new P so_far rests = goes_on old mid new P so_far rests.time (λ i left. so_far.now i (rests.crash i left))

pub shut_test : (x b : ℕ) (rest : List ℕ) → (x ≡ 1 → ⊥) → is_closed (x ∷ b ∷ rest) ≡ true
shut_test x b rest ne = grind (arith, nat_tests)

-- the write of one byte at the front of an empty side or over an open gate, torn
closing : (new old : List ℕ) → drop 1 new ≡ drop 1 old → (old ≡ []) ⊎ (get_or old 0 0 ≡ 1) → (new ≡ old) ⊎ (is_closed new ≡ true)
closing [] old e first = inr refl
closing (x ∷ []) old e first = inr refl
closing (x ∷ b ∷ rest) [] e first = absurd (cc e)
closing (x ∷ b ∷ rest) (o ∷ tail) e (inl none) = absurd (cc none)
closing (x ∷ b ∷ rest) (o ∷ tail) e (inr one) = elim (cases_eq x 1) [
  | inl is ↦ inl (cc (is, one, e))
  | inr ne ↦ inr (shut_test x b rest ne)
]

behind_stays : (old new : List ℕ) → Torn 0 1 old new → drop 1 new ≡ drop 1 old
behind_stays [] new torn = drop_all 1 new (omega (arith, torn.no_longer))
behind_stays (x ∷ old) new torn = torn_back 0 1 (x ∷ old) new torn (omega arith)

closes_so : (side : Side) (d i : Images) → TornOn side 0 1 d i → (on side d ≡ []) ⊎ (get_or (on side d) 0 0 ≡ 1) → Closing side d i
closes_so side d i torn first = record { other_side = torn.other; either = closing (on side i) (on side d) (behind_stays (on side d) (on side i) torn.torn) first }

module _ (v m : View) (side : Side) (settled : IsSettled v) (only_now : (i : Images) → v.left_since v.clock i → v.may_leave i) (rests : Rests v m) (first : (on side v.reads ≡ []) ⊎ (get_or (on side v.reads) 0 0 ≡ 1)) where
  abbrev Q : Images → Type 0
  Q = Closing side v.reads

  pub closing_written : {E : Type 0} (r : Result (Unit {0}) E) (new : View) → Writes side 0 (0 ∷ []) r m new → Phase v new Q Q
  closing_written r new w =
      let torn_from : (d i : Images) → d ≡ v.reads → TornOn side 0 1 d i → Q i = λ d i e torn. closes_so side v.reads i (subst (λ j. TornOn side 0 1 j i) e torn) first in
      let images : (i : Images) → new.may_leave i → Q i = λ i left. let from = w.crash i left in torn_from from.0 i (settled from.0 (rests.crash from.0 from.1)) from.2 in
      let start : LeavesOnly v m Q = rested v v m Q (none_made v Q settled (record { other_side = refl; either = inl refl }) only_now) rests in
      record {
        reads = torn_from m.reads new.reads rests.same w.torn;
        images = images;
        leaves = goes_on v m new Q start w.time images;
      }

  pub closing_synced : {E : Type 0} (r : Result (Unit {0}) E) (mid new : View) → Phase v mid Q Q → Syncs side r mid new → Phase v new Q Q
  closing_synced r mid new so_far s = synced Q Q (λ i q. q) v mid new side r so_far s
