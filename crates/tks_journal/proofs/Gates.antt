-- A gate that is opened: what a crash leaves is as it was, but for the gate's byte.
use Rattle.std.proofs.Common.{◌≡◌, ◌<◌, ℕ, List, [], ◌∷◌, length, get_or, refl, sym, ◌∙◌, ap, subst, arith, add-zero, Result, Ok}
use Rattle.tks_disk.specs.DiskModel.{View, Images, TornOn, Writes, Syncs, on, beside}
use Rattle.tks_disk.specs.declared.disk.Side.{Side}
use Rattle.tks_disk.specs.declared.disk.Side.TheVariants.{A, B}
use Rattle.tks_journal.specs.Moments.{IsSettled}
use Rattle.tks_journal.specs.Sides.{pair}
use Rattle.tks_journal.specs.Staging.{AtGate, Opened}
use Rattle.tks_journal.proofs.Lists.{torn_front, torn_back}
use Rattle.tks_journal.proofs.Phases.{Phase, begun, wrote, synced}

pub pair_of : (side : Side) (i : Images) → i ≡ pair side (on side i) (beside side i)
pair_of A i = refl
pair_of B i = refl

pub on_pair : (side : Side) (x y : List ℕ) → on side (pair side x y) ≡ x
on_pair A x y = refl
on_pair B x y = refl

-- images that agree on both sides are the same
pub exact : (side : Side) (i j : Images) → on side i ≡ on side j → beside side i ≡ beside side j → i ≡ j
exact side i j p q = pair_of side i ∙ ap (λ l. pair side l (beside side i)) p ∙ ap (λ l. pair side (on side j) l) q ∙ sym (pair_of side j)

-- after a sync that succeeded all is synced, where the other side is told
pub settles : {E : Type 0} (side : Side) (u : Unit {0}) (mid new : View) → Syncs {E = E} side (Ok u) mid new → ((i : Images) → new.may_leave i → beside side i ≡ beside side new.reads) → IsSettled new
settles side u mid new s others i left = exact side i new.reads (s.durable i left ∙ sym (ap (on side) s.same)) (others i left)

module _ (v : View) (side : Side) (place : ℕ) (settled : IsSettled v) (within : place < length (on side v.reads)) where
  abbrev Q : Images → Type 0
  Q = AtGate side place v.reads

  start : Q v.reads
  start = record { other_side = refl; before = refl; after = refl; size = refl }

  stays : (d i : Images) → Q d → TornOn side place 1 d i → Q i
  stays d i was torn = record {
    other_side = torn.other ∙ was.other_side;
    before = torn_front place 1 place (on side d) (on side i) torn.torn (omega arith) (omega (arith, was.size)) ∙ was.before;
    after = torn_back place 1 (on side d) (on side i) torn.torn (omega (arith, was.size)) ∙ was.after;
    size = omega (arith, was.size, torn.torn.no_shorter, torn.torn.no_longer);
  }

  pub gate_written : {E : Type 0} (r : Result (Unit {0}) E) (mid : View) → ((i : Images) → v.left_since v.clock i → v.may_leave i) → Writes side place (1 ∷ []) r v mid → Phase v mid Q Q
  gate_written r mid only_now w = wrote Q Q (λ i q. q) v v mid side place (1 ∷ []) r stays (begun Q Q (λ i q. q) v start (λ i left. subst Q (sym (settled i left)) start) only_now) w

  pub gate_synced : {E : Type 0} (r : Result (Unit {0}) E) (mid new : View) → Phase v mid Q Q → Syncs side r mid new → Phase v new Q Q
  gate_synced r mid new so_far s = synced Q Q (λ i q. q) v mid new side r so_far s

  pub gate_opened : {E : Type 0} (u w : Unit {0}) (mid new : View) → Phase v new Q Q → Writes {E = E} side place (1 ∷ []) (Ok u) v mid → Syncs {E = E} side (Ok w) mid new → Opened side place v new
  gate_opened u w mid new ended wrote s = record {
    settled = settles side w mid new s (λ i left. (ended.images i left).other_side ∙ sym ended.reads.other_side);
    at_gate = ended.reads;
    is_open = ap (λ j. get_or (on side j) place 0) s.same ∙ ap (λ k. get_or (on side mid.reads) k 0) (sym (add-zero place)) ∙ wrote.written.each 0 (omega arith);
  }
