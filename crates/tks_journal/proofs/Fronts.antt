-- A write behind a front that stays.
use Rattle.std.proofs.Common.{◌≡◌, ◌≤◌, inl, ℕ, ◌+◌, ◌-◌, List, ◌++◌, length, take, drop, sym, ◌∙◌, ap, arith, Result, length-append, append_assoc}
use Rattle.std.proofs.lemmas.List.{length-take, length-drop, take-take, drop-take, take-append-drop}
use Rattle.tks_disk.specs.DiskModel.{View, Images, Writes, TornOn, Torn, Holds, on}
use Rattle.tks_disk.specs.declared.disk.Side.{Side}
use Rattle.tks_journal.specs.Staging.{Begins, AllBegin, KeepsFront}
use Rattle.tks_journal.proofs.Lists.{torn_front, wrote_front}
use Rattle.tks_journal.proofs.Phases.{goes_on}

stays : (side : Side) (stem other : List ℕ) (at n : ℕ) → length stem ≤ at → (d i : Images) → Begins side stem other d → TornOn side at n d i → Begins side stem other i
stays side stem other at n le d i was torn =
    let long : length stem ≤ length (on side d) = omega (arith, ap length was.front, length-take (length stem) (on side d)) in
    record {
      other_side = torn.other ∙ was.other_side;
      front = torn_front at n (length stem) (on side d) (on side i) torn.torn le long ∙ was.front;
    }

-- before the first piece
pub none_yet : (side : Side) (stem other : List ℕ) (v : View) → AllBegin side stem other v → ((i : Images) → v.left_since v.clock i → v.may_leave i) → KeepsFront side stem other v v
none_yet side stem other v all only_now = record {
  reads = all.reads;
  leaves = record {
    later = omega arith;
    each = λ i left. all.images i (only_now i left);
    now = all.images;
    before = λ t i le left. inl left;
  };
}

-- one piece more
pub one_more : {E : Type 0} (side : Side) (stem other : List ℕ) (start mid new : View) (at : ℕ) (bytes : List ℕ) (r : Result (Unit {0}) E) → length stem ≤ at
    → KeepsFront side stem other start mid → Writes side at bytes r mid new → KeepsFront side stem other start new
one_more side stem other start mid new at bytes r le so_far w = record {
  reads = stays side stem other at (length bytes) le mid.reads new.reads so_far.reads w.torn;
  leaves = goes_on start mid new (Begins side stem other) so_far.leaves w.time
      (λ i left. let from = w.crash i left in stays side stem other at (length bytes) le from.0 i (so_far.leaves.now from.0 from.1) from.2);
}

pub piece_written : (at done n : ℕ) (old mid new bytes : List ℕ) → done + n ≤ length bytes → at ≤ length old
    → Torn (at + done) (length (take (done + n - done) (drop done bytes))) mid new → Holds (at + done) (take (done + n - done) (drop done bytes)) mid new
    → take (at + done) mid ≡ take at old ++ take done bytes → take (at + (done + n)) new ≡ take at old ++ take (done + n) bytes
piece_written at done n old mid new bytes fits in_old torn holds so_far =
    let piece = take (done + n - done) (drop done bytes) in
    let size : length piece ≡ n = omega (arith, length-take (done + n - done) (drop done bytes), length-drop done bytes) in
    let reached : at + done ≤ length mid = omega (arith, ap length so_far, length-take (at + done) mid, length-append (take at old) (take done bytes), length-take at old, length-take done bytes) in
    let e : at + (done + n) ≡ at + done + length piece = omega (arith, size) in
    let same : done + n - done ≡ n = omega arith in
    let joined : take done bytes ++ piece ≡ take (done + n) bytes = ap (λ m. take done bytes ++ take m (drop done bytes)) same ∙ ap (λ (l : List ℕ). l ++ take n (drop done bytes)) (sym (take-take done (done + n) bytes (omega arith))) ∙ ap (λ (l : List ℕ). take done (take (done + n) bytes) ++ l) (sym (drop-take done n bytes)) ∙ take-append-drop done (take (done + n) bytes) in
    ap (λ k. take k new) e ∙ wrote_front (at + done) piece mid new torn holds reached ∙ ap (λ (l : List ℕ). l ++ piece) so_far ∙ append_assoc (take at old) (take done bytes) piece
    ∙ ap (λ (l : List ℕ). take at old ++ l) joined
