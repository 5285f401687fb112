-- Bytes that are written behind a front that stays, and synced.
use Rattle.std.proofs.Common.{◌≡◌, ◌≤◌, ℕ, ◌+◌, List, ◌++◌, length, take, refl, sym, ◌∙◌, ap, subst, arith, Result, Ok}
use Rattle.std.proofs.lemmas.List.{length-take, append_assoc}
use Rattle.tks_disk.specs.DiskModel.{View, Syncs, on, beside}
use Rattle.tks_disk.specs.declared.disk.Side.{Side}
use Rattle.tks_journal.specs.Moments.{IsSettled}
use Rattle.tks_journal.specs.Staging.{Begins, AllBegin, KeepsFront, Staged}
use Rattle.tks_journal.proofs.Gates.{settles}
use Rattle.tks_journal.proofs.Phases.{goes_on, then}

-- the first bytes of a side, so many
pub front_long : (k : ℕ) (x : List ℕ) → k ≤ length x → length (take k x) ≡ k
front_long k x le = omega (arith, length-take k x)

pub all_begin : (v : View) (side : Side) (k : ℕ) → IsSettled v → k ≤ length (on side v.reads) → AllBegin side (take k (on side v.reads)) (beside side v.reads) v
all_begin v side k settled le =
    let here : Begins side (take k (on side v.reads)) (beside side v.reads) v.reads = record { other_side = refl; front = ap (λ n. take n (on side v.reads)) (front_long k (on side v.reads) le) } in
    record { reads = here; images = λ i left. subst (Begins side (take k (on side v.reads)) (beside side v.reads)) (sym (settled i left)) here }

pub still_begin : (side : Side) (stem other : List ℕ) (old new : View) → KeepsFront side stem other old new → AllBegin side stem other new
still_begin side stem other old new kept = record { reads = kept.reads; images = kept.leaves.now }

pub and_then : (side : Side) (stem other : List ℕ) (old mid new : View) → KeepsFront side stem other old mid → KeepsFront side stem other mid new → KeepsFront side stem other old new
and_then side stem other old mid new first second = record {
  reads = second.reads;
  leaves = then old mid new (Begins side stem other) first.leaves second.leaves;
}

pub sync_keeps : {E : Type 0} (side : Side) (stem other : List ℕ) (old mid new : View) (r : Result (Unit {0}) E) → KeepsFront side stem other old mid → Syncs side r mid new → KeepsFront side stem other old new
sync_keeps side stem other old mid new r kept s = record {
  reads = subst (Begins side stem other) (sym s.same) kept.reads;
  leaves = goes_on old mid new (Begins side stem other) kept.leaves s.time (λ i left. kept.leaves.now i (s.crash i left));
}

pub sync_settles : {E : Type 0} (side : Side) (stem other : List ℕ) (old mid new : View) (u : Unit {0}) → KeepsFront side stem other old new → Syncs {E = E} side (Ok u) mid new → IsSettled new
sync_settles side stem other old mid new u kept s = settles side u mid new s (λ i left. (kept.leaves.now i left).other_side ∙ sym kept.reads.other_side)

-- what was written so far, and the next piece
pub and_written : (at more : ℕ) (start old new : List ℕ) (so_far bytes : List ℕ) → take at old ≡ start ++ so_far → take (at + more) new ≡ take at old ++ bytes → take (at + more) new ≡ start ++ (so_far ++ bytes)
and_written at more start old new so_far bytes first second = second ∙ ap (λ (l : List ℕ). l ++ bytes) first ∙ append_assoc start so_far bytes

pub reaches : (at : ℕ) (x : List ℕ) → length (take at x) ≡ at → at ≤ length x
reaches at x e = omega (arith, length-take at x, e)

-- these bytes, written behind the front, are staged once all is synced
pub staged_so : (side : Side) (front n : ℕ) (bytes parts : List ℕ) (old mid new : View) → IsSettled new → beside side new.reads ≡ beside side old.reads → new.reads ≡ mid.reads
    → bytes ≡ parts → front + length bytes ≡ n → take n (on side mid.reads) ≡ take front (on side old.reads) ++ parts → Staged side front bytes old new
staged_so side front n bytes parts old mid new settled other same is size whole = record {
  settled = settled;
  other_side = other;
  stands = ap (λ k. take k (on side new.reads)) size ∙ ap (λ j. take n (on side j)) same ∙ whole ∙ ap (λ (l : List ℕ). take front (on side old.reads) ++ l) (sym is);
}
