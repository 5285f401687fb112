-- What writes and syncs do to a disk in memory.
use Rattle.std.proofs.Common.{◌≡◌, ◌⊎◌, inl, inr, ◌≤◌, ℕ, List, ◌∷◌, length, Ok, refl, sym, ◌∙◌, ap, subst, arith}
use Rattle.tks_disk.specs.DiskModel.{Images, Elapses, Torn, TornOn, Holds, Writes, Syncs, on, with_side}
use Rattle.tks_disk.specs.MemorySide.{SideState, settled, SideLeaves}
use Rattle.tks_disk.specs.Memory.{MemoryState, images, BothLeave, AreConsistent, SidesWritten, with_settled, HadLeft, memory_view}
use Rattle.tks_disk.specs.declared.disk.Side.{Side}
use Rattle.tks_disk.specs.declared.disk.Side.TheVariants.{A, B}
use Rattle.tks_disk.specs.declared.sides.Sides.{Sides}
use Rattle.tks_disk.proofs.Tearing.{tears, untears, settled_leaves, settled_consistent}

-- one more moment has passed
pub elapses : (old new : MemoryState) → new.past ≡ old.sides ∷ old.past → Elapses (memory_view old) (memory_view new)
elapses old new e = subst (λ (past : List Sides). Elapses (memory_view old) (memory_view (record new { past = past }))) (sym e) (record {
  later = omega arith;
  nothing_else = λ t i le left. seen t i le left;
  keeps = λ t i le left. kept t i le left;
})
  where
    seen : (t : ℕ) (i : Images) → t ≤ length old.past → BothLeave new.sides i ⊎ (((t ≤ length old.past) × BothLeave old.sides i) ⊎ HadLeft t old.past i)
        → (BothLeave old.sides i ⊎ HadLeft t old.past i) ⊎ BothLeave new.sides i
    seen t i le (inl now) = inr now
    seen t i le (inr (inl had)) = inl (inl had.1)
    seen t i le (inr (inr had)) = inl (inr had)

    kept : (t : ℕ) (i : Images) → t ≤ length old.past → BothLeave old.sides i ⊎ HadLeft t old.past i
        → BothLeave new.sides i ⊎ (((t ≤ length old.past) × BothLeave old.sides i) ⊎ HadLeft t old.past i)
    kept t i le (inl now) = inr (inl (le, now))
    kept t i le (inr had) = inr (inr had)

torn_same : (at n : ℕ) (c : List ℕ) → Torn at n c c
torn_same at n c = record { no_shorter = omega arith; no_longer = omega arith; below = λ k lt le. refl; above = λ k lt le. refl }

pub torn_on_same : (side : Side) (at n : ℕ) (i : Images) → TornOn side at n i i
torn_on_same side at n i = record { torn = torn_same at n (on side i); other = refl }

-- a write keeps the sides consistent
pub written_consistent : (side : Side) (at : ℕ) (bytes : List ℕ) (old new : Sides) → AreConsistent old → SidesWritten side at bytes old new → AreConsistent new
written_consistent A at bytes old new was written = (tears at bytes old.a new.a old.a.bytes new.a.bytes written.0 was.0 written.0.torn, subst (λ (s : SideState). SideLeaves s s.bytes) (sym written.1) was.1)
written_consistent B at bytes old new was written = (subst (λ (s : SideState). SideLeaves s s.bytes) (sym written.1) was.0, tears at bytes old.b new.b old.b.bytes new.b.bytes written.0 was.1 written.0.torn)

reads_torn : (side : Side) (at : ℕ) (bytes : List ℕ) (old new : Sides) → SidesWritten side at bytes old new → TornOn side at (length bytes) (images old) (images new)
reads_torn A at bytes old new written = record { torn = written.0.torn; other = ap (λ (s : SideState). s.bytes) written.1 }
reads_torn B at bytes old new written = record { torn = written.0.torn; other = ap (λ (s : SideState). s.bytes) written.1 }

reads_hold : (side : Side) (at : ℕ) (bytes : List ℕ) (old new : Sides) → SidesWritten side at bytes old new → Holds at bytes (on side (images old)) (on side (images new))
reads_hold A at bytes old new written = written.0.holds
reads_hold B at bytes old new written = written.0.holds

crash_torn : (side : Side) (at : ℕ) (bytes : List ℕ) (old new : Sides) (i : Images) → AreConsistent old → SidesWritten side at bytes old new → BothLeave new i → (d : Images) × BothLeave old d × TornOn side at (length bytes) d i
crash_torn A at bytes old new i was written left =
    let from = untears at bytes old.a new.a i.a was.0 written.0 left.0 in
    (record { a = from.0; b = i.b }, (from.1, subst (λ (s : SideState). SideLeaves s i.b) written.1 left.1), record { torn = from.2; other = refl })
crash_torn B at bytes old new i was written left =
    let from = untears at bytes old.b new.b i.b was.1 written.0 left.1 in
    (record { a = i.a; b = from.0 }, (subst (λ (s : SideState). SideLeaves s i.a) written.1 left.0, from.1), record { torn = from.2; other = refl })

may_tear : (side : Side) (at : ℕ) (bytes : List ℕ) (old new : Sides) (d i : Images) → SidesWritten side at bytes old new → BothLeave old d → TornOn side at (length bytes) d i → BothLeave new i
may_tear A at bytes old new d i written left torn =
    (tears at bytes old.a new.a d.a i.a written.0 left.0 torn.torn, subst (λ (l : List ℕ). SideLeaves new.b l) (sym torn.other) (subst (λ (s : SideState). SideLeaves s d.b) (sym written.1) left.1))
may_tear B at bytes old new d i written left torn =
    (subst (λ (l : List ℕ). SideLeaves new.a l) (sym torn.other) (subst (λ (s : SideState). SideLeaves s d.a) (sym written.1) left.0), tears at bytes old.b new.b d.b i.b written.0 left.1 torn.torn)

-- a write that succeeded
pub writes : {E : Type 0} (side : Side) (at : ℕ) (bytes : List ℕ) (old new : MemoryState) → AreConsistent old.sides → SidesWritten side at bytes old.sides new.sides → new.past ≡ old.sides ∷ old.past
    → Writes {E = E} side at bytes (Ok tt) (memory_view old) (memory_view new)
writes side at bytes old new was written past = record {
  written = reads_hold side at bytes old.sides new.sides written;
  torn = reads_torn side at bytes old.sides new.sides written;
  crash = λ i left. crash_torn side at bytes old.sides new.sides i was written left;
  unsynced = λ d i left torn. may_tear side at bytes old.sides new.sides d i written left torn;
  time = elapses old new past;
}

-- a sync keeps the sides consistent
pub settled_are_consistent : (side : Side) (old : Sides) → AreConsistent old → AreConsistent (with_settled side old)
settled_are_consistent A old was = (settled_consistent old.a.bytes, was.1)
settled_are_consistent B old was = (was.0, settled_consistent old.b.bytes)

same_reads : (side : Side) (old : Sides) → images (with_settled side old) ≡ images old
same_reads A old = refl
same_reads B old = refl

is_durable : (side : Side) (old : Sides) (i : Images) → BothLeave (with_settled side old) i → on side i ≡ on side (images old)
is_durable A old i left = settled_leaves old.a.bytes i.a left.0
is_durable B old i left = settled_leaves old.b.bytes i.b left.1

keeps_beside : (side : Side) (old : Sides) (d : Images) → BothLeave old d → BothLeave (with_settled side old) (with_side side (on side (images old)) d)
keeps_beside A old d left = (settled_consistent old.a.bytes, left.1)
keeps_beside B old d left = (left.0, settled_consistent old.b.bytes)

was_left : (side : Side) (old : Sides) (i : Images) → AreConsistent old → BothLeave (with_settled side old) i → BothLeave old i
was_left A old i was left = (subst (λ (l : List ℕ). SideLeaves old.a l) (sym (settled_leaves old.a.bytes i.a left.0)) was.0, left.1)
was_left B old i was left = (left.0, subst (λ (l : List ℕ). SideLeaves old.b l) (sym (settled_leaves old.b.bytes i.b left.1)) was.1)

-- a sync that succeeded
pub syncs : {E : Type 0} (side : Side) (old new : MemoryState) → AreConsistent old.sides → new.sides ≡ with_settled side old.sides → new.past ≡ old.sides ∷ old.past
    → Syncs {E = E} side (Ok tt) (memory_view old) (memory_view new)
syncs side old new was is past = record {
  same = ap images is ∙ same_reads side old.sides;
  durable = λ i left. is_durable side old.sides i (subst (λ (s : Sides). BothLeave s i) is left);
  others = λ d left. subst (λ (s : Sides). BothLeave s (with_side side (on side (images old.sides)) d)) (sym is) (keeps_beside side old.sides d left);
  crash = λ i left. was_left side old.sides i was (subst (λ (s : Sides). BothLeave s i) is left);
  failed = tt;
  time = elapses old new past;
}

-- of a disk that is all synced a crash leaves just that
pub fresh_leaves : (a b : List ℕ) (i : Images) → BothLeave (record { a = settled a; b = settled b }) i → i ≡ record { a = a; b = b }
fresh_leaves a b i left =
    let e : i ≡ record { a = a; b = i.b } = ap (λ (l : List ℕ). record i { a = l }) (settled_leaves a i.a left.0) in
    e ∙ ap (λ (l : List ℕ). record { a = a; b = l }) (settled_leaves b i.b left.1)
