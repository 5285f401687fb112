-- Which side is live, by what was read of both.
use Rattle.std.proofs.Common.{◌≡◌, ℕ, ◌==◌, nat_lt, Bool, true, false, cond, List, ◌++◌, length, take, drop, Option, Some, None, IfSome, Result, Ok, Err, refl, sym, ◌∙◌, ap, subst, arith, take-append-drop}
use Rattle.std.proofs.lemmas.Bool.Decides.{nat_tests}
use Rattle.tks_spelling.specs.declared.format.Format.{Format}
use Rattle.tks_spelling.specs.declared.header.Header.{Header}
use Rattle.tks_disk.specs.DiskModel.{View, Images, on, beside}
use Rattle.tks_disk.specs.declared.disk.Side.{Side}
use Rattle.tks_disk.specs.declared.disk.Side.TheVariants.{A, B}
use Rattle.tks_journal.specs.Fronts.{HeadOf, FrontIs, live_front}
use Rattle.tks_journal.specs.Loading.{StoredAt}
use Rattle.tks_journal.specs.Moments.{IsSettled}
use Rattle.tks_journal.specs.Resting.{HoldsNothing, gives_way}
use Rattle.tks_journal.specs.Sides.{Face, closed, unknown, broken, intact, face, Kept, content, decided, held, holds}
use Rattle.tks_journal.specs.declared.fault.SideFault.{SideFault}
use Rattle.tks_journal.specs.declared.fault.SideFault.TheVariants.{Damaged}
use Rattle.tks_journal.specs.declared.front.Front.{Front}
use Rattle.tks_journal.specs.declared.front.Front.TheVariants.{Closed, Unknown, Broken, Intact}
use Rattle.tks_journal.specs.declared.front.Head.{Head}
use Rattle.tks_journal.proofs.Faces.{live_holds}
use Rattle.tks_journal.proofs.Openings.{headed_face}
use Rattle.tks_journal.proofs.Vacancies.{nothing_held}

head_face : (format : Format) (header : Header) (at : ℕ) (x bytes : List ℕ) → HeadOf format header at x → face (take at x ++ bytes) ≡ intact format header bytes
head_face format header at x bytes is = ap (λ (l : List ℕ). face (l ++ bytes)) is.front ∙ headed_face format header (drop 2 (take at x)) bytes is.spelled is.given

-- a side's face, by its front
abbrev face_like : Front → List ℕ → Face
face_like Closed x = closed
face_like Unknown x = unknown
face_like Broken x = broken
face_like (Intact head) x = intact head.format head.header (drop head.at x)

front_face : (f : Front) (x : List ℕ) → FrontIs f x → face x ≡ face_like f x
front_face Closed x is = is
front_face Unknown x is = is
front_face Broken x is = is
front_face (Intact head) x is = ap face (sym (take-append-drop head.at x)) ∙ head_face head.format head.header head.at x (drop head.at x) is.0

-- ---- a fault

like_fault : (a b : Front) (x y : List ℕ) (f : SideFault) → live_front a b ≡ Err f → decided (face_like a x) (face_like b y) ≡ Err f
like_fault Unknown b x y f e = cc e
like_fault Closed Unknown x y f e = cc e
like_fault Closed Broken x y f e = cc e
like_fault Closed Closed x y f e = absurd (cc e)
like_fault Closed (Intact k) x y f e = absurd (cc e)
like_fault Broken Unknown x y f e = cc e
like_fault Broken Broken x y f e = cc e
like_fault Broken Closed x y f e = cc e
like_fault Broken (Intact k) x y f e = cc e
like_fault (Intact h) Unknown x y f e = cc e
like_fault (Intact h) Broken x y f e = cc e
like_fault (Intact h) Closed x y f e = absurd (cc e)
like_fault (Intact h) (Intact k) x y f e = by_tests (h.header.generation == k.header.generation) (nat_lt k.header.generation h.header.generation) e
  where
    by_tests : (same less : Bool) → cond {A = Result (Option (Side × Head)) SideFault} same (Err Damaged) (cond less (Ok (Some (A, h))) (Ok (Some (B, k)))) ≡ Err f
        → cond {A = Result (Option Kept) SideFault} same (Err Damaged) (cond less (content A h.format h.header (drop h.at x)) (content B k.format k.header (drop k.at y))) ≡ Err f
    by_tests true less e = cc e
    by_tests false true e = absurd (cc e)
    by_tests false false e = absurd (cc e)

pub live_front_fault : (a b : Front) (i : Images) (f : SideFault) → FrontIs a i.a → FrontIs b i.b → live_front a b ≡ Err f → holds i ≡ Err f
unfolding held
live_front_fault a b i f is_a is_b e = ap (λ (x : Face). decided x (face i.b)) (front_face a i.a is_a) ∙ ap (decided (face_like a i.a)) (front_face b i.b is_b) ∙ like_fault a b i.a i.b f e

-- ---- neither side

both_closed : (a b : Front) (x y : List ℕ) → FrontIs a x → FrontIs b y → live_front a b ≡ Ok None → (face x ≡ closed) × (face y ≡ closed)
both_closed Unknown b x y is_a is_b e = absurd (cc e)
both_closed Closed Unknown x y is_a is_b e = absurd (cc e)
both_closed Closed Broken x y is_a is_b e = absurd (cc e)
both_closed Closed Closed x y is_a is_b e = (is_a, is_b)
both_closed Closed (Intact k) x y is_a is_b e = absurd (cc e)
both_closed Broken Unknown x y is_a is_b e = absurd (cc e)
both_closed Broken Broken x y is_a is_b e = absurd (cc e)
both_closed Broken Closed x y is_a is_b e = absurd (cc e)
both_closed Broken (Intact k) x y is_a is_b e = absurd (cc e)
both_closed (Intact h) Unknown x y is_a is_b e = absurd (cc e)
both_closed (Intact h) Broken x y is_a is_b e = absurd (cc e)
both_closed (Intact h) Closed x y is_a is_b e = absurd (cc e)
both_closed (Intact h) (Intact k) x y is_a is_b e = by_tests (h.header.generation == k.header.generation) (nat_lt k.header.generation h.header.generation) e
  where
    by_tests : (same less : Bool) → cond {A = Result (Option (Side × Head)) SideFault} same (Err Damaged) (cond less (Ok (Some (A, h))) (Ok (Some (B, k)))) ≡ Ok None → (face x ≡ closed) × (face y ≡ closed)
    by_tests true less e = absurd (cc e)
    by_tests false true e = absurd (cc e)
    by_tests false false e = absurd (cc e)

pub live_front_nothing : (a b : Front) (v : View) → IsSettled v → FrontIs a v.reads.a → FrontIs b v.reads.b → live_front a b ≡ Ok None → HoldsNothing v
live_front_nothing a b v settled is_a is_b e =
    let both = both_closed a b v.reads.a v.reads.b is_a is_b e in
    record { settled = settled; nothing = nothing_held v.reads.a v.reads.b both.0 both.1 }

-- ---- one of them

record Selected (side : Side) (head : Head) (i : Images) : Type 0 where
  head_of : HeadOf head.format head.header head.at (on side i)
  size : head.len ≡ length (on side i)
  yields : gives_way head.header.generation (face (beside side i)) ≡ true

not_less : (m n : ℕ) → (m == n) ≡ false → nat_lt n m ≡ false → nat_lt m n ≡ true
not_less m n differ less = grind (arith, nat_tests)

of_pair : (i : Images) (s side : Side) (h head : Head) → Selected s h i → ◌≡◌ {A = Side × Head} (s, h) (side, head) → Selected side head i
of_pair i s side h head selected e = subst (λ (p : Side × Head). Selected p.0 p.1 i) e selected

selected : (a b : Front) (i : Images) (side : Side) (head : Head) → FrontIs a i.a → FrontIs b i.b → live_front a b ≡ Ok (Some (side, head)) → Selected side head i
selected Unknown b i side head is_a is_b e = absurd (cc e)
selected Closed Unknown i side head is_a is_b e = absurd (cc e)
selected Closed Broken i side head is_a is_b e = absurd (cc e)
selected Closed Closed i side head is_a is_b e = absurd (cc e)
selected Closed (Intact k) i side head is_a is_b e = of_pair i B side k head (record { head_of = is_b.0; size = is_b.1; yields = ap (gives_way k.header.generation) is_a }) (cc e)
selected Broken Unknown i side head is_a is_b e = absurd (cc e)
selected Broken Broken i side head is_a is_b e = absurd (cc e)
selected Broken Closed i side head is_a is_b e = absurd (cc e)
selected Broken (Intact k) i side head is_a is_b e = absurd (cc e)
selected (Intact h) Unknown i side head is_a is_b e = absurd (cc e)
selected (Intact h) Broken i side head is_a is_b e = absurd (cc e)
selected (Intact h) Closed i side head is_a is_b e = of_pair i A side h head (record { head_of = is_a.0; size = is_a.1; yields = ap (gives_way h.header.generation) is_b }) (cc e)
selected (Intact h) (Intact k) i side head is_a is_b e = by_tests (h.header.generation == k.header.generation) refl (nat_lt k.header.generation h.header.generation) refl e
  where
    by_tests : (same : Bool) → (h.header.generation == k.header.generation) ≡ same → (less : Bool) → nat_lt k.header.generation h.header.generation ≡ less
        → cond {A = Result (Option (Side × Head)) SideFault} same (Err Damaged) (cond less (Ok (Some (A, h))) (Ok (Some (B, k)))) ≡ Ok (Some (side, head)) → Selected side head i
    by_tests true d less l e = absurd (cc e)
    by_tests false d true l e = of_pair i A side h head (record { head_of = is_a.0; size = is_a.1; yields = ap (gives_way h.header.generation) (front_face (Intact k) i.b is_b) ∙ l }) (cc e)
    by_tests false d false l e = of_pair i B side k head (record { head_of = is_b.0; size = is_b.1; yields = ap (gives_way k.header.generation) (front_face (Intact h) i.a is_a) ∙ not_less h.header.generation k.header.generation d l }) (cc e)

pub live_front_stored : (a b : Front) (v : View) (side : Side) (head : Head) → IsSettled v → FrontIs a v.reads.a → FrontIs b v.reads.b → live_front a b ≡ Ok (Some (side, head)) → StoredAt v side head.format head.header head.at head.len
live_front_stored a b v side head settled is_a is_b e =
    let s = selected a b v.reads side head is_a is_b e in
    record {
      settled = settled;
      size = s.size;
      within = omega (arith, s.size, s.head_of.within);
      passes = λ bytes. live_holds side (take head.at (on side v.reads) ++ bytes) (beside side v.reads) head.format head.header bytes (head_face head.format head.header head.at (on side v.reads) bytes s.head_of) s.yields;
    }

-- the same as a clause of what was found
pub live_front_so : (H : Type 0) (a b : Front) (v : View) (o : Option (Side × Head)) → (H → IsSettled v × FrontIs a v.reads.a × FrontIs b v.reads.b) → live_front a b ≡ Ok o
    → IfSome o (λ found. H → StoredAt v found.0 found.1.format found.1.header found.1.at found.1.len)
live_front_so H a b v None facts e = tt
live_front_so H a b v (Some found) facts e = λ h. let f = facts h in live_front_stored a b v found.0 found.1 f.0 f.1 f.2 e
