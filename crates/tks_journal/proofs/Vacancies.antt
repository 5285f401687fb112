-- Which side may be begun anew.
use Rattle.std.proofs.Common.{◌≡◌, ◌<◌, ℕ, ◌==◌, nat_le, nat_lt, Bool, true, false, cond, List, length, take, drop, Option, Some, None, Result, Ok, Err, refl, sym, ◌∙◌, ap, arith}
use Rattle.std.proofs.lemmas.Bool.Decides.{nat_tests}
use Rattle.tks_spelling.specs.declared.format.Format.{Format}
use Rattle.tks_spelling.specs.declared.header.Header.{Header}
use Rattle.tks_disk.specs.DiskModel.{Images, on, beside}
use Rattle.tks_disk.specs.declared.disk.Side.{Side}
use Rattle.tks_disk.specs.declared.disk.Side.TheVariants.{A, B}
use Rattle.tks_journal.specs.Sides.{Face, closed, unknown, broken, intact, face, frames, Kept, kept, content, decided, held, holds, live_of, pair, other_of}
use Rattle.tks_journal.specs.declared.fault.SideFault.{SideFault}
use Rattle.tks_journal.specs.declared.fault.SideFault.TheVariants.{Damaged}
use Rattle.tks_journal.specs.Resting.{Vacant, gives_way}
use Rattle.tks_journal.proofs.Faces.{closed_face, live_holds}

lt_test : (m n : ℕ) → m < n → nat_lt m n ≡ true
lt_test m n lt = grind (arith, nat_tests)

-- which side a content is of
content_live : (s side : Side) (format f : Format) (header : Header) (rest : List ℕ) (g : ℕ) → live_of (content s format header rest) ≡ Some (side, f, g) → (s ≡ side) × (header.generation ≡ g)
unfolding content
content_live s side format f header rest g e = by_test (nat_le header.world_length (length rest)) (frames (drop header.world_length rest)) e
  where
    by_test : (b : Bool) (k : Option (List (List ℕ))) → live_of (cond b (kept s format header (take header.world_length rest) k) (Err Damaged)) ≡ Some (side, f, g) → (s ≡ side) × (header.generation ≡ g)
    by_test false k e = absurd (cc e)
    by_test true None e = absurd (cc e)
    by_test true (Some bodies) e = let p : (s, format, header.generation) ≡ (side, f, g) = cc e in (ap (λ (q : Side × Format × ℕ). q.0) p, ap (λ (q : Side × Format × ℕ). q.2) p)

content_something : (s : Side) (format : Format) (header : Header) (rest : List ℕ) → content s format header rest ≡ Ok None → ⊥
unfolding content
content_something s format header rest e = by_test (nat_le header.world_length (length rest)) (frames (drop header.world_length rest)) e
  where
    by_test : (b : Bool) (k : Option (List (List ℕ))) → cond b (kept s format header (take header.world_length rest) k) (Err Damaged) ≡ Ok None → ⊥
    by_test false k e = cc e
    by_test true None e = cc e
    by_test true (Some bodies) e = cc e

-- the face of a live side, and what it holds
record Found (side : Side) (f : Face) (kept : Result (Option Kept) SideFault) (g : ℕ) : Type 0 where
  format : Format
  header : Header
  rest : List ℕ
  is : f ≡ intact format header rest
  content_is : kept ≡ content side format header rest
  generation : header.generation ≡ g

found_a : (f other : Face) (m : Format) (g : ℕ) → live_of (decided f other) ≡ Some (A, m, g) → Found A f (decided f other) g
found_a unknown other m g e = absurd (cc e)
found_a closed unknown m g e = absurd (cc e)
found_a closed broken m g e = absurd (cc e)
found_a closed closed m g e = absurd (cc e)
found_a closed (intact fk k y) m g e = absurd (cc ((content_live B A fk m k y g e).0))
found_a broken unknown m g e = absurd (cc e)
found_a broken broken m g e = absurd (cc e)
found_a broken closed m g e = absurd (cc e)
found_a broken (intact fk k y) m g e = absurd (cc e)
found_a (intact fh h x) unknown m g e = absurd (cc e)
found_a (intact fh h x) broken m g e = absurd (cc e)
found_a (intact fh h x) closed m g e = record { format = fh; header = h; rest = x; is = refl; content_is = refl; generation = (content_live A A fh m h x g e).1 }
found_a (intact fh h x) (intact fk k y) m g e = by_tests (h.generation == k.generation) (nat_lt k.generation h.generation) e
  where
    by_tests : (same less : Bool) → live_of (cond same (Err Damaged) (cond less (content A fh h x) (content B fk k y))) ≡ Some (A, m, g) → Found A (intact fh h x) (cond same (Err Damaged) (cond less (content A fh h x) (content B fk k y))) g
    by_tests true less e = absurd (cc e)
    by_tests false true e = record { format = fh; header = h; rest = x; is = refl; content_is = refl; generation = (content_live A A fh m h x g e).1 }
    by_tests false false e = absurd (cc ((content_live B A fk m k y g e).0))

found_b : (other f : Face) (m : Format) (g : ℕ) → live_of (decided other f) ≡ Some (B, m, g) → Found B f (decided other f) g
found_b unknown f m g e = absurd (cc e)
found_b closed unknown m g e = absurd (cc e)
found_b closed broken m g e = absurd (cc e)
found_b closed closed m g e = absurd (cc e)
found_b closed (intact fk k y) m g e = record { format = fk; header = k; rest = y; is = refl; content_is = refl; generation = (content_live B B fk m k y g e).1 }
found_b broken unknown m g e = absurd (cc e)
found_b broken broken m g e = absurd (cc e)
found_b broken closed m g e = absurd (cc e)
found_b broken (intact fk k y) m g e = absurd (cc e)
found_b (intact fh h x) unknown m g e = absurd (cc e)
found_b (intact fh h x) broken m g e = absurd (cc e)
found_b (intact fh h x) closed m g e = absurd (cc ((content_live A B fh m h x g e).0))
found_b (intact fh h x) (intact fk k y) m g e = by_tests (h.generation == k.generation) (nat_lt k.generation h.generation) e
  where
    by_tests : (same less : Bool) → live_of (cond same (Err Damaged) (cond less (content A fh h x) (content B fk k y))) ≡ Some (B, m, g) → Found B (intact fk k y) (cond same (Err Damaged) (cond less (content A fh h x) (content B fk k y))) g
    by_tests true less e = absurd (cc e)
    by_tests false true e = absurd (cc ((content_live A B fh m h x g e).0))
    by_tests false false e = record { format = fk; header = k; rest = y; is = refl; content_is = refl; generation = (content_live B B fk m k y g e).1 }

found : (side : Side) (i : Images) (m : Format) (g : ℕ) → live_of (holds i) ≡ Some (side, m, g) → Found side (face (on side i)) (holds i) g
unfolding held
found A i m g e = found_a (face i.a) (face i.b) m g e
found B i m g e = found_b (face i.a) (face i.b) m g e

other_pair : (side : Side) (x y : List ℕ) → pair (other_of side) x y ≡ pair side y x
other_pair A x y = refl
other_pair B x y = refl

pub beside_other : (side : Side) (i : Images) → beside (other_of side) i ≡ on side i
beside_other A i = refl
beside_other B i = refl

-- The side beside a live one may be begun, in any greater generation.
pub other_vacant : (side : Side) (i : Images) (m : Format) (g next : ℕ) → live_of (holds i) ≡ Some (side, m, g) → g < next → Vacant (other_of side) next i
other_vacant side i m g next e lt =
    let f = found side i m g e in
    let x = on side i in
    record {
      ignored = λ shut c.
          ap (λ y. holds (pair (other_of side) shut y)) (beside_other side i) ∙ ap holds (other_pair side shut x)
          ∙ live_holds side x shut f.format f.header f.rest f.is (ap (gives_way f.header.generation) (closed_face shut c))
          ∙ sym f.content_is;
      yields = ap (λ y. gives_way next (face y)) (beside_other side i) ∙ ap (gives_way next) f.is ∙ lt_test f.header.generation next (omega (arith, f.generation, lt));
    }

both_closed : (a b : Face) → decided a b ≡ Ok None → (a ≡ closed) × (b ≡ closed)
both_closed unknown b e = absurd (cc e)
both_closed closed unknown e = absurd (cc e)
both_closed closed broken e = absurd (cc e)
both_closed closed closed e = (refl, refl)
both_closed closed (intact fk k y) e = absurd (content_something B fk k y e)
both_closed broken unknown e = absurd (cc e)
both_closed broken broken e = absurd (cc e)
both_closed broken closed e = absurd (cc e)
both_closed broken (intact fk k y) e = absurd (cc e)
both_closed (intact fh h x) unknown e = absurd (cc e)
both_closed (intact fh h x) broken e = absurd (cc e)
both_closed (intact fh h x) closed e = absurd (content_something A fh h x e)
both_closed (intact fh h x) (intact fk k y) e = by_tests (h.generation == k.generation) (nat_lt k.generation h.generation) e
  where
    by_tests : (same less : Bool) → cond same (Err Damaged) (cond less (content A fh h x) (content B fk k y)) ≡ Ok None → (intact fh h x ≡ closed) × (intact fk k y ≡ closed)
    by_tests true less e = absurd (cc e)
    by_tests false true e = absurd (content_something A fh h x e)
    by_tests false false e = absurd (content_something B fk k y e)

closed_both : (i : Images) → holds i ≡ Ok None → (face i.a ≡ closed) × (face i.b ≡ closed)
unfolding held
closed_both i e = both_closed (face i.a) (face i.b) e

pub nothing_held : (a b : List ℕ) → face a ≡ closed → face b ≡ closed → held a b ≡ Ok None
unfolding held
nothing_held a b e f = ap (λ x. decided x (face b)) e ∙ ap (decided closed) f

-- Where both sides are closed, the first one may be begun.
pub first_vacant : (i : Images) (next : ℕ) → holds i ≡ Ok None → Vacant A next i
first_vacant i next e =
    let both = closed_both i e in
    record {
      ignored = λ shut c. nothing_held shut i.b (closed_face shut c) both.1 ∙ sym e;
      yields = ap (gives_way next) both.1;
    }
