-- Spellings one behind the other: what holds of each holds of both.
use Rattle.std.proofs.Common.{◌≡◌, ℕ, suc, ◌+◌, ◌≤◌, ◌⊎◌, inl, inr, List, [], ◌∷◌, ◌++◌, length, drop, Result, Ok, Err, refl, sym, ap, subst, ◌∙◌, append_assoc, arith}
use Rattle.std.proofs.lemmas.List.{drop_at, length-append, get_or-drop}
use Rattle.tks_spelling.specs.Spelling.{Read, ◌>>=◌, Spelling, Spells, IsBytes, Lawful}

-- ---- lists

IsBytes-drop : (n : ℕ) (bytes : List ℕ) → IsBytes bytes → IsBytes (drop n bytes)
IsBytes-drop n bytes h i = rw get_or-drop (h (n + i))

-- what stands behind is bytes too
pub bytes_behind : (bytes front rest : List ℕ) → IsBytes bytes → bytes ≡ front ++ rest → IsBytes rest
bytes_behind bytes front rest h e = subst IsBytes (drop_at front rest (length front) refl) (IsBytes-drop (length front) (front ++ rest) (subst IsBytes e h))

pub not_nil : {A : Type 0} (front : List ℕ) (b : ℕ) (behind : List ℕ) → [] ≡ front ++ b ∷ behind → A
not_nil [] b behind e = absurd cc
not_nil (x ∷ front) b behind e = absurd cc

-- A byte of two lists stands in the first or in the second.
pub data Stands (xs ys front : List ℕ) (b : ℕ) (behind : List ℕ) : Type 0 where
  in_first : (more : List ℕ) → xs ≡ front ++ b ∷ more → behind ≡ more ++ ys → Stands xs ys front b behind
  in_second : (more : List ℕ) → front ≡ xs ++ more → ys ≡ more ++ b ∷ behind → Stands xs ys front b behind

head_is : (x y : ℕ) (xs ys : List ℕ) → x ∷ xs ≡ y ∷ ys → x ≡ y
head_is x y xs ys e = cc

tail_is : (x y : ℕ) (xs ys : List ℕ) → x ∷ xs ≡ y ∷ ys → xs ≡ ys
tail_is x y xs ys e = cc

pub stands : (xs ys front : List ℕ) (b : ℕ) (behind : List ℕ) → xs ++ ys ≡ front ++ b ∷ behind → Stands xs ys front b behind
stands [] ys front b behind e = in_second front refl e
stands (x ∷ xs) ys [] b behind e = in_first xs (ap (λ h. h ∷ xs) (head_is x b (xs ++ ys) behind e)) (sym (tail_is x b (xs ++ ys) behind e))
stands (x ∷ xs) ys (f ∷ front) b behind e =
    let h = head_is x f (xs ++ ys) (front ++ b ∷ behind) e in
    elim (stands xs ys front b behind (tail_is x f (xs ++ ys) (front ++ b ∷ behind) e)) [
      | in_first more p q ↦ in_first more (ap (λ k. k ∷ xs) h ∙ ap (λ (k : List ℕ). f ∷ k) p) q
      | in_second more p q ↦ in_second more (ap (λ k. k ∷ front) (sym h) ∙ ap (λ (k : List ℕ). x ∷ k) p) q
    ]

-- two pieces behind which the rest stands
glued : (bytes first behind second rest both : List ℕ) → bytes ≡ first ++ behind → behind ≡ second ++ rest → both ≡ first ++ second → bytes ≡ both ++ rest
glued bytes first behind second rest both p q r =
    p ∙ ap (λ (w : List ℕ). first ++ w) q ∙ sym (append_assoc first second rest) ∙ ap (λ (w : List ℕ). w ++ rest) (sym r)

-- ---- steps

pub bind_ok : {A B : Type 0} (r : Result A ℕ) (f : A → Result B ℕ) (y : B) → (r >>= f) ≡ Ok y → (x : A) × (r ≡ Ok x) × (f x ≡ Ok y)
bind_ok (Ok x) f y e = (x, refl, e)
bind_ok (Err d) f y e = absurd cc

pub bind_err : {A B : Type 0} (r : Result A ℕ) (f : A → Result B ℕ) (left : ℕ) → (r >>= f) ≡ Err left → (r ≡ Err left) ⊎ ((x : A) × (r ≡ Ok x) × (f x ≡ Err left))
bind_err (Ok x) f left e = inr (x, refl, e)
bind_err (Err d) f left e = inl cc

-- a step that is another one
pub bind_same : {A B : Type 0} (r : Result A ℕ) (f g : A → Result B ℕ) → ((x : A) → f x ≡ g x) → (r >>= f) ≡ (r >>= g)
bind_same (Ok x) f g h = h x
bind_same (Err d) f g h = refl

pub bind_done : {A : Type 0} (r : Result A ℕ) → (r >>= λ x. Ok x) ≡ r
bind_done (Ok x) = refl
bind_done (Err d) = refl

abbrev done : {A : Type 0} → A → Result A ℕ
done x = Ok x

pub ok_is : {A : Type 0} (x y : A) → done x ≡ done y → x ≡ y
ok_is x y e = cc

pub no_fault : {C : Type 0} (x : C) (left : ℕ) → done x ≡ Err left → ⊥
no_fault x left e = cc

-- ---- two spellings one behind the other

module _ {A B T : Type 0} (s : Spelling A) (o : A → Spelling B) (make : A → B → T) (t : Spelling T) where
  pub record Parts (v : T) : Type 0 where
    pub first : A
    pub others : B
    pub is : v ≡ make first others
    pub legal : s.Legal first
    pub fits : (o first).Legal others
    pub parts : t.write v ≡ s.write first ++ (o first).write others

  -- a value of t is made of one of s and one of o
  pub record Joins : Type 0 where
    pub reads : (bytes : List ℕ) → t.read bytes ≡ (s.read bytes >>= λ a. (o a.0).read a.1 >>= λ b. Ok (make a.0 b.0, b.1))
    pub apart : (v : T) → t.Legal v → Parts v
    pub together : (a : A) (b : B) → s.Legal a → (o a).Legal b → t.Legal (make a b) × (t.write (make a b) ≡ s.write a ++ (o a).write b)

module _ {A B T : Type 0} {s : Spelling A} {o : A → Spelling B} {make : A → B → T} {t : Spelling T} (j : Joins s o make t) (first : Lawful s) (others : (a : A) → Lawful (o a)) where
  -- what is read behind the first
  then_read : A → Read B → Read T
  then_read a r = r >>= λ b. Ok (make a b.0, b.1)

  behind_first : (a : A) (rest : List ℕ) → s.Legal a → (r : Read B) → (o a).read rest ≡ r → t.read (s.write a ++ rest) ≡ then_read a r
  unfolding then_read
  behind_first a rest l r e = j.reads (s.write a ++ rest) ∙ rw (first.reads_back a rest l, e) refl

  back : (v : T) (rest : List ℕ) → t.Legal v → t.read (t.write v ++ rest) ≡ Ok (v, rest)
  unfolding then_read
  back v rest l =
      let p = j.apart v l in
      let e = behind_first p.first ((o p.first).write p.others ++ rest) p.legal (Ok (p.others, rest)) ((others p.first).reads_back p.others rest p.fits) in
      ap (λ (w : List ℕ). t.read (w ++ rest)) p.parts
      ∙ ap t.read (append_assoc (s.write p.first) ((o p.first).write p.others) rest)
      ∙ e ∙ ap (λ (w : T). Ok (w, rest)) (sym p.is)

  only : (bytes : List ℕ) (v : T) (rest : List ℕ) → IsBytes bytes → t.read bytes ≡ Ok (v, rest) → Spells t bytes v rest
  only bytes v rest fits e =
      let a = bind_ok (s.read bytes) (λ a. (o a.0).read a.1 >>= λ b. Ok (make a.0 b.0, b.1)) (v, rest) (sym (j.reads bytes) ∙ e) in
      let b = bind_ok ((o a.0.0).read a.0.1) (λ b. Ok (make a.0.0 b.0, b.1)) (v, rest) a.2 in
      let p = first.nothing_else bytes a.0.0 a.0.1 fits a.1 in
      let q = (others a.0.0).nothing_else a.0.1 b.0.0 b.0.1 (bytes_behind bytes (s.write a.0.0) a.0.1 fits p.parts) b.1 in
      let m = j.together a.0.0 b.0.0 p.legal q.legal in
      let made : T × List ℕ = (make a.0.0 b.0.0, b.0.1) in
      let whole = glued bytes (s.write a.0.0) a.0.1 ((o a.0.0).write b.0.0) b.0.1 (t.write (make a.0.0 b.0.0)) p.parts q.parts m.1 in
      subst (λ (x : T × List ℕ). Spells t bytes x.0 x.1) {x = made} (ok_is made (v, rest) b.2) (record { legal = m.0; parts = whole })

  inside : (bytes : List ℕ) (left : ℕ) → IsBytes bytes → t.read bytes ≡ Err left → left ≤ length bytes
  inside bytes left fits e =
      elim (bind_err (s.read bytes) (λ a. (o a.0).read a.1 >>= λ b. Ok (make a.0 b.0, b.1)) left (sym (j.reads bytes) ∙ e)) [
        | inl f ↦ first.within bytes left fits f
        | inr a ↦
            let p = first.nothing_else bytes a.0.0 a.0.1 fits a.1 in
            elim (bind_err ((o a.0.0).read a.0.1) (λ b. Ok (make a.0.0 b.0, b.1)) left a.2) [
              | inl f ↦
                  let k = (others a.0.0).within a.0.1 left (bytes_behind bytes (s.write a.0.0) a.0.1 fits p.parts) f in
                  let n : length bytes ≡ length (s.write a.0.0) + length a.0.1 = ap length p.parts ∙ length-append (s.write a.0.0) a.0.1 in
                  omega (arith, k, n)
              | inr b ↦ absurd (no_fault _ left b.2)
            ]
      ]

  -- a fault behind the first, which is read whatever stands behind the fault
  past_first : (a : A) (rest front : List ℕ) (b : ℕ) (behind other : List ℕ) → s.Legal a → IsBytes rest → (o a).read rest ≡ Err (suc (length behind)) → Stands (s.write a) rest front b behind → t.read (front ++ b ∷ other) ≡ Err (suc (length other))
  unfolding then_read
  past_first a rest front b behind other l fits e (in_first more p q) =
      let k = (others a).within rest (suc (length behind)) fits e in
      let n : length behind ≡ length more + length rest = ap length q ∙ length-append more rest in
      absurd (omega (arith, k, n))
  past_first a rest front b behind other l fits e (in_second more p q) =
      let f = (others a).sure more b behind other (subst IsBytes q fits) (ap (o a).read (sym q) ∙ e) in
      ap (λ (w : List ℕ). t.read (w ++ b ∷ other)) p
      ∙ ap t.read (append_assoc (s.write a) more (b ∷ other))
      ∙ behind_first a (more ++ b ∷ other) l (Err (suc (length other))) f

  certain : (front : List ℕ) (b : ℕ) (behind other : List ℕ) → IsBytes (front ++ b ∷ behind) → t.read (front ++ b ∷ behind) ≡ Err (suc (length behind)) → t.read (front ++ b ∷ other) ≡ Err (suc (length other))
  certain front b behind other fits e =
      elim (bind_err (s.read (front ++ b ∷ behind)) (λ a. (o a.0).read a.1 >>= λ b. Ok (make a.0 b.0, b.1)) (suc (length behind)) (sym (j.reads (front ++ b ∷ behind)) ∙ e)) [
        | inl f ↦ j.reads (front ++ b ∷ other) ∙ ap (λ r. r >>= λ a. (o a.0).read a.1 >>= λ b. Ok (make a.0 b.0, b.1)) (first.sure front b behind other fits f)
        | inr a ↦
            let p = first.nothing_else (front ++ b ∷ behind) a.0.0 a.0.1 fits a.1 in
            elim (bind_err ((o a.0.0).read a.0.1) (λ b. Ok (make a.0.0 b.0, b.1)) (suc (length behind)) a.2) [
              | inl f ↦ past_first a.0.0 a.0.1 front b behind other p.legal (bytes_behind (front ++ b ∷ behind) (s.write a.0.0) a.0.1 fits p.parts) f (stands (s.write a.0.0) a.0.1 front b behind (sym p.parts))
              | inr b ↦ absurd (no_fault _ (suc (length behind)) b.2)
            ]
      ]

  early_at : (a : A) (rest front : List ℕ) (b : ℕ) (behind : List ℕ) → s.Legal a → IsBytes rest → (o a).read rest ≡ Err (suc (length behind)) → Stands (s.write a) rest front b behind → t.read front ≡ Err 0
  unfolding then_read
  early_at a rest front b behind l fits e (in_first more p q) =
      let k = (others a).within rest (suc (length behind)) fits e in
      let n : length behind ≡ length more + length rest = ap length q ∙ length-append more rest in
      absurd (omega (arith, k, n))
  early_at a rest front b behind l fits e (in_second more p q) =
      ap t.read p ∙ behind_first a more l (Err 0) ((others a).early more b behind (subst IsBytes q fits) (ap (o a).read (sym q) ∙ e))

  before_fault : (front : List ℕ) (b : ℕ) (behind : List ℕ) → IsBytes (front ++ b ∷ behind) → t.read (front ++ b ∷ behind) ≡ Err (suc (length behind)) → t.read front ≡ Err 0
  before_fault front b behind fits e =
      elim (bind_err (s.read (front ++ b ∷ behind)) (λ a. (o a.0).read a.1 >>= λ b. Ok (make a.0 b.0, b.1)) (suc (length behind)) (sym (j.reads (front ++ b ∷ behind)) ∙ e)) [
        | inl f ↦ j.reads front ∙ ap (λ r. r >>= λ a. (o a.0).read a.1 >>= λ b. Ok (make a.0 b.0, b.1)) (first.early front b behind fits f)
        | inr a ↦
            let p = first.nothing_else (front ++ b ∷ behind) a.0.0 a.0.1 fits a.1 in
            elim (bind_err ((o a.0.0).read a.0.1) (λ b. Ok (make a.0.0 b.0, b.1)) (suc (length behind)) a.2) [
              | inl f ↦ early_at a.0.0 a.0.1 front b behind p.legal (bytes_behind (front ++ b ∷ behind) (s.write a.0.0) a.0.1 fits p.parts) f (stands (s.write a.0.0) a.0.1 front b behind (sym p.parts))
              | inr b ↦ absurd (no_fault _ (suc (length behind)) b.2)
            ]
      ]

  cut_at : (v : T) (front : List ℕ) (b : ℕ) (behind : List ℕ) (p : Parts s o make t v) → Stands (s.write p.first) ((o p.first).write p.others) front b behind → t.read front ≡ Err 0
  unfolding then_read
  cut_at v front b behind p (in_first more q r) = j.reads front ∙ rw (first.cut p.first front b more p.legal q) refl
  cut_at v front b behind p (in_second more q r) =
      ap t.read q ∙ behind_first p.first more p.legal (Err 0) ((others p.first).cut p.others more b behind p.fits r)

  ends : (v : T) (front : List ℕ) (b : ℕ) (behind : List ℕ) → t.Legal v → t.write v ≡ front ++ b ∷ behind → t.read front ≡ Err 0
  ends v front b behind l e =
      let p = j.apart v l in
      cut_at v front b behind p (stands (s.write p.first) ((o p.first).write p.others) front b behind (sym p.parts ∙ e))

  pub joins_lawful : Lawful t
  joins_lawful = record { reads_back = back; nothing_else = only; within = inside; sure = certain; early = before_fault; cut = ends }
