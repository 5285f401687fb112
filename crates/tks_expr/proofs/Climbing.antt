-- Precedence climbing reads what the levels read.
use Rattle.std.proofs.Common.{◌≡◌, ℕ, zero, suc, ◌+◌, ◌-◌, Bool, true, false, cond, eqb, List, [], ◌∷◌, length, drop, Option, Some, None, Ok, Err, refl, sym, ap, ◌∙◌, subst, arith}
use Rattle.std.specs.Prelude.{nat_le}
use Rattle.std.proofs.lemmas.Bool.{eqb-true, eqb-false, leb-true, leb-false}
use Rattle.tks_text.specs.Fault.{Gives}
use Rattle.tks_text.specs.declared.fault.Failure.{Failure}
use Rattle.tks_text.specs.declared.fault.Failure.TheVariants as failure
use Rattle.tks_expr.specs.Sign.{level_of, combined, join_at}
use Rattle.tks_expr.specs.Tree.{Expr}
use Rattle.tks_expr.specs.Reading.{Read, then_read, when, on_join, chain, is_level, within_level, signed, level, level_at, operand_at}
use Rattle.tks_expr.specs.declared.sign.Join.{Join}
use Rattle.tks_expr.specs.declared.sign.Join.TheVariants.{Of, And, Or}
use Rattle.tks_expr.specs.declared.operator.Binary.{Binary}
use Rattle.tks_expr.specs.declared.operator.Binary.TheVariants.{Multiply, Divide, Remainder, Add, Subtract, ShiftLeft, ShiftRight, Less, Greater, AtMost, AtLeast, Equal, NotEqual, SameText, OtherText, BitAnd, BitXor, BitOr}
use Rattle.tks_expr.proofs.Suffixes.{Suffix, Leaves, Goes, suffix_then, suffix_drop, ok_rest, level_leaves, operand_at_leaves}

-- ---- one reading after another

pub then_where : (r : Read) (f g : Expr → List ℕ → Read) → ((e : Expr) (v : List ℕ) → r ≡ Ok (e, v) → f e v ≡ g e v) → then_read r f ≡ then_read r g
then_where (Ok x) f g h = h x.0 x.1 refl
then_where (Err e) f g h = refl

then_then : (r : Read) (f g : Expr → List ℕ → Read) → then_read (then_read r f) g ≡ then_read r (λ e v. then_read (f e v) g)
then_then (Ok x) f g = refl
then_then (Err e) f g = refl

then_ok : (r : Read) → r ≡ then_read r (λ e v. Ok (e, v))
then_ok (Ok x) = refl
then_ok (Err e) = refl

-- ---- chains

chain_skip : (taken : Join → Bool) (right : Join → List ℕ → Read) (left : Expr) (k : ℕ) (t : List ℕ) → chain taken right left k t ≡ chain taken right left 0 (drop k t)
chain_skip taken right left zero t = refl
chain_skip taken right left (suc k) [] = refl
chain_skip taken right left (suc k) (c ∷ u) = chain_skip taken right left k u

-- behind an operand that leaves v, from the text u
pub chain_from : (taken : Join → Bool) (right : Join → List ℕ → Read) (left : Expr) (u v : List ℕ) → Suffix u v → chain taken right left (length u - length v) u ≡ chain taken right left 0 v
chain_from taken right left u v s = chain_skip taken right left (length u - length v) u ∙ ap (chain taken right left 0) (suffix_drop u v s)

-- no operator that is taken stands at the front
abbrev pub Stops : (Join → Bool) → List ℕ → Type 0
Stops taken t = (right : Join → List ℕ → Read) (left : Expr) → chain taken right left 0 t ≡ Ok (left, t)

pub chain_stops : (taken : Join → Bool) (t : List ℕ) → when taken (join_at t) ≡ None → Stops taken t
chain_stops taken [] e right left = refl
chain_stops taken (c ∷ u) e right left = ap (λ o. on_join (Ok (left, c ∷ u)) o (Goes taken right left u)) e

pub chain_takes : (taken : Join → Bool) (right : Join → List ℕ → Read) (left : Expr) (c : ℕ) (u : List ℕ) (x : Join × ℕ) → when taken (join_at (c ∷ u)) ≡ Some x → chain taken right left 0 (c ∷ u) ≡ Goes taken right left u x.0 x.1
chain_takes taken right left c u x e = ap (λ o. on_join (Ok (left, c ∷ u)) o (Goes taken right left u)) e

when_none : (taken : Join → Bool) (t : List ℕ) → join_at t ≡ None → when taken (join_at t) ≡ None
when_none taken t e = ap (when taken) e

pub when_some : (taken : Join → Bool) (t : List ℕ) (x : Join × ℕ) → join_at t ≡ Some x → taken x.0 ≡ true → when taken (join_at t) ≡ Some x
when_some taken t x e k = ap (when taken) e ∙ ap (λ (b : Bool). cond b (Option.Some x) None) k

when_not : (taken : Join → Bool) (t : List ℕ) (x : Join × ℕ) → join_at t ≡ Some x → taken x.0 ≡ false → when taken (join_at t) ≡ None
when_not taken t x e k = ap (when taken) e ∙ ap (λ (b : Bool). cond b (Option.Some x) None) k

-- what a chain leaves begins with no operator that is taken

after_ends : (taken : Join → Bool) (b : Expr) (w : List ℕ) (go : Expr → List ℕ → Read) → ((e : Expr) (v : List ℕ) → go e v ≡ Ok (b, w) → Stops taken w) → (r : Read) → then_read r go ≡ Ok (b, w) → Stops taken w
after_ends taken b w go ih (Ok y) e = ih y.0 y.1 e
after_ends taken b w go ih (Err f) e = absurd cc

step_ends : (taken : Join → Bool) (right : Join → List ℕ → Read) (left : Expr) (c : ℕ) (u : List ℕ) (b : Expr) (w : List ℕ) → ((l : Expr) (k : ℕ) → chain taken right l k u ≡ Ok (b, w) → Stops taken w) → (o : Option (Join × ℕ)) → when taken (join_at (c ∷ u)) ≡ o → on_join (Ok (left, c ∷ u)) o (Goes taken right left u) ≡ Ok (b, w) → Stops taken w
step_ends taken right left c u b w ih None is e = subst (Stops taken) (ok_rest left b (c ∷ u) w e) (chain_stops taken (c ∷ u) is)
step_ends taken right left c u b w ih (Some x) is e = after_ends taken b w (λ b v. chain taken right (combined x.0 left b) (length u - length v) u) (λ y v h. ih (combined x.0 left y) (length u - length v) h) (right x.0 (drop x.1 u)) e

chain_ends : (taken : Join → Bool) (right : Join → List ℕ → Read) (left : Expr) (k : ℕ) (t : List ℕ) (b : Expr) (w : List ℕ) → chain taken right left k t ≡ Ok (b, w) → Stops taken w
chain_ends taken right left k [] b w e = subst (Stops taken) (ok_rest left b [] w e) (λ r l. refl)
chain_ends taken right left (suc k) (c ∷ u) b w e = chain_ends taken right left k u b w e
chain_ends taken right left zero (c ∷ u) b w e = step_ends taken right left c u b w (λ l k h. chain_ends taken right l k u b w h) (when taken (join_at (c ∷ u))) refl e

-- right operands that are the same where they are read

abbrev SameRight : (Join → Bool) → (Join → List ℕ → Read) → (Join → List ℕ → Read) → Type 0
SameRight taken f g = (op : Join) (v : List ℕ) → taken op ≡ true → f op v ≡ g op v

pick_right : (taken : Join → Bool) (f g : Join → List ℕ → Read) → SameRight taken f g → (left : Expr) (c : ℕ) (u : List ℕ) → ((l : Expr) (k : ℕ) → chain taken f l k u ≡ chain taken g l k u) → (x : Join × ℕ) (b : Bool) → taken x.0 ≡ b → on_join (Ok (left, c ∷ u)) (cond b (Option.Some x) None) (Goes taken f left u) ≡ on_join (Ok (left, c ∷ u)) (cond b (Option.Some x) None) (Goes taken g left u)
pick_right taken f g same left c u ih x false e = refl
pick_right taken f g same left c u ih x true e =
    ap (λ r. then_read r (λ b v. chain taken f (combined x.0 left b) (length u - length v) u)) (same x.0 (drop x.1 u) e)
    ∙ then_where (g x.0 (drop x.1 u)) (λ b v. chain taken f (combined x.0 left b) (length u - length v) u) (λ b v. chain taken g (combined x.0 left b) (length u - length v) u) (λ b v h. ih (combined x.0 left b) (length u - length v))

step_right : (taken : Join → Bool) (f g : Join → List ℕ → Read) → SameRight taken f g → (left : Expr) (c : ℕ) (u : List ℕ) → ((l : Expr) (k : ℕ) → chain taken f l k u ≡ chain taken g l k u) → (o : Option (Join × ℕ)) → on_join (Ok (left, c ∷ u)) (when taken o) (Goes taken f left u) ≡ on_join (Ok (left, c ∷ u)) (when taken o) (Goes taken g left u)
step_right taken f g same left c u ih None = refl
step_right taken f g same left c u ih (Some x) = pick_right taken f g same left c u ih x (taken x.0) refl

chain_right : (taken : Join → Bool) (f g : Join → List ℕ → Read) → SameRight taken f g → (left : Expr) (k : ℕ) (t : List ℕ) → chain taken f left k t ≡ chain taken g left k t
chain_right taken f g same left k [] = refl
chain_right taken f g same left (suc k) (c ∷ u) = chain_right taken f g same left k u
chain_right taken f g same left zero (c ∷ u) = step_right taken f g same left c u (λ l k. chain_right taken f g same l k u) (join_at (c ∷ u))

-- ---- the operators of all levels up to one, then those of the next

-- how the level l of an operator lies: within m, the next, or neither
data Lies (m l : ℕ) : Bool → Bool → Bool → Type 0 where
  within : Lies m l true false true
  follows : l ≡ suc m → Lies m l false true true
  looser : Lies m l false false false

lies : (m l : ℕ) (p q r : Bool) → nat_le l m ≡ p → eqb l (suc m) ≡ q → nat_le l (suc m) ≡ r → Lies m l p q r
lies m l true false true a b c = within
lies m l true true r a b c = absurd (omega (arith, leb-true l m a, eqb-true l (suc m) b))
lies m l true false false a b c = absurd (omega (arith, leb-true l m a, leb-false l (suc m) c))
lies m l false true true a b c = follows (eqb-true l (suc m) b)
lies m l false true false a b c = absurd (omega (arith, eqb-true l (suc m) b, leb-false l (suc m) c))
lies m l false false true a b c = absurd (omega (arith, leb-false l m a, eqb-false l (suc m) b, leb-true l (suc m) c))
lies m l false false false a b c = looser

module _ (m : ℕ) (right : Join → List ℕ → Read) (leaves : (op : Join) (t : List ℕ) → Leaves t (right op t)) (ends : (op : Join) (v : List ℕ) (b : Expr) (w : List ℕ) → level_of op ≡ suc m → right op v ≡ Ok (b, w) → Stops (within_level m) w) where
  abbrev Inner : Expr → ℕ → List ℕ → Read
  Inner left k t = chain (within_level m) right left k t

  abbrev Outer : Expr → List ℕ → Read
  Outer left t = chain (is_level (suc m)) right left 0 t

  abbrev All : Expr → ℕ → List ℕ → Read
  All left k t = chain (within_level (suc m)) right left k t

  abbrev TwoAt : List ℕ → Type 0
  TwoAt t = (left : Expr) (k : ℕ) → then_read (Inner left k t) Outer ≡ All left k t

  -- an operator of the next level: behind its right operand stands none within m
  next_goes : (left : Expr) (u : List ℕ) → TwoAt u → (x : Join × ℕ) → level_of x.0 ≡ suc m → Goes (is_level (suc m)) right left u x.0 x.1 ≡ Goes (within_level (suc m)) right left u x.0 x.1
  next_goes left u ih x l =
      then_where (right x.0 (drop x.1 u)) (λ b v. chain (is_level (suc m)) right (combined x.0 left b) (length u - length v) u) (λ b v. All (combined x.0 left b) (length u - length v) u)
      (λ b v h.
      let whole : Expr = combined x.0 left b in
      let k : ℕ = length u - length v in
      let rest : Suffix u v = suffix_then u (drop x.1 u) v (x.1, refl) (leaves x.0 (drop x.1 u) b v h) in
      let none : Inner whole k u ≡ Ok (whole, v) = chain_from (within_level m) right whole u v rest ∙ ends x.0 (drop x.1 u) b v l h right whole in
      chain_from (is_level (suc m)) right whole u v rest ∙ sym (ap (λ r. then_read r Outer) none) ∙ ih whole k)

  within_goes : (left : Expr) (u : List ℕ) → TwoAt u → (x : Join × ℕ) → then_read (Goes (within_level m) right left u x.0 x.1) Outer ≡ Goes (within_level (suc m)) right left u x.0 x.1
  within_goes left u ih x =
      then_then (right x.0 (drop x.1 u)) (λ b v. Inner (combined x.0 left b) (length u - length v) u) Outer
      ∙ then_where (right x.0 (drop x.1 u)) (λ b v. then_read (Inner (combined x.0 left b) (length u - length v) u) Outer) (λ b v. All (combined x.0 left b) (length u - length v) u) (λ b v h. ih (combined x.0 left b) (length u - length v))

  step_two : (left : Expr) (c : ℕ) (u : List ℕ) → TwoAt u → (x : Join × ℕ) → join_at (c ∷ u) ≡ Some x → (p q r : Bool) → within_level m x.0 ≡ p → is_level (suc m) x.0 ≡ q → within_level (suc m) x.0 ≡ r → Lies m (level_of x.0) p q r → then_read (Inner left 0 (c ∷ u)) Outer ≡ All left 0 (c ∷ u)
  step_two left c u ih x e _ _ _ p q r within =
      ap (λ z. then_read z Outer) (chain_takes (within_level m) right left c u x (when_some (within_level m) (c ∷ u) x e p))
      ∙ within_goes left u ih x
      ∙ sym (chain_takes (within_level (suc m)) right left c u x (when_some (within_level (suc m)) (c ∷ u) x e r))
  step_two left c u ih x e _ _ _ p q r (follows l) =
      ap (λ z. then_read z Outer) (chain_stops (within_level m) (c ∷ u) (when_not (within_level m) (c ∷ u) x e p) right left)
      ∙ chain_takes (is_level (suc m)) right left c u x (when_some (is_level (suc m)) (c ∷ u) x e q)
      ∙ next_goes left u ih x l
      ∙ sym (chain_takes (within_level (suc m)) right left c u x (when_some (within_level (suc m)) (c ∷ u) x e r))
  step_two left c u ih x e _ _ _ p q r looser =
      ap (λ z. then_read z Outer) (chain_stops (within_level m) (c ∷ u) (when_not (within_level m) (c ∷ u) x e p) right left)
      ∙ chain_stops (is_level (suc m)) (c ∷ u) (when_not (is_level (suc m)) (c ∷ u) x e q) right left
      ∙ sym (chain_stops (within_level (suc m)) (c ∷ u) (when_not (within_level (suc m)) (c ∷ u) x e r) right left)

  none_two : (left : Expr) (c : ℕ) (u : List ℕ) → join_at (c ∷ u) ≡ None → then_read (Inner left 0 (c ∷ u)) Outer ≡ All left 0 (c ∷ u)
  none_two left c u e =
      ap (λ z. then_read z Outer) (chain_stops (within_level m) (c ∷ u) (when_none (within_level m) (c ∷ u) e) right left)
      ∙ chain_stops (is_level (suc m)) (c ∷ u) (when_none (is_level (suc m)) (c ∷ u) e) right left
      ∙ sym (chain_stops (within_level (suc m)) (c ∷ u) (when_none (within_level (suc m)) (c ∷ u) e) right left)

  -- the operators within m, and then those of the next level
  two_chains : (t : List ℕ) → TwoAt t
  two_chains [] left k = refl
  two_chains (c ∷ u) left (suc k) = two_chains u left k
  two_chains (c ∷ u) left zero = elim (join_at (c ∷ u)) as (λ o. join_at (c ∷ u) ≡ o → then_read (Inner left 0 (c ∷ u)) Outer ≡ All left 0 (c ∷ u)) [
    | None ↦ λ e. none_two left c u e
    | Some x ↦ λ e. step_two left c u (two_chains u) x e (within_level m x.0) (is_level (suc m) x.0) (within_level (suc m) x.0) refl refl refl (lies m (level_of x.0) (within_level m x.0) (is_level (suc m) x.0) (within_level (suc m) x.0) refl refl refl)
  ] refl

-- ---- the levels

-- no operator has a level of 0
binary_some : (op : Binary) → within_level 0 (Of op) ≡ false
binary_some Multiply = refl
binary_some Divide = refl
binary_some Remainder = refl
binary_some Add = refl
binary_some Subtract = refl
binary_some ShiftLeft = refl
binary_some ShiftRight = refl
binary_some Less = refl
binary_some Greater = refl
binary_some AtMost = refl
binary_some AtLeast = refl
binary_some Equal = refl
binary_some NotEqual = refl
binary_some SameText = refl
binary_some OtherText = refl
binary_some BitAnd = refl
binary_some BitXor = refl
binary_some BitOr = refl

level_some : (op : Join) → within_level 0 op ≡ false
level_some (Of op) = binary_some op
level_some And = refl
level_some Or = refl

none_within : (o : Option (Join × ℕ)) → when (within_level 0) o ≡ None
none_within None = refl
none_within (Some x) = ap (λ (b : Bool). cond b (Option.Some x) None) (level_some x.0)

module _ (operand : List ℕ → Read) (leaves : (t : List ℕ) → Leaves t (operand t)) where
  -- what stands on the right of an operator
  abbrev Right : Join → List ℕ → Read
  Right op t = level operand (level_of op - 1) t

  abbrev Climbs : ℕ → Type 0
  Climbs n = (t : List ℕ) → level operand n t ≡ then_read (signed operand t) (λ a u. chain (within_level n) Right a 0 u)

  after_signed : (n : ℕ) (r : Read) (b : Expr) (w : List ℕ) → then_read r (λ a u. chain (within_level n) Right a 0 u) ≡ Ok (b, w) → Stops (within_level n) w
  after_signed n (Ok x) b w e = chain_ends (within_level n) Right x.0 0 x.1 b w e
  after_signed n (Err f) b w e = absurd cc

  right_ends : (m : ℕ) → Climbs m → (op : Join) (v : List ℕ) (b : Expr) (w : List ℕ) → level_of op ≡ suc m → Right op v ≡ Ok (b, w) → Stops (within_level m) w
  right_ends m c op v b w l e =
      let n : level_of op - 1 ≡ m = omega (arith, l) in
      after_signed m (signed operand v) b w (sym (c v) ∙ sym (ap (λ k. level operand k v) n) ∙ e)

  same_right : (m : ℕ) → SameRight (is_level (suc m)) (λ op. level operand m) Right
  same_right m op v e = let n : m ≡ level_of op - 1 = omega (arith, eqb-true (level_of op) (suc m) e) in ap (λ k. level operand k v) n

  pub climbs : (n : ℕ) → Climbs n
  unfolding level
  climbs zero t = then_ok (signed operand t) ∙ then_where (signed operand t) (λ a u. Ok (a, u)) (λ a u. chain (within_level 0) Right a 0 u) (λ a u h. sym (chain_stops (within_level 0) u (none_within (join_at u)) Right a))
  climbs (suc m) t =
      then_where (level operand m t) (λ a u. chain (is_level (suc m)) (λ op. level operand m) a 0 u) (λ a u. chain (is_level (suc m)) Right a 0 u) (λ a u h. chain_right (is_level (suc m)) (λ op. level operand m) Right (same_right m) a 0 u)
      ∙ ap (λ r. then_read r (λ a u. chain (is_level (suc m)) Right a 0 u)) (climbs m t)
      ∙ then_then (signed operand t) (λ a u. chain (within_level m) Right a 0 u) (λ a u. chain (is_level (suc m)) Right a 0 u)
      ∙ then_where (signed operand t) _ (λ a u. chain (within_level (suc m)) Right a 0 u) (λ a u h. two_chains m Right (λ op. level_leaves operand leaves (level_of op - 1)) (right_ends m (climbs m)) u a 0)

-- ---- the loop

-- the right operand of an operator
abbrev pub tighter : ℕ → Join → List ℕ → Read
tighter depth op t = level_at depth (level_of op - 1) t

climbs_at : (d n : ℕ) (t : List ℕ) → level_at d n t ≡ then_read (signed (operand_at d) t) (λ a u. chain (within_level n) (tighter d) a 0 u)
climbs_at d n t = climbs (operand_at d) (operand_at_leaves d) n t

pub climb_begins : (d n : ℕ) (t : List ℕ) (a : Expr) (u : List ℕ) → signed (operand_at d) t ≡ Ok (a, u) → chain (within_level n) (tighter d) a 0 u ≡ level_at d n t
climb_begins d n t a u e = sym (climbs_at d n t ∙ ap (λ r. then_read r (λ a u. chain (within_level n) (tighter d) a 0 u)) e)

pub err_then : {X : Type 0} (view : X → Expr × List ℕ) (e : Failure) (r : Read) (next : Expr → List ℕ → Read) → Gives view (Err e) r → Gives view (Err e) (then_read r next)
err_then view (failure.Script f) r next h = ap (λ z. then_read z next) h
err_then view failure.NoMemory r next h = tt

pub climb_fails_first : {X : Type 0} (view : X → Expr × List ℕ) (e : Failure) (d n : ℕ) (t : List ℕ) → Gives view (Err e) (signed (operand_at d) t) → Gives view (Err e) (level_at d n t)
climb_fails_first view e d n t h = subst (Gives view (Err e)) (sym (climbs_at d n t)) (err_then view e (signed (operand_at d) t) (λ a u. chain (within_level n) (tighter d) a 0 u) h)

no_join : (taken : Join → Bool) (x : Join × ℕ) → when taken (join_at []) ≡ Some x → ⊥
unfolding join_at
no_join taken x e = absurd cc

step_at : (d n : ℕ) (left : Expr) (c : ℕ) (u : List ℕ) (x : Join × ℕ) → when (within_level n) (join_at (c ∷ u)) ≡ Some x → chain (within_level n) (tighter d) left 0 (c ∷ u) ≡ then_read (tighter d x.0 (drop (1 + x.1) (c ∷ u))) (λ b v. chain (within_level n) (tighter d) (combined x.0 left b) (length u - length v) u)
step_at d n left c u x e =
    let one : suc x.1 ≡ 1 + x.1 = omega arith in
    chain_takes (within_level n) (tighter d) left c u x e
    ∙ ap (λ k. then_read (tighter d x.0 (drop k (c ∷ u))) (λ b v. chain (within_level n) (tighter d) (combined x.0 left b) (length u - length v) u)) one

pub climb_fails : {X : Type 0} (view : X → Expr × List ℕ) (e : Failure) (d n : ℕ) (left : Expr) (t : List ℕ) (x : Join × ℕ) (all : Read) → chain (within_level n) (tighter d) left 0 t ≡ all → when (within_level n) (join_at t) ≡ Some x → Gives view (Err e) (tighter d x.0 (drop (1 + x.1) t)) → Gives view (Err e) all
climb_fails view e d n left [] x all h j g = absurd (no_join (within_level n) x j)
climb_fails view e d n left (c ∷ u) x all h j g =
    subst (Gives view (Err e)) (sym (step_at d n left c u x j) ∙ h) (err_then view e (tighter d x.0 (drop (1 + x.1) (c ∷ u))) (λ b v. chain (within_level n) (tighter d) (combined x.0 left b) (length u - length v) u) g)

pub climb_goes : (d n : ℕ) (left : Expr) (t : List ℕ) (x : Join × ℕ) (b : Expr) (v : List ℕ) (all : Read) → chain (within_level n) (tighter d) left 0 t ≡ all → when (within_level n) (join_at t) ≡ Some x → tighter d x.0 (drop (1 + x.1) t) ≡ Ok (b, v) → chain (within_level n) (tighter d) (combined x.0 left b) 0 v ≡ all
climb_goes d n left [] x b v all h j g = absurd (no_join (within_level n) x j)
climb_goes d n left (c ∷ u) x b v all h j g =
    let one : 1 + x.1 ≡ suc x.1 = omega arith in
    let rest : Suffix u v = suffix_then u (drop x.1 u) v (x.1, refl) (level_leaves (operand_at d) (operand_at_leaves d) (level_of x.0 - 1) (drop x.1 u) b v (sym (ap (λ k. tighter d x.0 (drop k (c ∷ u))) one) ∙ g)) in
    sym (chain_from (within_level n) (tighter d) (combined x.0 left b) u v rest)
    ∙ sym (ap (λ r. then_read r (λ b v. chain (within_level n) (tighter d) (combined x.0 left b) (length u - length v) u)) g)
    ∙ sym (step_at d n left c u x j) ∙ h

pub climb_stops : (d n : ℕ) (left : Expr) (t : List ℕ) (all : Read) → chain (within_level n) (tighter d) left 0 t ≡ all → when (within_level n) (join_at t) ≡ None → all ≡ Ok (left, t)
climb_stops d n left t all h j = sym h ∙ chain_stops (within_level n) t j (tighter d) left
