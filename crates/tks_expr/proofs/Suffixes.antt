-- Each reading leaves the end of its text.
use Rattle.std.proofs.Common.{◌≡◌, ℕ, zero, suc, ◌+◌, ◌-◌, Bool, eqb, List, [], ◌∷◌, length, take, drop, Option, Some, None, Ok, Err, refl, sym, ap, ◌∙◌, subst, arith}
use Rattle.std.specs.Prelude.{◌&&◌}
use Rattle.std.proofs.lemmas.List.{drop-drop, length-drop}
use Rattle.tks_text.specs.Run.{Step, stop, fails, takes, Run}
use Rattle.tks_text.specs.declared.fault.ScriptFault.{ScriptFault}
use Rattle.tks_parse.proofs.Tests.{if_case}
use Rattle.tks_parse.specs.Fault.{expression_syntax}
use Rattle.tks_parse.specs.Reading as script
use Rattle.tks_parse.specs.Tree.{Script, Parts, no_part}
use Rattle.tks_parse.specs.declared.syntax.Syntax.{Syntax}
use Rattle.tks_parse.specs.declared.syntax.Syntax.TheVariants.{Expressions}
use Rattle.tks_expr.specs.Literal.{literal_len}
use Rattle.tks_expr.specs.Sign.{combined, join_at, unary_of}
use Rattle.tks_expr.specs.Tree.{Expr, Literal, Made, Conditional}
use Rattle.tks_expr.specs.Reading.{Read, then_read, begins_name, begins_space, trim, made, literal, close, operand, signs, under, signed, when, on_join, chain, is_level, level, colon, question, conditional, inner, operand_at}
use Rattle.tks_expr.specs.declared.operator.Unary.{Unary}
use Rattle.tks_expr.specs.declared.sign.Join.{Join}

abbrev pub Suffix : List ℕ → List ℕ → Type 0
Suffix t v = (k : ℕ) × (drop k t ≡ v)

-- what r leaves is the end of t
abbrev pub Leaves : List ℕ → Read → Type 0
Leaves t r = (e : Expr) (v : List ℕ) → r ≡ Ok (e, v) → Suffix t v

pub suffix_then : (t u v : List ℕ) → Suffix t u → Suffix u v → Suffix t v
suffix_then t u v a b = (a.0 + b.0, sym (drop-drop b.0 a.0 t) ∙ ap (drop b.0) a.1 ∙ b.1)

pub suffix_more : (c : ℕ) (u v : List ℕ) → Suffix u v → Suffix (c ∷ u) v
suffix_more c u v s = (suc s.0, s.1)

pub drop_none : (k : ℕ) → drop {A = ℕ} k [] ≡ []
drop_none zero = refl
drop_none (suc k) = refl

drop_length : (k : ℕ) (t : List ℕ) → drop (length t - length (drop k t)) t ≡ drop k t
drop_length k [] = drop_none (0 - length (drop {A = ℕ} k [])) ∙ sym (drop_none k)
drop_length zero (c ∷ t) = let none : suc (length t) - suc (length t) ≡ 0 = omega arith in ap (λ n. drop n (c ∷ t)) none
drop_length (suc k) (c ∷ t) =
    let more : suc (length t) - length (drop k t) ≡ suc (length t - length (drop k t)) = omega (arith, length-drop k t) in
    ap (λ n. drop n (c ∷ t)) more ∙ drop_length k t

-- a suffix is what stands behind as many bytes as it is shorter
pub suffix_drop : (t v : List ℕ) → Suffix t v → drop (length t - length v) t ≡ v
suffix_drop t v s = ap (λ x. drop (length t - length x) t) (sym s.1) ∙ drop_length s.0 t ∙ s.1

-- ---- readings, one after another

-- an expression, and what stands behind it
abbrev pub Before : Expr → List ℕ → Read
Before e v = Ok (e, v)

pub ok_rest : (a b : Expr) (t w : List ℕ) → Before a t ≡ Before b w → t ≡ w
ok_rest a b t w e = let both : (a, t) ≡ (b, w) = cc in ap (λ (x : Expr × List ℕ). x.1) both

pub leaves_ok : (t : List ℕ) (a : Expr) (v : List ℕ) → Suffix t v → Leaves t (Before a v)
leaves_ok t a v s e w h = subst (Suffix t) (ok_rest a e v w h) s

pub leaves_fault : (t : List ℕ) (f : ScriptFault) → Leaves t (Err f)
leaves_fault t f e v h = absurd cc

pub leaves_behind : (t u : List ℕ) (r : Read) → Suffix t u → Leaves u r → Leaves t r
leaves_behind t u r s l e v h = suffix_then t u v s (l e v h)

pub leaves_then : (t : List ℕ) (r : Read) (next : Expr → List ℕ → Read) → Leaves t r → ((e : Expr) (v : List ℕ) → Leaves v (next e v)) → Leaves t (then_read r next)
leaves_then t (Ok x) next l n e v h = suffix_then t x.1 v (l x.0 x.1 refl) (n x.0 x.1 e v h)
leaves_then t (Err f) next l n e v h = absurd cc

-- ---- operands

pub trim_suffix : (t : List ℕ) → Suffix t (trim t)
unfolding trim
trim_suffix [] = (0, refl)
trim_suffix (c ∷ u) = if_case (Suffix (c ∷ u)) (begins_space (c ∷ u)) _ _ (λ _. suffix_more c u (trim u) (trim_suffix u)) (λ _. (0, refl))

leaf_leaves : (u : List ℕ) (n : ℕ) (a : Expr) → Leaves u (Before a (trim (drop n u)))
leaf_leaves u n a = leaves_ok u a (trim (drop n u)) (suffix_then u (drop n u) (trim (drop n u)) (n, refl) (trim_suffix (drop n u)))

made_leaves : (u : List ℕ) (s : Step ScriptFault Parts) → Leaves u (made u s)
made_leaves u stop = leaves_fault u expression_syntax
made_leaves u (fails f) = leaves_fault u f
made_leaves u (takes g n) = leaf_leaves u n (Made (g no_part))

text_leaves : (u : List ℕ) (parts : Parts) (n : ℕ) (o : Option ScriptFault) → Leaves u (elim o [ None ↦ Before (Made parts) (trim (drop n u)) | Some f ↦ Err f ])
text_leaves u parts n None = leaf_leaves u n (Made parts)
text_leaves u parts n (Some f) = leaves_fault u f

literal_leaves : (t : List ℕ) → Leaves t (literal t)
unfolding literal
literal_leaves t = if_case (Leaves t) (eqb (literal_len t) 0) _ _ (λ _. leaves_fault t expression_syntax) (λ _. leaf_leaves t (literal_len t) (Literal (take (literal_len t) t)))

close_leaves : (e : Expr) (v : List ℕ) → Leaves v (close e v)
close_leaves e [] = leaves_fault [] expression_syntax
close_leaves e (c ∷ v) = if_case (Leaves (c ∷ v)) (eqb c 41) _ _ (λ _. leaves_ok (c ∷ v) e (trim v) (suffix_more c v (trim v) (trim_suffix v))) (λ _. leaves_fault (c ∷ v) expression_syntax)

module _ (inner' : List ℕ → Read) (nest : List ℕ → Run ScriptFault Script) (index : Syntax → List ℕ → Run ScriptFault Parts) (inside : (t : List ℕ) → Leaves t (inner' t)) where
  behind_first : (c : ℕ) (u : List ℕ) (r : Read) → Leaves u r → Leaves (c ∷ u) r
  behind_first c u r l = leaves_behind (c ∷ u) u r (1, refl) l

  pub operand_leaves : (t : List ℕ) → Leaves t (operand inner' nest index t)
  unfolding operand
  operand_leaves [] = literal_leaves []
  operand_leaves (c ∷ u) =
      let quoted = script.quoted_at nest index Expressions u in
      let braced = script.braced_at Expressions u in
      if_case (Leaves (c ∷ u)) (eqb c 40) _ _ (λ _. behind_first c u _ (leaves_then u (inner' u) close (inside u) close_leaves))
      (λ _. if_case (Leaves (c ∷ u)) (eqb c 91) _ _ (λ _. behind_first c u _ (made_leaves u (script.nested_step nest u)))
      (λ _. if_case (Leaves (c ∷ u)) (eqb c 36 && begins_name u) _ _ (λ _. behind_first c u _ (made_leaves u (script.variable_step index Expressions u)))
      (λ _. if_case (Leaves (c ∷ u)) (eqb c 34) _ _ (λ _. behind_first c u _ (text_leaves u quoted.items quoted.taken quoted.fault))
      (λ _. if_case (Leaves (c ∷ u)) (eqb c 123) _ _ (λ _. behind_first c u _ (text_leaves u braced.items braced.taken braced.fault))
      (λ _. literal_leaves (c ∷ u))))))

-- ---- operators

sign_leaves : (c : ℕ) (u : List ℕ) → Suffix u (signs u).1 → (o : Option Unary) → Suffix (c ∷ u) (elim o as (λ _. List Unary × List ℕ) [ None ↦ ([], c ∷ u) | Some op ↦ (op ∷ (signs u).0, (signs u).1) ]).1
sign_leaves c u s None = (0, refl)
sign_leaves c u s (Some op) = suffix_more c u (signs u).1 s

signs_leave : (t : List ℕ) → Suffix t (signs t).1
signs_leave [] = (0, refl)
signs_leave (c ∷ u) = if_case (λ (x : List Unary × List ℕ). Suffix (c ∷ u) x.1) (begins_space (c ∷ u)) _ _ (λ _. suffix_more c u (signs u).1 (signs_leave u)) (λ _. sign_leaves c u (signs_leave u) (unary_of c))

module _ (operand' : List ℕ → Read) (leaves : (t : List ℕ) → Leaves t (operand' t)) where
  signed_leaves : (t : List ℕ) → Leaves t (signed operand' t)
  signed_leaves t = leaves_then t (operand' (signs t).1) (λ e v. Ok (under (signs t).0 e, v)) (leaves_behind t (signs t).1 (operand' (signs t).1) (signs_leave t) (leaves (signs t).1)) (λ e v. leaves_ok v (under (signs t).0 e) v (0, refl))

-- ---- chains

-- an operator, and the right operand behind it
abbrev pub Goes : (Join → Bool) → (Join → List ℕ → Read) → Expr → List ℕ → Join → ℕ → Read
Goes taken right left u op n = then_read (right op (drop n u)) (λ b v. chain taken right (combined op left b) (length u - length v) u)

after_leaves : (c : ℕ) (u : List ℕ) (go : Expr → List ℕ → Read) → ((e : Expr) (v : List ℕ) → Leaves u (go e v)) → (r : Read) → Leaves (c ∷ u) (then_read r go)
after_leaves c u go ih (Ok y) e w h = suffix_more c u w (ih y.0 y.1 e w h)
after_leaves c u go ih (Err f) e w h = absurd cc

step_leaves : (taken : Join → Bool) (right : Join → List ℕ → Read) (left : Expr) (c : ℕ) (u : List ℕ) → ((l : Expr) (k : ℕ) → Leaves u (chain taken right l k u)) → (o : Option (Join × ℕ)) → Leaves (c ∷ u) (on_join (Ok (left, c ∷ u)) o (Goes taken right left u))
step_leaves taken right left c u ih None = leaves_ok (c ∷ u) left (c ∷ u) (0, refl)
step_leaves taken right left c u ih (Some x) = after_leaves c u (λ b v. chain taken right (combined x.0 left b) (length u - length v) u) (λ b v. ih (combined x.0 left b) (length u - length v)) (right x.0 (drop x.1 u))

chain_leaves : (taken : Join → Bool) (right : Join → List ℕ → Read) (left : Expr) (k : ℕ) (t : List ℕ) → Leaves t (chain taken right left k t)
chain_leaves taken right left k [] = leaves_ok [] left [] (0, refl)
chain_leaves taken right left (suc k) (c ∷ u) = leaves_behind (c ∷ u) u (chain taken right left k u) (1, refl) (chain_leaves taken right left k u)
chain_leaves taken right left zero (c ∷ u) = step_leaves taken right left c u (λ l k. chain_leaves taken right l k u) (when taken (join_at (c ∷ u)))

module _ (operand' : List ℕ → Read) (leaves : (t : List ℕ) → Leaves t (operand' t)) where
  pub level_leaves : (n : ℕ) (t : List ℕ) → Leaves t (level operand' n t)
  unfolding level
  level_leaves zero t = signed_leaves operand' leaves t
  level_leaves (suc n) t =
      leaves_then t (level operand' n t) (λ a u. chain (is_level (suc n)) (λ op. level operand' n) a 0 u) (level_leaves n t) (λ a u. chain_leaves (is_level (suc n)) (λ op. level operand' n) a 0 u)

-- ---- `?:`, and all of it

module _ (inner' : List ℕ → Read) (inside : (t : List ℕ) → Leaves t (inner' t)) where
  colon_leaves : (c a : Expr) (u : List ℕ) → Leaves u (colon inner' c a u)
  colon_leaves c a [] = leaves_fault [] expression_syntax
  colon_leaves c a (x ∷ u) =
      if_case (Leaves (x ∷ u)) (eqb x 58) _ _
      (λ _. leaves_behind (x ∷ u) u _ (1, refl) (leaves_then u (inner' u) (λ b v. Ok (Conditional c a b, v)) (inside u) (λ b v. leaves_ok v (Conditional c a b) v (0, refl))))
      (λ _. leaves_fault (x ∷ u) expression_syntax)

  question_leaves : (c : Expr) (u : List ℕ) → Leaves u (question inner' c u)
  question_leaves c [] = leaves_ok [] c [] (0, refl)
  question_leaves c (x ∷ u) =
      if_case (Leaves (x ∷ u)) (eqb x 63) _ _
      (λ _. leaves_behind (x ∷ u) u _ (1, refl) (leaves_then u (inner' u) (colon inner' c) (inside u) (colon_leaves c)))
      (λ _. leaves_ok (x ∷ u) c (x ∷ u) (0, refl))

  conditional_leaves : (operand' : List ℕ → Read) → ((t : List ℕ) → Leaves t (operand' t)) → (t : List ℕ) → Leaves t (conditional inner' operand' t)
  conditional_leaves operand' leaves t = leaves_then t (level operand' 11 t) (question inner') (level_leaves operand' leaves 11 t) question_leaves

pub inner_leaves : (d : ℕ) (t : List ℕ) → Leaves t (inner d t)
unfolding inner
inner_leaves zero t = leaves_fault t _
inner_leaves (suc d) t = conditional_leaves (inner d) (inner_leaves d) (operand_at d) (operand_leaves (inner d) (script.nest d) (script.index d) (inner_leaves d)) t

pub operand_at_leaves : (d : ℕ) (t : List ℕ) → Leaves t (operand_at d t)
operand_at_leaves d = operand_leaves (inner d) (script.nest d) (script.index d) (inner_leaves d)
