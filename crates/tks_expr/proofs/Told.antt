-- What is read is spelled so.
use Rattle.std.proofs.Common.{◌≡◌, ℕ, zero, suc, ◌+◌, ◌-◌, Bool, true, false, cond, eqb, List, [], ◌∷◌, length, take, drop, Option, Some, None, Ok, Err, refl, sym, ap, ◌∙◌, subst, arith, inl, inr}
use Rattle.std.specs.Prelude.{◌||◌, ◌&&◌}
use Rattle.std.proofs.lemmas.Bool.{eqb-true, eqb-false}
use Rattle.tks_text.specs.Integer.{is_space}
use Rattle.tks_text.specs.Run.{Step, Run, ended}
use Rattle.tks_text.specs.declared.fault.ScriptFault.{ScriptFault}
use Rattle.tks_parse.specs.Braces.{braced_len, verbatim}
use Rattle.tks_parse.specs.Class.{is_name_char}
use Rattle.tks_parse.specs.Fault.{expression_syntax}
use Rattle.tks_parse.specs.Reading as script
use Rattle.tks_text.specs.Text.{BeginsNot}
use Rattle.tks_parse.specs.Script.{NameThen, BracedThen, PartsThen, Fails, PartFails, BracketsFail, IndexFails}
use Rattle.tks_parse.specs.Tree.{Parts, no_part, variable, element, nested, chars}
use Rattle.tks_parse.specs.declared.mode.Mode.TheVariants.{Quoted}
use Rattle.tks_parse.specs.declared.syntax.Syntax.TheVariants.{Expressions}
use Rattle.tks_text.proofs.Tests.{or_case}
use Rattle.tks_parse.proofs.Braced.{braced_told, unclosed_told, verbatim_told}
use Rattle.tks_parse.proofs.Spelled.{variable_at}
use Rattle.tks_parse.proofs.Tests.{if_case, and_cases, drop_one}
use Rattle.tks_parse.proofs.Told.{BracketCase, bracket_is, bracket_fails, IndexCase, index_is, index_fails, PartCase, at_stop, at_char, at_escape, at_variable, at_bracket, at_index, at_fault, PartsOutcome, part_case, parts_told, brackets_told, indexes_told, index_rest}
use Rattle.tks_expr.specs.Expression.{Then, SpaceThen, sign_of, IsOnePart, OperandThen, StartsOperand, SignedThen, ChainThen, LevelThen, ConditionalThen, InsideThen, ExprThen, opens_operand, OperandFails, SignedFails, LevelFails, ConditionalFails, InsideFails, ExprFails, ExprOf}
use Rattle.tks_expr.specs.Literal.{literal_len, numeral_len, word_len}
use Rattle.tks_expr.specs.Sign.{level_of, combined, join_at, unary_of}
use Rattle.tks_expr.specs.Tree.{Expr, Made, One, Conditional}
use Rattle.tks_expr.specs.Reading.{Read, then_read, bad_syntax, begins_name, begins_line, begins_space, trim, made, made_text, literal, close, operand, signs, under, signed, when, on_join, chain, is_level, level, colon, question, inner, operand_at, conditional_at, ended_read, expr_of}
use Rattle.tks_expr.specs.declared.operator.Unary.{Unary}
use Rattle.tks_expr.specs.declared.sign.Join.{Join}
use Rattle.tks_expr.proofs.Fronts.{no_space_told, sign_told, start_told, join_none, join_told, no_join_told}
use Rattle.tks_expr.proofs.Literals.{literal_reads, literal_spelled}
use Rattle.tks_expr.proofs.Suffixes.{Suffix, Leaves, drop_none, suffix_then, suffix_drop, level_leaves, operand_at_leaves}

-- what a reading of t gave, by what is told of expressions and of faults
abbrev pub Told : Then → Fails → List ℕ → Read → Type 0
Told T F t (Ok x) = T x.0 t x.1
Told T F t (Err f) = F t f

abbrev pub Tells : (List ℕ → Read) → Then → Fails → Type 0
Tells f T F = (t : List ℕ) → Told T F t (f t)

-- ---- operands

-- what holds behind a blank, a tab, a newline, or a backslash before a newline
backslash_told : (P : List ℕ → Type 0) → ((t : List ℕ) → P (10 ∷ t) → P (92 ∷ 10 ∷ t)) → (c : ℕ) (u : List ℕ) → c ≡ 92 → begins_line u ≡ true → P u → P (c ∷ u)
backslash_told P backslash c [] e l h = absurd cc
backslash_told P backslash c (d ∷ t) e l h =
    let newline : d ≡ 10 = eqb-true d 10 l in
    subst (λ x. P (x ∷ d ∷ t)) (sym e) (subst (λ y. P (92 ∷ y ∷ t)) (sym newline) (backslash t (subst (λ y. P (y ∷ t)) newline h)))

blank_told : (P : List ℕ → Type 0) → ((c : ℕ) (t : List ℕ) → is_space c ≡ true → P t → P (c ∷ t)) → ((t : List ℕ) → P (10 ∷ t) → P (92 ∷ 10 ∷ t)) → (c : ℕ) (u : List ℕ) → begins_space (c ∷ u) ≡ true → P u → P (c ∷ u)
blank_told P space backslash c u k h =
    or_case (is_space c) (eqb c 92 && begins_line u) k (λ s. space c u s h)
    (λ l. let b = and_cases (eqb c 92) (begins_line u) l in backslash_told P backslash c u (eqb-true c 92 b.0) b.1 h)

space_told : (t : List ℕ) → SpaceThen t (trim t)
unfolding trim
space_told [] = SpaceThen.none [] tt
space_told (c ∷ u) =
    if_case (SpaceThen (c ∷ u)) (begins_space (c ∷ u)) _ _
    (λ k. blank_told (λ t. SpaceThen t (trim u)) (λ d t. SpaceThen.space d t (trim u)) (λ t. SpaceThen.backslash t (trim u)) c u k (space_told u))
    (λ k. SpaceThen.none (c ∷ u) (no_space_told (c ∷ u) k))

-- the same, where t is known as another text
space_from : (t u : List ℕ) → t ≡ u → SpaceThen u (trim t)
space_from t u e = subst (λ x. SpaceThen x (trim t)) e (space_told t)

close_rest : (n : ℕ) (u y : List ℕ) (c : ℕ) → drop n u ≡ c ∷ y → drop (n + 1) u ≡ y
close_rest n u y c e = let one : n + 1 ≡ suc n = omega arith in ap (λ k. drop k u) one ∙ drop_one n u y c e

-- a `$` is read as in quotes
dollar_case : (d c : ℕ) (u : List ℕ) → c ≡ 36 → PartCase d (Quoted Expressions) c u (script.variable_step (script.index d) Expressions u)
dollar_case d c u e =
    subst (λ x. PartCase d (Quoted Expressions) x u (script.variable_step (script.index d) Expressions u)) (sym e)
    (subst (PartCase d (Quoted Expressions) 36 u) (variable_at (script.nest d) (script.index d) (Quoted Expressions) u) (part_case d (Quoted Expressions) 36 u (brackets_told d) (indexes_told d)))

module _ (Inside : Then) (Fail : Fails) where
  abbrev T : ℕ → Then
  T d = OperandThen Inside d

  abbrev F : ℕ → Fails
  F d = OperandFails Inside Fail d

  close_told : (d : ℕ) (u : List ℕ) (r : Read) → Told Inside Fail u r → Told (T d) (F d) (40 ∷ u) (then_read r close)
  close_told d u (Err f) h = OperandFails.in_parentheses u f h
  close_told d u (Ok (e, [])) h = OperandFails.unclosed e u [] h tt
  close_told d u (Ok (e, c ∷ w)) h =
      if_case (Told (T d) (F d) (40 ∷ u)) (eqb c 41) _ _
      (λ k. OperandThen.parenthesis e u w (trim w) (subst (λ x. Inside e u (x ∷ w)) (eqb-true c 41 k) h) (space_told w))
      (λ k. OperandFails.unclosed e u (c ∷ w) h k)

  -- a part that is told, with n bytes behind its first
  part_told : (d c : ℕ) (u w : List ℕ) (n : ℕ) (parts : Parts) → IsOnePart parts → PartsThen parts d (Quoted Expressions) (c ∷ u) w → drop n u ≡ w → T d (Made parts) (c ∷ u) (trim (drop n u))
  part_told d c u w n parts one h r = OperandThen.part parts (c ∷ u) w (trim (drop n u)) one h (space_from (drop n u) w r)

  part_fails : (d c k : ℕ) (u : List ℕ) (f : ScriptFault) → c ≡ k → PartFails (BracketsFail d) (IndexFails d) (Quoted Expressions) (k ∷ u) f → F d (c ∷ u) f
  part_fails d c k u f e h = OperandFails.in_part (c ∷ u) f (subst (λ x. PartFails (BracketsFail d) (IndexFails d) (Quoted Expressions) (x ∷ u) f) (sym e) h)

  bracket_told : (d c : ℕ) (u : List ℕ) (s : Step ScriptFault Parts) → c ≡ 91 → BracketCase d u s → Told (T d) (F d) (c ∷ u) (made u s)
  bracket_told _ c _ _ e (bracket_is d u s n w h r) = part_told (suc d) c u w n (nested s no_part) (IsOnePart.script s) (u, w, ap (λ x. x ∷ u) e, h, refl) r
  bracket_told _ c _ _ e (bracket_fails d u f h) = part_fails d c 91 u f e (PartFails.in_brackets u f h)

  index_told : (name : List ℕ) (n d c : ℕ) (u v : List ℕ) (s : Step ScriptFault Parts) → c ≡ 36 → NameThen name u (40 ∷ v) → drop n u ≡ 40 ∷ v → IndexCase Expressions name n d v s → Told (T d) (F d) (c ∷ u) (made u s)
  index_told name n _ c u _ _ e h r (index_is d s parts k w p q) =
      part_told (suc d) c u w (n + 1 + k + 1) (element name parts no_part) (IsOnePart.in_array name parts) (u, s, w, ap (λ x. x ∷ u) e, h, p, refl) (index_rest u s w n k r q)
  index_told name n _ c u _ _ e h r (index_fails d s f p) = part_fails d c 36 u f e (PartFails.in_index name u s f h p)

  no_lone_dollar : (u : List ℕ) → begins_name u ≡ true → BeginsNot (λ d. is_name_char d || eqb d 123) u → ⊥
  no_lone_dollar [] b h = absurd cc
  no_lone_dollar (c ∷ u) b h = let both : true ≡ false = sym b ∙ h in absurd cc

  variable_told : (d c : ℕ) (u : List ℕ) (s : Step ScriptFault Parts) → c ≡ 36 → begins_name u ≡ true → PartCase d (Quoted Expressions) c u s → Told (T d) (F d) (c ∷ u) (made u s)
  variable_told d c u _ e b (at_stop s) = let no : eqb 36 34 ≡ true = subst (λ x. eqb x 34 ≡ true) e s in absurd cc
  variable_told d c u _ e b (at_char s) = absurd (no_lone_dollar u b (s.no_variable e))
  variable_told d c u _ e b (at_escape x n w k s r) = let no = sym e ∙ k in absurd (omega (arith, no))
  variable_told d c u _ e b (at_variable name n w k s r) = part_told d c u w n (variable name no_part) (IsOnePart.scalar name) (u, w, ap (λ x. x ∷ u) k, s, refl) r
  variable_told d c u _ e b (at_bracket s k h) = let no = sym e ∙ k in absurd (omega (arith, no))
  variable_told d c u _ e b (at_index s name n v k h r i) = index_told name n d c u v s k h r i
  variable_told d c u _ e b (at_fault f h) = OperandFails.in_part (c ∷ u) f h

  quoted_told : (d : ℕ) (u : List ℕ) (o : Option ScriptFault) (ps : Parts) (n : ℕ) (v : List ℕ) → drop n u ≡ v → PartsOutcome d (Quoted Expressions) u o ps v → Told (T d) (F d) (34 ∷ u) (made_text u (elim o as (λ _. Run ScriptFault Parts) [ None ↦ script.close_text expression_syntax ps n v | Some f ↦ ended no_part (Some f) ]))
  quoted_told d u (Some f) ps n v e h = OperandFails.in_quotes u f h
  quoted_told d u None ps n [] e h = OperandFails.quote_unclosed u ps h.0
  quoted_told d u None ps n (c ∷ z) e h = OperandThen.quotes ps u z (trim (drop (n + 1) u)) (subst (λ x. PartsThen ps d (Quoted Expressions) u (x ∷ z)) (eqb-true c 34 h.1) h.0) (space_from (drop (n + 1) u) z (close_rest n u z c e))

  braced_operand : (d : ℕ) (u inside : List ℕ) (n : ℕ) (v : List ℕ) → drop n u ≡ v → (v ≡ [] → (inside w : List ℕ) → BracedThen inside u w → ⊥) → ((c : ℕ) (w : List ℕ) → v ≡ c ∷ w → BracedThen inside u w) → Told (T d) (F d) (123 ∷ u) (made_text u (script.close_text expression_syntax (chars (verbatim inside) no_part) n v))
  braced_operand d u inside n [] e none some = OperandFails.brace_unclosed u (none refl)
  braced_operand d u inside n (c ∷ z) e none some = OperandThen.braces inside (verbatim inside) u z (trim (drop (n + 1) u)) (some c z refl) (verbatim_told inside) (space_from (drop (n + 1) u) z (close_rest n u z c e))

  literal_told : (d : ℕ) (t : List ℕ) → BeginsNot opens_operand t → Told (T d) (F d) t (literal t)
  unfolding literal
  literal_told d t b =
      let n = literal_len t in
      if_case (Told (T d) (F d) t) (eqb n 0) _ _
      (λ k. OperandFails.no_operand t b (λ text v h. let none = eqb-true n 0 k in absurd (omega (arith, none, (literal_reads text t v h).some))))
      (λ k. OperandThen.literal (take n t) t (drop n t) (trim (drop n t)) (literal_spelled t (omega (arith, eqb-false n 0 k))) (space_told (drop n t)))

  lone_dollar_is : (u : List ℕ) → literal (36 ∷ u) ≡ bad_syntax
  unfolding literal literal_len numeral_len word_len
  lone_dollar_is u = refl

  lone_told : (d : ℕ) (u : List ℕ) → begins_name u ≡ false → BeginsNot (λ c. is_name_char c || eqb c 123) u
  lone_told d [] e = tt
  lone_told d (c ∷ u) e = e

  dollar_told : (d c : ℕ) (u : List ℕ) → c ≡ 36 → begins_name u ≡ false → Told (T d) (F d) (c ∷ u) (literal (c ∷ u))
  dollar_told d c u e b = rw (e, lone_dollar_is u) (OperandFails.lone_dollar u (lone_told d u b))

  -- what begins with none of the characters that open an operand, or with a `$` alone
  other_told : (d c : ℕ) (u : List ℕ) → eqb c 40 ≡ false → eqb c 91 ≡ false → (eqb c 36 && begins_name u) ≡ false → eqb c 34 ≡ false → eqb c 123 ≡ false → Told (T d) (F d) (c ∷ u) (literal (c ∷ u))
  other_told d c u p q r s k = elim (eqb c 36) as (λ b. eqb c 36 ≡ b → Told (T d) (F d) (c ∷ u) (literal (c ∷ u))) [
    | true ↦ λ e. dollar_told d c u (eqb-true c 36 e) (sym (ap (λ b. b && begins_name u) e) ∙ r)
    | false ↦ λ e. literal_told d (c ∷ u) (rw (p, q, e, s, k) refl)
  ] refl

module _ (d : ℕ) (inside_told : Tells (inner d) (InsideThen d) (InsideFails d)) where
  abbrev Operand : Then
  Operand = OperandThen (InsideThen d) d

  abbrev Fault : Fails
  Fault = OperandFails (InsideThen d) (InsideFails d) d

  operand_told : Tells (operand_at d) Operand Fault
  unfolding operand script.quoted_at script.braced_at
  operand_told [] = literal_told (InsideThen d) (InsideFails d) d [] tt
  operand_told (c ∷ u) =
      let In = InsideThen d in
      let Fl = InsideFails d in
      let p = script.parts_at (script.nest d) (script.index d) (Quoted Expressions) u in
      let n = braced_len 0 false u in
      if_case (Told Operand Fault (c ∷ u)) (eqb c 40) _ _
      (λ k. rw (eqb-true c 40 k) (close_told In Fl d u (inner d u) (inside_told u)))
      (λ k40. if_case (Told Operand Fault (c ∷ u)) (eqb c 91) _ _
      (λ k. bracket_told In Fl d c u (script.nested_step (script.nest d) u) (eqb-true c 91 k) (brackets_told d u))
      (λ k91. if_case (Told Operand Fault (c ∷ u)) (eqb c 36 && begins_name u) _ _
      (λ k. let both = and_cases (eqb c 36) (begins_name u) k in variable_told In Fl d c u (script.variable_step (script.index d) Expressions u) (eqb-true c 36 both.0) both.1 (dollar_case d c u (eqb-true c 36 both.0)))
      (λ k36. if_case (Told Operand Fault (c ∷ u)) (eqb c 34) _ _
      (λ k. rw (eqb-true c 34 k) (quoted_told In Fl d u p.fault p.items p.taken (drop p.taken u) refl (parts_told d (Quoted Expressions) (brackets_told d) (indexes_told d) u)))
      (λ k34. if_case (Told Operand Fault (c ∷ u)) (eqb c 123) _ _
      (λ k. rw (eqb-true c 123 k) (braced_operand In Fl d u (take n u) n (drop n u) refl (λ e. unclosed_told u e) (λ x w e. braced_told u x w e)))
      (λ k123. other_told In Fl d c u k40 k91 k36 k34 k123)))))

-- ---- signs

-- one more character in front
told_map : (S' T' : Then) (F' G' : Fails) (t u : List ℕ) (r : Read) → ((e : Expr) (v : List ℕ) → S' e u v → T' e t v) → ((f : ScriptFault) → F' u f → G' t f) → Told S' F' u r → Told T' G' t r
told_map S' T' F' G' t u (Ok x) g k h = g x.0 x.1 h
told_map S' T' F' G' t u (Err f) g k h = k f h

module _ (operand' : List ℕ → Read) (Operand' : Then) (Fault' : Fails) (tells : Tells operand' Operand' Fault') where
  abbrev S : Then
  S = SignedThen Operand'

  abbrev G : Fails
  G = SignedFails Fault'

  -- an operand under the signs that were read
  abbrev With : List Unary × List ℕ → Read
  With p = then_read (operand' p.1) (λ e v. Ok (under p.0 e, v))

  no_sign_told : (t : List ℕ) (r : Read) → StartsOperand t → Told Operand' Fault' t r → Told S G t (then_read r (λ e v. Ok (e, v)))
  no_sign_told t (Ok x) s h = SignedThen.operand x.0 t x.1 s h
  no_sign_told t (Err f) s h = SignedFails.operand t f s h

  one_told : (op : Unary) (ops : List Unary) (u : List ℕ) (r : Read) → Told S G u (then_read r (λ e v. Ok (under ops e, v))) → Told S G (sign_of op ∷ u) (then_read r (λ e v. Ok (One op (under ops e), v)))
  one_told op ops u (Ok x) h = SignedThen.sign op (under ops x.0) u x.1 h
  one_told op ops u (Err f) h = SignedFails.sign op u f h

  first_told : (c : ℕ) (u : List ℕ) (o : Option Unary) → begins_space (c ∷ u) ≡ false → unary_of c ≡ o → Told S G u (With (signs u)) → Told S G (c ∷ u) (With (elim o as (λ _. List Unary × List ℕ) [ None ↦ ([], c ∷ u) | Some op ↦ (op ∷ (signs u).0, (signs u).1) ]))
  first_told c u None s e h = no_sign_told (c ∷ u) (operand' (c ∷ u)) (start_told c u s e) (tells (c ∷ u))
  first_told c u (Some op) s e h = subst (λ x. Told S G (x ∷ u) (With (op ∷ (signs u).0, (signs u).1))) (sym (sign_told c op e)) (one_told op (signs u).0 u (operand' (signs u).1) h)

  signed_told : Tells (signed operand') S G
  signed_told [] = no_sign_told [] (operand' []) tt (tells [])
  signed_told (c ∷ u) =
      if_case (λ (p : List Unary × List ℕ). Told S G (c ∷ u) (With p)) (begins_space (c ∷ u)) _ _
      (λ k. told_map S S G G (c ∷ u) u (With (signs u))
      (λ e v. blank_told (λ t. S e t v) (λ d t. SignedThen.space d e t v) (λ t. SignedThen.backslash e t v) c u k)
      (λ f. blank_told (λ t. G t f) (λ d t. SignedFails.space d t f) (λ t. SignedFails.backslash t f) c u k) (signed_told u))
      (λ k. first_told c u (unary_of c) k refl (signed_told u))

-- ---- levels

picked : (taken : Join → Bool) (t : List ℕ) (y x : Join × ℕ) (b : Bool) → join_at t ≡ Some y → taken y.0 ≡ b → cond b (Option.Some y) None ≡ Some x → (join_at t ≡ Some x) × (taken x.0 ≡ true)
picked taken t y x false e k h = absurd cc
picked taken t y x true e k h = let same : y ≡ x = cc in (e ∙ h, ap (λ (z : Join × ℕ). taken z.0) (sym same) ∙ k)

-- an operator that is taken is at the front, and is taken
when_is : (taken : Join → Bool) (t : List ℕ) (o : Option (Join × ℕ)) (x : Join × ℕ) → join_at t ≡ o → when taken o ≡ Some x → (join_at t ≡ Some x) × (taken x.0 ≡ true)
when_is taken t None x e h = absurd cc
when_is taken t (Some y) x e h = picked taken t y x (taken y.0) e refl h

module _ (operand' : List ℕ → Read) (Operand' : Then) (Fault' : Fails) (tells : Tells operand' Operand' Fault') (leaves : (t : List ℕ) → Leaves t (operand' t)) where
  abbrev L : ℕ → Then
  L n = LevelThen Operand' n

  abbrev M : ℕ → Fails
  M n = LevelFails Operand' Fault' n

  module _ (n : ℕ) (below : Tells (level operand' n) (L n) (M n)) (t : List ℕ) where
    -- what is told behind a left operand, and k bytes
    abbrev Goes : List ℕ → Type 0
    Goes u = (left : Expr) (k : ℕ) → ChainThen (L n) (suc n) left t (drop k u) → Told (L (suc n)) (M (suc n)) t (chain (is_level (suc n)) (λ op. level operand' n) left k u)

    right_told : (left : Expr) (c : ℕ) (u : List ℕ) → Goes u → ChainThen (L n) (suc n) left t (c ∷ u) → (x : Join × ℕ) → level_of x.0 ≡ suc n → join_at (c ∷ u) ≡ Some x → (r : Read) → Leaves (drop x.1 u) r → Told (L n) (M n) (drop x.1 u) r → Told (L (suc n)) (M (suc n)) t (then_read r (λ b v. chain (is_level (suc n)) (λ op. level operand' n) (combined x.0 left b) (length u - length v) u))
    right_told left c u ih j x l e (Err f) s h = inr (x.0, left, c ∷ u, drop x.1 u, j, l, join_told c u x e, h)
    right_told left c u ih j x l e (Ok y) s h =
        let rest : Suffix u y.1 = suffix_then u (drop x.1 u) y.1 (x.1, refl) (s y.0 y.1 refl) in
        ih (combined x.0 left y.0) (length u - length y.1)
        (subst (λ w. ChainThen (L n) (suc n) (combined x.0 left y.0) t w) (sym (suffix_drop u y.1 rest)) (ChainThen.more x.0 left y.0 t (c ∷ u) (drop x.1 u) y.1 j l (join_told c u x e) h))

    step_told : (left : Expr) (c : ℕ) (u : List ℕ) → Goes u → ChainThen (L n) (suc n) left t (c ∷ u) → (o : Option (Join × ℕ)) → when (is_level (suc n)) (join_at (c ∷ u)) ≡ o → Told (L (suc n)) (M (suc n)) t (on_join (Ok (left, c ∷ u)) o (λ op k. then_read (level operand' n (drop k u)) (λ b v. chain (is_level (suc n)) (λ op. level operand' n) (combined op left b) (length u - length v) u)))
    step_told left c u ih j None e = (j, no_join_told (suc n) (c ∷ u) e)
    step_told left c u ih j (Some x) e =
        let is = when_is (is_level (suc n)) (c ∷ u) (join_at (c ∷ u)) x refl e in
        right_told left c u ih j x (eqb-true (level_of x.0) (suc n) is.1) is.0 (level operand' n (drop x.1 u)) (level_leaves operand' leaves n (drop x.1 u)) (below (drop x.1 u))

    chain_told : (u : List ℕ) → Goes u
    chain_told [] left k j = (subst (λ w. ChainThen (L n) (suc n) left t w) (drop_none k) j, no_join_told (suc n) [] (ap (when (is_level (suc n))) join_none))
    chain_told (c ∷ u) left (suc k) j = chain_told u left k j
    chain_told (c ∷ u) left zero j = step_told left c u (chain_told u) j (when (is_level (suc n)) (join_at (c ∷ u))) refl

    from_first : (r : Read) → Told (L n) (M n) t r → Told (L (suc n)) (M (suc n)) t (then_read r (λ a u. chain (is_level (suc n)) (λ op. level operand' n) a 0 u))
    from_first (Err f) h = inl h
    from_first (Ok x) h = chain_told x.1 x.0 0 (ChainThen.first x.0 t x.1 h)

  pub level_told : (n : ℕ) → Tells (level operand' n) (L n) (M n)
  unfolding level
  level_told zero t = signed_told operand' Operand' Fault' tells t
  level_told (suc n) t = from_first n (level_told n) t (level operand' n t) (level_told n t)

-- ---- `?:`, and all of it

module _ (inner' : List ℕ → Read) (Inside : Then) (InsideF : Fails) (inside : Tells inner' Inside InsideF) (Operand' : Then) (Fault' : Fails) where
  abbrev C : Then
  C = ConditionalThen Inside Operand'

  abbrev D : Fails
  D = ConditionalFails Inside Operand' InsideF Fault'

  last_told : (c a : Expr) (t u w : List ℕ) → LevelThen Operand' 11 c t (63 ∷ u) → Inside a u (58 ∷ w) → (r : Read) → Told Inside InsideF w r → Told C D t (then_read r (λ b v. Ok (Conditional c a b, v)))
  last_told c a t u w h i (Ok x) k = ConditionalThen.conditional c a x.0 t u w x.1 h i k
  last_told c a t u w h i (Err f) k = ConditionalFails.right c a t u w f h i k

  colon_told : (c : Expr) (t u : List ℕ) → LevelThen Operand' 11 c t (63 ∷ u) → (r : Read) → Told Inside InsideF u r → Told C D t (then_read r (colon inner' c))
  colon_told c t u h (Err f) k = ConditionalFails.middle c t u f h k
  colon_told c t u h (Ok (a, [])) k = ConditionalFails.no_colon c a t u [] h k tt
  colon_told c t u h (Ok (a, x ∷ w)) k =
      if_case (Told C D t) (eqb x 58) _ _
      (λ q. last_told c a t u w h (subst (λ z. Inside a u (z ∷ w)) (eqb-true x 58 q) k) (inner' w) (inside w))
      (λ q. ConditionalFails.no_colon c a t u (x ∷ w) h k q)

  question_told : (t : List ℕ) (r : Read) → Told (LevelThen Operand' 11) (LevelFails Operand' Fault' 11) t r → Told C D t (then_read r (question inner'))
  question_told t (Err f) h = ConditionalFails.condition t f h
  question_told t (Ok (c, [])) h = ConditionalThen.binary c t [] h tt
  question_told t (Ok (c, x ∷ u)) h =
      if_case (Told C D t) (eqb x 63) _ _
      (λ q. colon_told c t u (subst (λ z. LevelThen Operand' 11 c t (z ∷ u)) (eqb-true x 63 q) h) (inner' u) (inside u))
      (λ q. ConditionalThen.binary c t (x ∷ u) h q)

conditional_from : (d : ℕ) → Tells (inner d) (InsideThen d) (InsideFails d) → Tells (conditional_at d) (ExprThen d) (ExprFails d)
conditional_from d inside t =
    question_told (inner d) (InsideThen d) (InsideFails d) inside (OperandThen (InsideThen d) d) (OperandFails (InsideThen d) (InsideFails d) d) t (level (operand_at d) 11 t)
    (level_told (operand_at d) (OperandThen (InsideThen d) d) (OperandFails (InsideThen d) (InsideFails d) d) (operand_told d inside) (operand_at_leaves d) 11 t)

inside_told : (d : ℕ) → Tells (inner d) (InsideThen d) (InsideFails d)
unfolding inner
inside_told zero t = refl
inside_told (suc d) t = conditional_from d (inside_told d) t

whole_told : (t : List ℕ) (r : Read) → Told (ExprThen 32) (ExprFails 32) t r → ExprOf t (ended_read r)
whole_told t (Err f) h = inl h
whole_told t (Ok (e, [])) h = h
whole_told t (Ok (e, c ∷ v)) h = inr (e, c, v, h, refl)

-- each text spells what is read of it
pub expr_told : (t : List ℕ) → ExprOf t (expr_of t)
unfolding expr_of
expr_told t = whole_told t (conditional_at 32 t) (conditional_from 32 (inside_told 32) t)
