-- What is spelled so is read so, and so a text spells one expression.
use Rattle.std.proofs.Common.{◌≡◌, ℕ, zero, suc, ◌+◌, ◌-◌, ◌<◌, true, false, cond, eqb, List, [], ◌∷◌, length, take, drop, Option, Some, None, Result, Ok, Err, refl, sym, ap, ◌∙◌, subst, arith, inl, inr}
use Rattle.std.specs.Prelude.{◌||◌, ◌↔◌}
use Rattle.std.proofs.lemmas.Bool.{eqb-true, eqb-false, eq-eqb, false_from_ne_true}
use Rattle.std.proofs.lemmas.List.{drop_at}
use Rattle.tks_text.specs.Integer.{is_space}
use Rattle.tks_text.specs.Run.{takes, Run}
use Rattle.tks_text.specs.declared.fault.ScriptFault.{ScriptFault}
use Rattle.tks_parse.specs.Braces.{verbatim}
use Rattle.tks_parse.specs.Class.{is_name_char}
use Rattle.tks_parse.specs.Fault.{expression_syntax}
use Rattle.tks_parse.specs.Reading as script
use Rattle.tks_text.specs.Text.{BeginsNot}
use Rattle.tks_parse.specs.Script.{NameThen, BracedNameThen, PartsThen, Fails, PartFails, BracketsFail, IndexFails}
use Rattle.tks_parse.specs.Tree.{Parts, no_part, variable, element, nested, chars}
use Rattle.tks_parse.specs.declared.mode.Mode.TheVariants.{Quoted, Index}
use Rattle.tks_parse.specs.declared.mode.Place.TheVariants.{Brackets}
use Rattle.tks_parse.specs.declared.syntax.Syntax.TheVariants.{Expressions}
use Rattle.tks_parse.proofs.Braced.{braced_read, braced_rest, verbatim_is}
use Rattle.tks_parse.proofs.Faults.{part_fault, parts_fault, quoted_fault, unclosed_quote, unclosed_brace, brackets_fault, indexes_fault}
use Rattle.tks_parse.proofs.Spelled.{parts_read, script_reads, quoted_whole, next_rest, scalar_at, braced_name_at, braced_name_rest, nested_at, element_at, variable_at}
use Rattle.tks_parse.proofs.Tests.{or_left, or_right}
use Rattle.tks_parse.proofs.Told.{index_rest}
use Rattle.tks_expr.specs.Expression.{Then, SpaceThen, LiteralThen, sign_of, IsOnePart, OperandThen, StartsOperand, SignedThen, ChainThen, LevelThen, ConditionalThen, InsideThen, ExprThen, opens_operand, OperandFails, SignedFails, LevelFails, ConditionalFails, InsideFails, ExprFails, ExprOf}
use Rattle.tks_expr.specs.Literal.{literal_len, numeral_len, word_len}
use Rattle.tks_expr.specs.Sign.{level_of, combined, unary_of}
use Rattle.tks_expr.specs.Tree.{Expr, Literal, Made, One, Conditional}
use Rattle.tks_expr.specs.Reading.{Read, then_read, bad_syntax, begins_name, begins_space, trim, made, made_text, literal, close, operand, signs, under, signed, chain, is_level, level, colon, question, inner, operand_at, conditional_at, ended_read, expr_of}
use Rattle.tks_expr.specs.declared.operator.Unary.{Unary}
use Rattle.tks_expr.specs.declared.sign.Join.{Join}
use Rattle.tks_expr.proofs.Literals.{LiteralAt, literal_reads, literal_spelled}
use Rattle.tks_expr.proofs.Climbing.{then_where, chain_from, chain_stops, chain_takes, when_some}
use Rattle.tks_expr.proofs.Fronts.{no_space_read, sign_starts, sign_read, no_sign_read, JoinAt, join_read, no_join_read}
use Rattle.tks_expr.proofs.Suffixes.{Leaves, Before, suffix_then, level_leaves, operand_at_leaves}
use Rattle.tks_expr.proofs.Told.{expr_told}

-- what is told of an expression, and of a fault, is what f reads
abbrev pub ReadsThen : (List ℕ → Read) → Then → Type 0
ReadsThen f T = (e : Expr) (t v : List ℕ) → T e t v → f t ≡ Ok (e, v)

abbrev pub ReadsFault : (List ℕ → Read) → Fails → Type 0
ReadsFault f F = (t : List ℕ) (fault : ScriptFault) → F t fault → f t ≡ Err fault

-- ---- operands

trim_none : (t : List ℕ) → begins_space t ≡ false → trim t ≡ t
unfolding trim
trim_none [] e = refl
trim_none (c ∷ u) e = ap (λ b. cond b (trim u) (c ∷ u)) e

trim_one : (c : ℕ) (u : List ℕ) → begins_space (c ∷ u) ≡ true → trim (c ∷ u) ≡ trim u
unfolding trim
trim_one c u e = ap (λ b. cond b (trim u) (c ∷ u)) e

-- a character that is white space by itself
is_blank : (c : ℕ) (u : List ℕ) → is_space c ≡ true → begins_space (c ∷ u) ≡ true
is_blank c u e = rw e refl

space_read : (t v : List ℕ) → SpaceThen t v → trim t ≡ v
space_read _ _ (SpaceThen.none v e) = trim_none v (no_space_read v e)
space_read _ _ (SpaceThen.space c t v e h) = trim_one c t (is_blank c t e) ∙ space_read t v h
space_read _ _ (SpaceThen.backslash t v h) = trim_one 92 (10 ∷ t) refl ∙ space_read (10 ∷ t) v h

-- behind n bytes of u stands w, and behind its white space v
leaf_read : (e : Expr) (n : ℕ) (u w v : List ℕ) → drop n u ≡ w → SpaceThen w v → Before e (trim (drop n u)) ≡ Before e v
leaf_read e n u w v r s = ap (Before e) (ap trim r ∙ space_read w v s)

name_begins : (name u w : List ℕ) → NameThen name u w → begins_name u ≡ true
name_begins [] u w h = absurd (omega (arith, h.some))
name_begins (c ∷ name) u w h = rw (h.is, h.each.0) refl

brace_begins : (name u w : List ℕ) → BracedNameThen name u w → begins_name u ≡ true
brace_begins name u w h = rw h.is refl

not_begun : (u : List ℕ) → BeginsNot (λ c. is_name_char c || eqb c 123) u → begins_name u ≡ false
not_begun [] h = refl
not_begun (c ∷ u) h = h

-- no literal begins with a character that opens another operand
no_literal : (u : List ℕ) → (literal_len (40 ∷ u) ≡ 0) × (literal_len (91 ∷ u) ≡ 0) × (literal_len (36 ∷ u) ≡ 0) × (literal_len (34 ∷ u) ≡ 0) × (literal_len (123 ∷ u) ≡ 0)
unfolding literal_len numeral_len word_len
no_literal u = (refl, refl, refl, refl, refl)

opens_none : (t : List ℕ) → 0 < literal_len t → BeginsNot opens_operand t
opens_none [] h = tt
opens_none (c ∷ u) h =
    let no : (k : ℕ) → literal_len (k ∷ u) ≡ 0 → eqb c k ≡ false = λ k z. false_from_ne_true (eqb c k) (λ e. let is = ap (λ x. literal_len (x ∷ u)) (eqb-true c k e) in absurd (omega (arith, h, is, z))) in
    let n = no_literal u in
    rw (no 40 n.0, no 91 n.1, no 36 n.2, no 34 n.3, no 123 n.4) refl

module _ (d : ℕ) where
  operand_paren : (u : List ℕ) → operand_at d (40 ∷ u) ≡ then_read (inner d u) close
  unfolding operand
  operand_paren u = refl

  operand_bracket : (u : List ℕ) → operand_at d (91 ∷ u) ≡ made u (script.nested_step (script.nest d) u)
  unfolding operand
  operand_bracket u = refl

  operand_dollar : (u : List ℕ) → begins_name u ≡ true → operand_at d (36 ∷ u) ≡ made u (script.variable_step (script.index d) Expressions u)
  unfolding operand
  operand_dollar u b = rw b refl

  operand_lone : (u : List ℕ) → begins_name u ≡ false → operand_at d (36 ∷ u) ≡ bad_syntax
  unfolding operand literal literal_len numeral_len word_len
  operand_lone u b = rw b refl

  operand_quotes : (u : List ℕ) → operand_at d (34 ∷ u) ≡ made_text u (script.quoted_at (script.nest d) (script.index d) Expressions u)
  unfolding operand
  operand_quotes u = refl

  operand_braces : (u : List ℕ) → operand_at d (123 ∷ u) ≡ made_text u (script.braced_at Expressions u)
  unfolding operand
  operand_braces u = refl

  operand_escape : (u : List ℕ) → operand_at d (92 ∷ u) ≡ bad_syntax
  unfolding operand literal literal_len numeral_len word_len
  operand_escape u = refl

  -- a text that opens no other operand
  operand_other : (t : List ℕ) → BeginsNot opens_operand t → operand_at d t ≡ literal t
  unfolding operand
  operand_other [] h = refl
  operand_other (c ∷ u) h =
      let a = or_right (eqb c 40 || eqb c 91 || eqb c 36 || eqb c 34) (eqb c 123) h in
      let b = or_left (eqb c 40 || eqb c 91 || eqb c 36 || eqb c 34) (eqb c 123) h in
      let k = or_right (eqb c 40 || eqb c 91 || eqb c 36) (eqb c 34) b in
      let l = or_left (eqb c 40 || eqb c 91 || eqb c 36) (eqb c 34) b in
      let m = or_right (eqb c 40 || eqb c 91) (eqb c 36) l in
      let n = or_left (eqb c 40 || eqb c 91) (eqb c 36) l in
      rw (or_left (eqb c 40) (eqb c 91) n, or_right (eqb c 40) (eqb c 91) n, m, k, a) refl

  part_read : (parts : Parts) (t w v : List ℕ) → IsOnePart parts → (d' : ℕ) → d ≡ d' → PartsThen parts d' (Quoted Expressions) t w → SpaceThen w v → operand_at d t ≡ Ok (Made parts, v)
  part_read _ t w v (IsOnePart.scalar name) d' q h k =
      let u = h.0 in
      let after : h.1 ≡ w = h.4 in
      rw h.2 (elim h.3 [
        | inl n ↦ (operand_dollar u (name_begins name u h.1 n.0)
            ∙ ap (made u) (scalar_at (script.nest d) (script.index d) Expressions name u h.1 n.0 n.1)
            ∙ leaf_read (Made (variable name no_part)) (length name) u w v (ap (drop (length name)) n.0.is ∙ drop_at name h.1 (length name) refl ∙ after) k)
        | inr n ↦ (operand_dollar u (brace_begins name u h.1 n)
            ∙ ap (made u) (braced_name_at (script.nest d) (script.index d) Expressions name u h.1 n)
            ∙ leaf_read (Made (variable name no_part)) (length name + 2) u w v (braced_name_rest (script.nest d) (script.index d) name u h.1 n ∙ after) k)
      ])
  part_read _ t w v (IsOnePart.in_array name index) zero q h k = absurd h
  part_read _ t w v (IsOnePart.in_array name index) (suc d') q h k =
      let u = h.0 in
      let r = parts_read index d' (Index Expressions) h.1 (41 ∷ h.2) h.5 in
      let n = length name + 1 + r.len + 1 in
      let rest : drop n u ≡ h.2 = index_rest u h.1 h.2 (length name) r.len (ap (drop (length name)) h.4.is ∙ drop_at name (40 ∷ h.1) (length name) refl) r.rest in
      let step : script.variable_step (script.index d) Expressions u ≡ takes (element name index) n = ap (λ k. script.variable_step (script.index k) Expressions u) q ∙ element_at d' Expressions index name u h.1 h.2 h.4 r in
      rw h.3 (operand_dollar u (name_begins name u (40 ∷ h.1) h.4) ∙ ap (made u) step ∙ leaf_read (Made (element name index no_part)) n u w v (rest ∙ h.6) k)
  part_read _ t w v (IsOnePart.script s) zero q h k = absurd h
  part_read _ t w v (IsOnePart.script s) (suc d') q h k =
      let u = h.0 in
      let r = script_reads s d' Brackets u (93 ∷ h.1) h.3 in
      let step : script.nested_step (script.nest d) u ≡ takes (nested s) (r.len + 1) = ap (λ k. script.nested_step (script.nest k) u) q ∙ nested_at d' s u h.1 r in
      rw h.2 (operand_bracket u ∙ ap (made u) step ∙ leaf_read (Made (nested s no_part)) (r.len + 1) u w v (next_rest (script.nest d) (script.index d) r.len u h.1 93 r.rest ∙ h.4) k)

  literal_read : (text t w v : List ℕ) → LiteralAt text t w → SpaceThen w v → operand_at d t ≡ Ok (Literal text, v)
  unfolding literal
  literal_read text t w v h k =
      let some : eqb (literal_len t) 0 ≡ false = false_from_ne_true (eqb (literal_len t) 0) (λ e. let none = eqb-true (literal_len t) 0 e in absurd (omega (arith, none, h.some))) in
      operand_other t (opens_none t h.some)
      ∙ ap (λ b. cond b bad_syntax (Before (Literal (take (literal_len t) t)) (trim (drop (literal_len t) t)))) some
      ∙ ap (λ x. Before (Literal x) (trim (drop (literal_len t) t))) (sym h.is)
      ∙ leaf_read (Literal text) (literal_len t) t w v (sym h.rest) k

  module _ (Inside : Then) (inside : ReadsThen (inner d) Inside) where
    operand_read : ReadsThen (operand_at d) (OperandThen Inside d)
    operand_read _ _ _ (OperandThen.parenthesis e u w v h k) = operand_paren u ∙ ap (λ r. then_read r close) (inside e u (41 ∷ w) h) ∙ ap (Before e) (space_read w v k)
    operand_read _ _ _ (OperandThen.part parts t w v one h k) = part_read parts t w v one d refl h k
    operand_read _ _ _ (OperandThen.quotes parts u w v h k) =
        let r = parts_read parts d (Quoted Expressions) u (34 ∷ w) h in
        operand_quotes u
        ∙ ap (made_text u) (quoted_whole (script.nest d) (script.index d) Expressions parts u w r)
        ∙ leaf_read (Made parts) (r.len + 1) u w v (next_rest (script.nest d) (script.index d) r.len u w 34 r.rest) k
    operand_read _ _ _ (OperandThen.braces inside' value u w v b k s) =
        operand_braces u
        ∙ ap (made_text u) (braced_read inside' u w b Expressions)
        ∙ leaf_read (Made (chars (verbatim inside') no_part)) (length inside' + 1) u w v (braced_rest inside' u w b) s
        ∙ ap (λ x. Before (Made (chars x no_part)) v) (sym (verbatim_is inside' value k))
    operand_read _ _ _ (OperandThen.literal text t w v h k) = literal_read text t w v (literal_reads text t w h) k

    module _ (Fail : Fails) (fails' : ReadsFault (inner d) Fail) where
      no_close : (e : Expr) (v : List ℕ) → BeginsNot (λ c. eqb c 41) v → close e v ≡ bad_syntax
      no_close e [] h = refl
      no_close e (c ∷ v) h = rw h refl

      text_fails : (u : List ℕ) (r : Run ScriptFault Parts) (f : ScriptFault) → r.fault ≡ Some f → made_text u r ≡ Err f
      text_fails u r f e = ap (λ (o : Option ScriptFault). elim o as (λ _. Read) [ None ↦ Ok (Made r.items, trim (drop r.taken u)) | Some g ↦ Err g ]) e

      part_fails : (t : List ℕ) (f : ScriptFault) → PartFails (BracketsFail d) (IndexFails d) (Quoted Expressions) t f → operand_at d t ≡ Err f
      part_fails _ _ (PartFails.in_brackets s f h) = operand_bracket s ∙ ap (made s) (brackets_fault d s f h)
      part_fails _ _ (PartFails.in_index name u s f n h) =
          operand_dollar u (name_begins name u (40 ∷ s) n)
          ∙ ap (made u) (sym (variable_at (script.nest d) (script.index d) (Quoted Expressions) u) ∙ part_fault d (Quoted Expressions) (36 ∷ u) f (brackets_fault d) (indexes_fault d) (PartFails.in_index name u s f n h))
      part_fails _ _ (PartFails.name_unclosed name each) =
          operand_dollar (123 ∷ name) refl
          ∙ ap (made (123 ∷ name)) (sym (variable_at (script.nest d) (script.index d) (Quoted Expressions) (123 ∷ name)) ∙ part_fault d (Quoted Expressions) (36 ∷ 123 ∷ name) expression_syntax (brackets_fault d) (indexes_fault d) (PartFails.name_unclosed name each))
      part_fails _ _ (PartFails.outside_texts u c n s h e) = operand_escape u

      none_read : (t : List ℕ) → ((text v : List ℕ) → LiteralThen text t v → ⊥) → literal t ≡ bad_syntax
      unfolding literal
      none_read t h = elim (eqb (literal_len t) 0) as (λ b. eqb (literal_len t) 0 ≡ b → cond b bad_syntax (Before (Literal (take (literal_len t) t)) (trim (drop (literal_len t) t))) ≡ bad_syntax) [
        | true ↦ λ e. refl
        | false ↦ λ e. absurd (h (take (literal_len t) t) (drop (literal_len t) t) (literal_spelled t (omega (arith, eqb-false (literal_len t) 0 e))))
      ] refl

      operand_fault : ReadsFault (operand_at d) (OperandFails Inside Fail d)
      operand_fault _ _ (OperandFails.in_parentheses u f h) = operand_paren u ∙ ap (λ r. then_read r close) (fails' u f h)
      operand_fault _ _ (OperandFails.unclosed e u v h b) = operand_paren u ∙ ap (λ r. then_read r close) (inside e u v h) ∙ no_close e v b
      operand_fault _ _ (OperandFails.in_part t f h) = part_fails t f h
      operand_fault _ _ (OperandFails.lone_dollar u b) = operand_lone u (not_begun u b)
      operand_fault _ _ (OperandFails.in_quotes u f h) = operand_quotes u ∙ text_fails u (script.quoted_at (script.nest d) (script.index d) Expressions u) f (quoted_fault d Expressions u f (parts_fault d (Quoted Expressions) u f (brackets_fault d) (indexes_fault d) h))
      operand_fault _ _ (OperandFails.quote_unclosed u parts h) = operand_quotes u ∙ text_fails u (script.quoted_at (script.nest d) (script.index d) Expressions u) expression_syntax (unclosed_quote d Expressions u parts h)
      operand_fault _ _ (OperandFails.brace_unclosed u h) = operand_braces u ∙ text_fails u (script.braced_at Expressions u) expression_syntax (unclosed_brace Expressions u h)
      operand_fault _ _ (OperandFails.no_operand t b h) = operand_other t b ∙ none_read t h

-- ---- signs

module _ (operand' : List ℕ → Read) where
  -- an operand under the signs that were read
  abbrev With : List Unary × List ℕ → Read
  With p = then_read (operand' p.1) (λ e v. Ok (under p.0 e, v))

  signs_space : (c : ℕ) (u : List ℕ) → begins_space (c ∷ u) ≡ true → signs (c ∷ u) ≡ signs u
  signs_space c u e = ap (λ b. cond b (signs u) (elim (unary_of c) [ None ↦ ([], c ∷ u) | Some op ↦ (op ∷ (signs u).0, (signs u).1) ])) e

  signs_sign : (c : ℕ) (op : Unary) (u : List ℕ) → begins_space (c ∷ u) ≡ false → unary_of c ≡ Some op → signs (c ∷ u) ≡ (op ∷ (signs u).0, (signs u).1)
  signs_sign c op u s e =
      ap (λ b. cond b (signs u) (elim (unary_of c) [ None ↦ ([], c ∷ u) | Some op ↦ (op ∷ (signs u).0, (signs u).1) ])) s
      ∙ ap (λ o. elim o as (λ _. List Unary × List ℕ) [ None ↦ ([], c ∷ u) | Some op ↦ (op ∷ (signs u).0, (signs u).1) ]) e

  signs_none : (t : List ℕ) → StartsOperand t → signs t ≡ ([], t)
  signs_none [] h = refl
  signs_none (c ∷ u) h =
      ap (λ b. cond b (signs u) (elim (unary_of c) [ None ↦ ([], c ∷ u) | Some op ↦ (op ∷ (signs u).0, (signs u).1) ])) (no_space_read (c ∷ u) h.0)
      ∙ ap (λ o. elim o as (λ _. List Unary × List ℕ) [ None ↦ ([], c ∷ u) | Some op ↦ (op ∷ (signs u).0, (signs u).1) ]) (no_sign_read c h.1)

  -- one sign more
  more_signs : (op : Unary) (ops : List Unary) (r : Read) (e : Expr) (v : List ℕ) → then_read r (λ e v. Before (under ops e) v) ≡ Ok (e, v) → then_read r (λ e v. Before (One op (under ops e)) v) ≡ Ok (One op e, v)
  more_signs op ops (Ok x) e v h = let both : (under ops x.0, x.1) ≡ (e, v) = cc in ap (λ (y : Expr × List ℕ). Before (One op y.0) y.1) both
  more_signs op ops (Err f) e v h = absurd cc

  more_faults : (op : Unary) (ops : List Unary) (r : Read) (f : ScriptFault) → then_read r (λ e v. Before (under ops e) v) ≡ Err f → then_read r (λ e v. Before (One op (under ops e)) v) ≡ Err f
  more_faults op ops (Ok x) f h = absurd cc
  more_faults op ops (Err g) f h = h

  signed_read : (Operand' : Then) → ReadsThen operand' Operand' → ReadsThen (signed operand') (SignedThen Operand')
  signed_read Operand' reads _ _ _ (SignedThen.space c e t v s h) = ap With (signs_space c t (is_blank c t s)) ∙ signed_read Operand' reads e t v h
  signed_read Operand' reads _ _ _ (SignedThen.backslash e t v h) = ap With (signs_space 92 (10 ∷ t) refl) ∙ signed_read Operand' reads e (10 ∷ t) v h
  signed_read Operand' reads _ _ _ (SignedThen.sign op e t v h) = ap With (signs_sign (sign_of op) op t (sign_starts op t) (sign_read op)) ∙ more_signs op (signs t).0 (operand' (signs t).1) e v (signed_read Operand' reads e t v h)
  signed_read Operand' reads _ _ _ (SignedThen.operand e t v s h) = ap With (signs_none t s) ∙ ap (λ r. then_read r (λ e v. Ok (e, v))) (reads e t v h)

  signed_fault : (Fault' : Fails) → ReadsFault operand' Fault' → ReadsFault (signed operand') (SignedFails Fault')
  signed_fault Fault' reads _ _ (SignedFails.space c t f s h) = ap With (signs_space c t (is_blank c t s)) ∙ signed_fault Fault' reads t f h
  signed_fault Fault' reads _ _ (SignedFails.backslash t f h) = ap With (signs_space 92 (10 ∷ t) refl) ∙ signed_fault Fault' reads (10 ∷ t) f h
  signed_fault Fault' reads _ _ (SignedFails.sign op t f h) = ap With (signs_sign (sign_of op) op t (sign_starts op t) (sign_read op)) ∙ more_faults op (signs t).0 (operand' (signs t).1) f (signed_fault Fault' reads t f h)
  signed_fault Fault' reads _ _ (SignedFails.operand t f s h) = ap With (signs_none t s) ∙ ap (λ r. then_read r (λ e v. Ok (e, v))) (reads t f h)

-- ---- levels

module _ (operand' : List ℕ → Read) (leaves : (t : List ℕ) → Leaves t (operand' t)) (Operand' : Then) (reads : ReadsThen operand' Operand') where
  abbrev L : ℕ → Then
  L n = LevelThen Operand' n

  abbrev Right : ℕ → Join → List ℕ → Read
  Right n op t = level operand' n t

  abbrev Behind : ℕ → Expr → List ℕ → Read
  Behind n a u = chain (is_level (suc n)) (Right n) a 0 u

  -- behind an operator of the level, its right operand is read
  join_goes : (n : ℕ) (op : Join) (a : Expr) (u w : List ℕ) → level_of op ≡ suc n → JoinAt op u w → (r : Read) → level operand' n w ≡ r → Behind n a u ≡ then_read r (λ b v. Behind n (combined op a b) v)
  join_goes n op a [] w l q r e = absurd q
  join_goes n op a (c ∷ z) w l q r e =
      let taken : is_level (suc n) op ≡ true = eq-eqb (level_of op) (suc n) l in
      let from : level operand' n (drop q.0 z) ≡ r = ap (level operand' n) q.2 ∙ e in
      chain_takes (is_level (suc n)) (Right n) a c z (op, q.0) (when_some (is_level (suc n)) (c ∷ z) (op, q.0) q.1 taken)
      ∙ then_where (level operand' n (drop q.0 z)) (λ b v. chain (is_level (suc n)) (Right n) (combined op a b) (length z - length v) z) (λ b v. Behind n (combined op a b) v)
      (λ b v h. chain_from (is_level (suc n)) (Right n) (combined op a b) z v (suffix_then z (drop q.0 z) v (q.0, refl) (level_leaves operand' leaves n (drop q.0 z) b v h)))
      ∙ ap (λ x. then_read x (λ b v. Behind n (combined op a b) v)) from

  chain_read : (n : ℕ) → ReadsThen (level operand' n) (L n) → (e : Expr) (t v : List ℕ) → ChainThen (L n) (suc n) e t v → then_read (level operand' n t) (Behind n) ≡ Behind n e v
  chain_read n below _ _ _ (ChainThen.first e t v h) = ap (λ r. then_read r (Behind n)) (below e t v h)
  chain_read n below _ _ _ (ChainThen.more op a b t u w v j l q h) = chain_read n below a t u j ∙ join_goes n op a u w l (join_read op u w q) (Before b v) (below b w v h)

  level_read : (n : ℕ) → ReadsThen (level operand' n) (L n)
  unfolding level
  level_read zero e t v h = signed_read operand' Operand' reads e t v h
  level_read (suc n) e t v h = chain_read n (level_read n) e t v h.0 ∙ chain_stops (is_level (suc n)) v (no_join_read (suc n) v h.1) (Right n) e

  module _ (Fault' : Fails) (faults : ReadsFault operand' Fault') where
    level_fault : (n : ℕ) → ReadsFault (level operand' n) (LevelFails Operand' Fault' n)
    unfolding level
    level_fault zero t f h = signed_fault operand' Fault' faults t f h
    level_fault (suc n) t f (inl h) = ap (λ r. then_read r (Behind n)) (level_fault n t f h)
    level_fault (suc n) t f (inr (op, a, u, w, j, l, q, h)) = chain_read n (level_read n) a t u j ∙ join_goes n op a u w l (join_read op u w q) (Err f) (level_fault n w f h)

-- ---- `?:`, and all of it

module _ (d : ℕ) (inside : ReadsThen (inner d) (InsideThen d)) where
  abbrev Operand : Then
  Operand = OperandThen (InsideThen d) d

  condition_read : ReadsThen (level (operand_at d) 11) (LevelThen Operand 11)
  condition_read = level_read (operand_at d) (operand_at_leaves d) Operand (operand_read d (InsideThen d) inside) 11

  no_question : (e : Expr) (v : List ℕ) → BeginsNot (λ c. eqb c 63) v → question (inner d) e v ≡ Ok (e, v)
  no_question e [] h = refl
  no_question e (c ∷ v) h = rw h refl

  no_colon : (c a : Expr) (v : List ℕ) → BeginsNot (λ x. eqb x 58) v → colon (inner d) c a v ≡ bad_syntax
  no_colon c a [] h = refl
  no_colon c a (x ∷ v) h = rw h refl

  asked : (c : Expr) (t u : List ℕ) → LevelThen Operand 11 c t (63 ∷ u) → conditional_at d t ≡ then_read (inner d u) (colon (inner d) c)
  asked c t u h = ap (λ r. then_read r (question (inner d))) (condition_read c t (63 ∷ u) h)

  parted : (c a : Expr) (t u w : List ℕ) → LevelThen Operand 11 c t (63 ∷ u) → InsideThen d a u (58 ∷ w) → conditional_at d t ≡ then_read (inner d w) (λ b v. Before (Conditional c a b) v)
  parted c a t u w h i = asked c t u h ∙ ap (λ r. then_read r (colon (inner d) c)) (inside a u (58 ∷ w) i)

  conditional_read : ReadsThen (conditional_at d) (ExprThen d)
  conditional_read _ _ _ (ConditionalThen.binary e t v h b) = ap (λ r. then_read r (question (inner d))) (condition_read e t v h) ∙ no_question e v b
  conditional_read _ _ _ (ConditionalThen.conditional c a b t u w v h i k) = parted c a t u w h i ∙ ap (λ r. then_read r (λ b v. Before (Conditional c a b) v)) (inside b w v k)

  module _ (faults : ReadsFault (inner d) (InsideFails d)) where
    conditional_fault : ReadsFault (conditional_at d) (ExprFails d)
    conditional_fault _ _ (ConditionalFails.condition t f h) =
        ap (λ r. then_read r (question (inner d)))
        (level_fault (operand_at d) (operand_at_leaves d) Operand (operand_read d (InsideThen d) inside) (OperandFails (InsideThen d) (InsideFails d) d) (operand_fault d (InsideThen d) inside (InsideFails d) faults) 11 t f h)
    conditional_fault _ _ (ConditionalFails.middle c t u f h k) = asked c t u h ∙ ap (λ r. then_read r (colon (inner d) c)) (faults u f k)
    conditional_fault _ _ (ConditionalFails.no_colon c a t u v h i b) = asked c t u h ∙ ap (λ r. then_read r (colon (inner d) c)) (inside a u v i) ∙ no_colon c a v b
    conditional_fault _ _ (ConditionalFails.right c a t u w f h i k) = parted c a t u w h i ∙ ap (λ r. then_read r (λ b v. Before (Conditional c a b) v)) (faults w f k)

inside_read : (d : ℕ) → ReadsThen (inner d) (InsideThen d)
unfolding inner
inside_read zero e t v h = absurd h
inside_read (suc d) e t v h = conditional_read d (inside_read d) e t v h

inside_fault : (d : ℕ) → ReadsFault (inner d) (InsideFails d)
unfolding inner
inside_fault zero t f h = ap Err (sym h)
inside_fault (suc d) t f h = conditional_fault d (inside_read d) (inside_fault d) t f h

expr_read : (t : List ℕ) (r : Result Expr ScriptFault) → ExprOf t r → r ≡ expr_of t
unfolding expr_of
expr_read t (Ok e) h = sym (ap ended_read (conditional_read 32 (inside_read 32) e t [] h))
expr_read t (Err f) (inl h) = sym (ap ended_read (conditional_fault 32 (inside_read 32) (inside_fault 32) t f h))
expr_read t (Err f) (inr (e, c, v, h, k)) = sym (ap ended_read (conditional_read 32 (inside_read 32) e t (c ∷ v) h) ∙ ap Err (sym k))

-- a text spells the expression that is read, or has the fault that is read, and no other
pub spells_expr_of : (t : List ℕ) (r : Result Expr ScriptFault) → ExprOf t r ↔ (r ≡ expr_of t)
spells_expr_of t r = (λ h. expr_read t r h, λ e. subst (λ x. ExprOf t x) (sym e) (expr_told t))
