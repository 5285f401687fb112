-- Comments and braces: what is told of them, and what is read.
use Rattle.std.proofs.Common.{◌≡◌, ℕ, zero, suc, ◌+◌, ◌-◌, ◌≤◌, Bool, true, false, cond, eqb, List, [], ◌∷◌, ◌++◌, length, take, drop, None, refl, sym, ap, ◌∙◌, subst, arith}
use Rattle.std.specs.Prelude.{◌||◌}
use Rattle.std.specs.List.{AllByRecursion, prefix_len}
use Rattle.std.proofs.Math.Dec.{eqb-suc-zero}
use Rattle.std.proofs.lemmas.Bool.{eqb-true}
use Rattle.std.proofs.lemmas.List.{take-append-drop, take_at, drop_at}
use Rattle.std.proofs.lemmas.List.Sums.{prefix_len-le-length}
use Rattle.tks_text.specs.Run.{Step, takes, Run, run, after_step}
use Rattle.tks_text.specs.declared.fault.ScriptFault.{ScriptFault}
use Rattle.tks_text.proofs.Runs.{run_takes}
use Rattle.tks_parse.specs.Tree.{no_part, chars}
use Rattle.tks_text.specs.Backslash.{is_blank}
use Rattle.tks_parse.specs.Reading.{braced_at}
use Rattle.tks_parse.specs.Braces.{quotes, ends_comment, comment_len, ends_braces, held_behind, braced_len, braced_escape, verbatim_step, verbatim}
use Rattle.tks_text.specs.Text.{BeginsNot}
use Rattle.tks_parse.specs.Script.{CommentThen, Nests, BracedThen, Verbatim}
use Rattle.tks_parse.specs.declared.syntax.Syntax.{Syntax}
use Rattle.tks_text.proofs.Prefixes.{prefix_of, prefix_passes}
use Rattle.tks_parse.proofs.Tests.{if_case, or_left, or_right, and_cases, drop_one}

-- ---- comments

-- a comment is read up to its end
pub comment_read : (t v : List ℕ) → CommentThen t v → drop (comment_len false t) t ≡ v
comment_read _ _ CommentThen.at_end = refl
comment_read _ _ (CommentThen.at_newline v) = refl
comment_read _ _ (CommentThen.quoted c t v h) = comment_read t v h
comment_read _ _ CommentThen.lone_backslash = refl
comment_read _ _ (CommentThen.other c t v e h) = rw (or_left (eqb c 10) (eqb c 92) e, or_right (eqb c 10) (eqb c 92) e) (comment_read t v h)

-- from behind a backslash, a comment takes one character more
abbrev CommentBehind : Bool → List ℕ → List ℕ → Type 0
CommentBehind false t v = CommentThen t v
CommentBehind true [] v = v ≡ []
CommentBehind true (c ∷ t) v = CommentThen t v

other_told : (c : ℕ) (t v : List ℕ) (q : Bool) → eqb c 10 ≡ false → eqb c 92 ≡ q → CommentBehind q t v → CommentThen (c ∷ t) v
other_told c t v false n b h = CommentThen.other c t v (rw (n, b) refl) h
other_told c [] v true n b h = rw (eqb-true c 92 b, h) CommentThen.lone_backslash
other_told c (d ∷ t) v true n b h = rw (eqb-true c 92 b) (CommentThen.quoted d t v h)

comment_behind : (q : Bool) (t : List ℕ) → CommentBehind q t (drop (comment_len q t) t)
comment_behind false [] = CommentThen.at_end
comment_behind true [] = refl
comment_behind true (c ∷ t) = comment_behind false t
comment_behind false (c ∷ t) =
    if_case (λ n. CommentThen (c ∷ t) (drop n (c ∷ t))) (eqb c 10) 0 (suc (comment_len (eqb c 92) t))
    (λ e. rw (eqb-true c 10 e) (CommentThen.at_newline t))
    (λ e. other_told c t (drop (comment_len (eqb c 92) t) t) (eqb c 92) e refl (comment_behind (eqb c 92) t))

-- what is read is a comment
pub comment_told : (t : List ℕ) → CommentThen t (drop (comment_len false t) t)
comment_told t = comment_behind false t

pub comment_within : (q : Bool) (t : List ℕ) → comment_len q t ≤ length t
comment_within q [] = omega arith
comment_within q (c ∷ t) = if_case (λ n. n ≤ length (c ∷ t)) (ends_comment q c) 0 (suc (comment_len (quotes q c) t)) (λ e. omega arith) (λ e. omega (arith, comment_within (quotes q c) t))

-- ---- braces

-- what nests is read up to the brace behind it
nests_len : (n : ℕ) (x v : List ℕ) → Nests n x → braced_len n false (x ++ 125 ∷ v) ≡ length x
nests_len _ _ v Nests.nothing = refl
nests_len _ _ v (Nests.opens n t h) =
    let one : n + 1 ≡ suc n = omega arith in
    ap (λ k. suc (braced_len k false (t ++ 125 ∷ v))) one ∙ ap suc (nests_len (suc n) t v h)
nests_len _ _ v (Nests.closes n t h) =
    let one : suc n - 1 ≡ n = omega arith in
    ap (λ (b : Bool). cond b 0 (suc (braced_len (suc n - 1) false (t ++ 125 ∷ v)))) (eqb-suc-zero n) ∙ ap (λ k. suc (braced_len k false (t ++ 125 ∷ v))) one ∙ ap suc (nests_len n t v h)
nests_len _ _ v (Nests.quoted n c t h) = ap (λ k. suc (suc k)) (nests_len n t v h)
nests_len _ _ v (Nests.other n c t e h) =
    let opener : eqb c 123 ≡ false = or_left (eqb c 123) (eqb c 125) (or_left (eqb c 123 || eqb c 125) (eqb c 92) e) in
    let closer : eqb c 125 ≡ false = or_right (eqb c 123) (eqb c 125) (or_left (eqb c 123 || eqb c 125) (eqb c 92) e) in
    let quoter : eqb c 92 ≡ false = or_right (eqb c 123 || eqb c 125) (eqb c 92) e in
    rw (opener, closer, quoter) (ap suc (nests_len n t v h))

-- text up to the brace that closes it is read so
pub braced_read : (inside u v : List ℕ) → BracedThen inside u v → (syntax : Syntax) → braced_at syntax u ≡ record { items = chars (verbatim inside) no_part; fault = None; taken = length inside + 1 }
unfolding braced_at
braced_read inside u v h syntax =
    let len = nests_len 0 inside v h.nests in
    rw (h.is, len, take_at inside (125 ∷ v) (length inside) refl, drop_at inside (125 ∷ v) (length inside) refl) refl

pub braced_rest : (inside u v : List ℕ) → BracedThen inside u v → drop (length inside + 1) u ≡ v
braced_rest inside u v h =
    let one : length inside + 1 ≡ suc (length inside) = omega arith in
    ap (λ n. drop n u) one ∙ drop_one (length inside) u v 125 (ap (drop (length inside)) h.is ∙ drop_at inside (125 ∷ v) (length inside) refl)

-- from behind a backslash, text in braces takes one character more
abbrev NestsBehind : ℕ → Bool → List ℕ → Type 0
NestsBehind n false x = Nests n x
NestsBehind n true x = (c : ℕ) × (y : List ℕ) × (x ≡ c ∷ y) × Nests n y

quote_told : (n : ℕ) (x : List ℕ) → NestsBehind n true x → Nests n (92 ∷ x)
quote_told n x h = rw h.2 (Nests.quoted n h.0 h.1 h.3)

close_told : (n : ℕ) (x : List ℕ) → eqb n 0 ≡ false → Nests (n - 1) x → Nests n (125 ∷ x)
close_told zero x e h = absurd cc
close_told (suc n) x e h =
    let one : suc n - 1 ≡ n = omega arith in
    Nests.closes n x (subst (λ k. Nests k x) one h)

open_told : (n : ℕ) (x : List ℕ) → Nests (n + 1) x → Nests n (123 ∷ x)
open_told n x h =
    let one : n + 1 ≡ suc n = omega arith in
    Nests.opens n x (subst (λ k. Nests k x) one h)

-- one character of it
nests_step : (n : ℕ) (q : Bool) (c : ℕ) (x : List ℕ) → ends_braces n q c ≡ false → NestsBehind (held_behind n q c) (quotes q c) x → NestsBehind n q (c ∷ x)
nests_step n true c x e h = (c, x, refl, h)
nests_step n false c x e h =
    let case : (b o k : Bool) → eqb c 92 ≡ b → eqb c 123 ≡ o → eqb c 125 ≡ k → Nests n (c ∷ x) = λ b o k.
    elim b as (λ b. eqb c 92 ≡ b → eqb c 123 ≡ o → eqb c 125 ≡ k → Nests n (c ∷ x)) [
      | true ↦ λ is oe ke. let same : c ≡ 92 = eqb-true c 92 is in rw same (quote_told n x (subst (λ d. NestsBehind (held_behind n false d) (quotes false d) x) same h))
      | false ↦ elim o as (λ o. eqb c 92 ≡ false → eqb c 123 ≡ o → eqb c 125 ≡ k → Nests n (c ∷ x)) [
        | true ↦ λ be is ke. let same : c ≡ 123 = eqb-true c 123 is in rw same (open_told n x (subst (λ d. NestsBehind (held_behind n false d) (quotes false d) x) same h))
        | false ↦ elim k as (λ k. eqb c 92 ≡ false → eqb c 123 ≡ false → eqb c 125 ≡ k → Nests n (c ∷ x)) [
          | true ↦ λ be oe is. let same : c ≡ 125 = eqb-true c 125 is in rw same (close_told n x (subst (λ d. ends_braces n false d ≡ false) same e) (subst (λ d. NestsBehind (held_behind n false d) (quotes false d) x) same h))
          | false ↦ λ be oe ke. Nests.other n c x (rw (oe, ke, be) refl) (rw (oe, ke, be) at h)
        ]
      ]
    ] in
    case (eqb c 92) (eqb c 123) (eqb c 125) refl refl refl

ends_is : (n : ℕ) (q : Bool) (c : ℕ) → ends_braces n q c ≡ true → (n ≡ 0) × (q ≡ false) × (c ≡ 125)
ends_is n true c e = absurd cc
ends_is n false c e =
    let both = and_cases (eqb c 125) (eqb n 0) e in
    (eqb-true n 0 both.1, refl, eqb-true c 125 both.0)

nothing_told : (n : ℕ) (q : Bool) → n ≡ 0 → q ≡ false → NestsBehind n q []
nothing_told n q e f = rw (e, f) Nests.nothing

nests_told : (u : List ℕ) (n : ℕ) (q : Bool) (z : ℕ) (v : List ℕ) → drop (braced_len n q u) u ≡ z ∷ v → (z ≡ 125) × NestsBehind n q (take (braced_len n q u) u)
nests_told [] n q z v = λ e. absurd cc
nests_told (c ∷ u) n q z v =
    if_case (λ k. drop k (c ∷ u) ≡ z ∷ v → (z ≡ 125) × NestsBehind n q (take k (c ∷ u))) (ends_braces n q c) 0 (suc (braced_len (held_behind n q c) (quotes q c) u))
    (λ e d. let is = ends_is n q c e in let same : c ≡ z = cc in (sym same ∙ is.2, nothing_told n q is.0 is.1))
    (λ e d. let ih = nests_told u (held_behind n q c) (quotes q c) z v d in (ih.0, nests_step n q c (take (braced_len (held_behind n q c) (quotes q c) u) u) e ih.1))

-- what is read up to a brace is so, and it is the one that closes it
pub braced_told : (u : List ℕ) (z : ℕ) (v : List ℕ) → drop (braced_len 0 false u) u ≡ z ∷ v → BracedThen (take (braced_len 0 false u) u) u v
braced_told u z v e =
    let told = nests_told u 0 false z v e in
    record {
      nests = told.1;
      is = sym (take-append-drop (braced_len 0 false u) u) ∙ ap (λ w. take (braced_len 0 false u) u ++ w) (e ∙ ap (λ d. d ∷ v) told.0);
    }

-- where no brace is read that closes it, there is none
pub unclosed_told : (u : List ℕ) → drop (braced_len 0 false u) u ≡ [] → (inside v : List ℕ) → BracedThen inside u v → ⊥
unclosed_told u e inside v h =
    let len : braced_len 0 false u ≡ length inside = ap (braced_len 0 false) h.is ∙ nests_len 0 inside v h.nests in
    let rest : drop (length inside) u ≡ 125 ∷ v = ap (drop (length inside)) h.is ∙ drop_at inside (125 ∷ v) (length inside) refl in
    let both : [] ≡ 125 ∷ v = sym e ∙ ap (λ n. drop n u) len ∙ rest in
    cc

-- ---- the value of what stands in braces

-- what an item of it and the rest are
verbatim_end : [] ≡ verbatim []
unfolding verbatim
verbatim_end = refl

verbatim_takes : (c k : ℕ) (t u : List ℕ) (g : List ℕ → List ℕ) → verbatim_step (c ∷ t) ≡ takes g k → k ≤ length t → drop k t ≡ u → verbatim (c ∷ t) ≡ g (verbatim u)
unfolding verbatim verbatim_step
verbatim_takes c k t u g e h d =
    let one : 1 + k ≡ suc k = omega arith in
    ap (λ (r : Run ScriptFault (List ℕ)). r.items) (run_takes [] verbatim_step (c ∷ t) g k refl e (omega arith))
    ∙ ap (λ n. g (run [] verbatim_step 0 (drop n (c ∷ t))).items) one
    ∙ ap (λ x. g (run [] verbatim_step 0 x).items) d

blanks_then : (blanks t : List ℕ) → AllByRecursion (λ c. is_blank c ≡ true) blanks → BeginsNot is_blank t → drop (1 + prefix_len is_blank (blanks ++ t)) (10 ∷ blanks ++ t) ≡ t
blanks_then blanks t h b =
    let len = prefix_of is_blank blanks t h b in
    let one : 1 + length blanks ≡ suc (length blanks) = omega arith in
    ap (λ n. drop (1 + n) (10 ∷ blanks ++ t)) len ∙ ap (λ n. drop n (10 ∷ blanks ++ t)) one ∙ drop_at blanks t (length blanks) refl

blanks_within : (u : List ℕ) → 1 + prefix_len is_blank u ≤ length (10 ∷ u)
blanks_within u = omega (arith, prefix_len-le-length is_blank u)

pub verbatim_is : (t value : List ℕ) → Verbatim t value → value ≡ verbatim t
unfolding verbatim_step
verbatim_is _ _ Verbatim.nothing = verbatim_end
verbatim_is _ _ (Verbatim.space blanks t value h b v) =
    ap (λ x. 32 ∷ x) (verbatim_is t value v)
    ∙ sym (verbatim_takes 92 (1 + prefix_len is_blank (blanks ++ t)) (10 ∷ blanks ++ t) t (λ x. 32 ∷ x) refl (blanks_within (blanks ++ t)) (blanks_then blanks t h b))
verbatim_is _ _ (Verbatim.pair c t value n v) =
    ap (λ x. 92 ∷ c ∷ x) (verbatim_is t value v)
    ∙ sym (verbatim_takes 92 1 (c ∷ t) t (λ x. 92 ∷ c ∷ x) (rw n refl) (omega arith) refl)
verbatim_is _ _ Verbatim.lone_backslash = ap (λ x. 92 ∷ x) verbatim_end ∙ sym (verbatim_takes 92 0 [] [] (λ x. 92 ∷ x) refl (omega arith) refl)
verbatim_is _ _ (Verbatim.other c t value n v) =
    ap (λ x. c ∷ x) (verbatim_is t value v)
    ∙ sym (verbatim_takes c 0 t t (λ x. c ∷ x) (rw n refl) (omega arith) refl)

abbrev VerbatimTold : List ℕ → Run ScriptFault (List ℕ) → Type 0
VerbatimTold t r = Verbatim t r.items

space_told : (u value : List ℕ) → Verbatim (drop (prefix_len is_blank u) u) value → Verbatim (92 ∷ 10 ∷ u) (32 ∷ value)
space_told u value v =
    let n = prefix_len is_blank u in
    let told = prefix_passes is_blank u in
    subst (λ x. Verbatim (92 ∷ 10 ∷ x) (32 ∷ value)) (take-append-drop n u) (Verbatim.space (take n u) (drop n u) value told.0 told.1 v)

verbatim_lone : (value : List ℕ) → Verbatim [] value → Verbatim (92 ∷ []) (92 ∷ value)
verbatim_lone _ Verbatim.nothing = Verbatim.lone_backslash

escape_told : (u : List ℕ) (go : ℕ → Run ScriptFault (List ℕ)) → ((k : ℕ) → VerbatimTold (drop k u) (go k)) → VerbatimTold (92 ∷ u) (after_step [] (braced_escape u) go)
escape_told [] go ih = verbatim_lone (go 0).items (ih 0)
escape_told (c ∷ u) go ih =
    if_case (λ (s : Step ScriptFault (List ℕ)). VerbatimTold (92 ∷ c ∷ u) (after_step [] s go)) (eqb c 10) (takes (λ x. 32 ∷ x) (1 + prefix_len is_blank u)) (takes (λ x. 92 ∷ c ∷ x) 1)
    (λ e. let n = 1 + prefix_len is_blank u in
    let one : n ≡ suc (prefix_len is_blank u) = omega arith in
    rw (eqb-true c 10 e) (space_told u (go n).items (subst (λ k. Verbatim (drop k (c ∷ u)) (go n).items) one (ih n))))
    (λ e. Verbatim.pair c u (go 1).items e (ih 1))

run_verbatim : (k : ℕ) (t : List ℕ) → VerbatimTold (drop k t) (run [] verbatim_step k t)
unfolding verbatim_step
run_verbatim zero [] = Verbatim.nothing
run_verbatim (suc k) [] = Verbatim.nothing
run_verbatim (suc k) (c ∷ u) = run_verbatim k u
run_verbatim zero (c ∷ u) =
    if_case (λ (s : Step ScriptFault (List ℕ)). VerbatimTold (c ∷ u) (after_step [] s (λ k. run [] verbatim_step k u))) (eqb c 92) (braced_escape u) (takes (λ x. c ∷ x) 0)
    (λ e. rw (eqb-true c 92 e) (escape_told u (λ k. run [] verbatim_step k u) (λ k. run_verbatim k u)))
    (λ e. Verbatim.other c u (run [] verbatim_step 0 u).items e (run_verbatim 0 u))

pub verbatim_told : (t : List ℕ) → Verbatim t (verbatim t)
unfolding verbatim
verbatim_told t = run_verbatim 0 t
