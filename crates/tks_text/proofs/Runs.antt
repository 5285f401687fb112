-- Reading item by item, as a loop does.
use Rattle.std.proofs.Common.{◌≡◌, ℕ, zero, suc, ◌+◌, ◌<◌, ◌≤◌, List, [], ◌∷◌, length, drop, Some, None, refl, sym, ap, ◌∙◌, arith}
use Rattle.tks_text.specs.Run.{Step, stop, fails, takes, Run, with_item, past_byte, ended, after_step, run}

-- what was read before n bytes, and what is still read
abbrev pub behind : {F R : Type 0} → (R → R) → ℕ → Run F R → Run F R
behind front n r = record { items = front r.items; fault = r.fault; taken = n + r.taken }

abbrev pub same : {R : Type 0} → R → R
same x = x

pub Run_ext : {F R : Type 0} (x y : Run F R) → x.items ≡ y.items → x.fault ≡ y.fault → x.taken ≡ y.taken → x ≡ y
Run_ext x y a b c = λ i. record { items = a i; fault = b i; taken = c i }

module _ {F R : Type 0} (none : R) (step : List ℕ → Step F R) where
  abbrev reads : ℕ → List ℕ → Run F R
  reads k t = run none step k t

  -- reading goes on behind k bytes
  pub run_skip : (k : ℕ) (t : List ℕ) → k ≤ length t → reads k t ≡ behind same k (reads 0 (drop k t))
  run_skip zero t h = Run_ext _ _ refl refl (omega arith)
  run_skip (suc k) [] h = absurd (omega arith)
  run_skip (suc k) (c ∷ t) h = ap past_byte (run_skip k t (omega arith)) ∙ Run_ext _ _ refl refl (omega arith)

  -- no reading takes more than there is
  after_le : (t : List ℕ) (s : Step F R) → ((k : ℕ) → (reads k t).taken ≤ length t) → (after_step none s (λ k. reads k t)).taken ≤ suc (length t)
  after_le t stop h = omega arith
  after_le t (fails f) h = omega arith
  after_le t (takes g k) h = omega (arith, h k)

  pub run_taken : (k : ℕ) (t : List ℕ) → (reads k t).taken ≤ length t
  run_taken k [] = omega arith
  run_taken (suc k) (c ∷ t) = omega (arith, run_taken k t)
  run_taken zero (c ∷ t) = after_le t (step (c ∷ t)) (λ k. run_taken k t)

  -- a step that stops, fails or takes an item
  pub run_stops : (t : List ℕ) → step t ≡ stop → reads 0 t ≡ ended none None
  run_stops [] e = refl
  run_stops (c ∷ t) e = ap (λ (s : Step F R). after_step none s (λ k. reads k t)) e

  pub run_fails : (t : List ℕ) (f : F) → step [] ≡ stop → step t ≡ fails f → reads 0 t ≡ ended none (Some f)
  run_fails [] f s e = absurd cc
  run_fails (c ∷ t) f s e = ap (λ (s : Step F R). after_step none s (λ k. reads k t)) e

  pub run_takes : (t : List ℕ) (g : R → R) (k : ℕ) → step [] ≡ stop → step t ≡ takes g k → k < length t → reads 0 t ≡ behind g (1 + k) (reads 0 (drop (1 + k) t))
  run_takes [] g k s e h = absurd (omega arith)
  run_takes (c ∷ t) g k s e h =
      let one : suc k ≡ 1 + k = omega arith in
      ap (λ (s : Step F R). after_step none s (λ k. reads k t)) e
      ∙ ap (λ r. with_item g (past_byte r)) (run_skip k t (omega arith))
      ∙ Run_ext _ _ refl refl (omega arith)
      ∙ ap (λ n. behind g n (reads 0 (drop n (c ∷ t)))) one

  -- a loop that joins each item to the front
  module _ (join : R → R → R) (assoc : (a b c : R) → join (join a b) c ≡ join a (join b c)) (at_end : (a : R) → join a none ≡ a) where
    pub loop_goes : (front item : R) (n k : ℕ) (t : List ℕ) (all : Run F R) → step [] ≡ stop → behind (join front) n (reads 0 t) ≡ all → step t ≡ takes (join item) k → k < length t → behind (join (join front item)) (n + (1 + k)) (reads 0 (drop (1 + k) t)) ≡ all
    loop_goes front item n k t all s h e lt =
        Run_ext _ _ (assoc front item (reads 0 (drop (1 + k) t)).items) refl (omega arith)
        ∙ ap (behind (join front) n) (sym (run_takes t (join item) k s e lt))
        ∙ h

    pub loop_stops : (front : R) (n : ℕ) (t : List ℕ) (all : Run F R) → behind (join front) n (reads 0 t) ≡ all → step t ≡ stop → all ≡ record { items = front; fault = None; taken = n }
    loop_stops front n t all h e = sym h ∙ ap (behind (join front) n) (run_stops t e) ∙ Run_ext _ _ (at_end front) refl (omega arith)

    pub loop_fails : (front : R) (n : ℕ) (f : F) (t : List ℕ) (all : Run F R) → step [] ≡ stop → behind (join front) n (reads 0 t) ≡ all → step t ≡ fails f → all ≡ record { items = front; fault = Some f; taken = n }
    loop_fails front n f t all s h e = sym h ∙ ap (behind (join front) n) (run_fails t f s e) ∙ Run_ext _ _ (at_end front) refl (omega arith)
