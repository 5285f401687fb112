-- The loops over the characters of an element and over elements.
use Rattle.std.proofs.Common.{◌≡◌, ℕ, ◌+◌, ◌-◌, ◌<◌, ◌≤◌, List, [], ◌∷◌, ◌++◌, true, get_or, append_assoc, append-nil, length, drop, Option, Some, None, Err, refl, sym, ap, subst, ◌∙◌, arith}
use Rattle.std.proofs.Math.Seq.{drop-length}
use Rattle.tks_text.specs.Integer.{is_space}
use Rattle.tks_text.specs.Run.{stop, takes, Run, run}
use Rattle.tks_text.proofs.Runs.{behind, run_stops, run_fails, run_takes, loop_goes, loop_stops, loop_fails}
use Rattle.tks_list.specs.declared.ends.Ends.{Ends}
use Rattle.tks_list.specs.declared.fault.ListFault.{ListFault}
use Rattle.tks_list.specs.declared.fault.ListFault.TheVariants.{NoMemory, NotAList}
use Rattle.tks_list.specs.Gives.{FailsStep, FailsRun, ListRead, behind_list}
use Rattle.tks_list.specs.Reading.{char_step, chars_at, element_step, elements_at, without_fault, list_of}

pub chars_go : (ends : Ends) (front item : List ℕ) (n k : ℕ) (t : List ℕ) (all : Run ListFault (List ℕ)) → behind (λ e. front ++ e) n (chars_at ends t) ≡ all → char_step ends t ≡ takes (λ e. item ++ e) k → k < length t → behind (λ e. (front ++ item) ++ e) (n + (1 + k)) (chars_at ends (drop (1 + k) t)) ≡ all
unfolding chars_at char_step
chars_go ends front item n k t all h e lt = loop_goes [] (char_step ends) (λ a b. a ++ b) append_assoc append-nil front item n k t all refl h e lt

pub chars_stop : (ends : Ends) (front : List ℕ) (n : ℕ) (t : List ℕ) (all : Run ListFault (List ℕ)) → behind (λ e. front ++ e) n (chars_at ends t) ≡ all → char_step ends t ≡ stop → all ≡ record { items = front; fault = None; taken = n }
unfolding chars_at char_step
chars_stop ends front n t all h e = loop_stops [] (char_step ends) (λ a b. a ++ b) append_assoc append-nil front n t all h e

pub chars_err : (ends : Ends) (front : List ℕ) (n : ℕ) (t : List ℕ) (all : Run ListFault (List ℕ)) (f : ListFault) → behind (λ e. front ++ e) n (chars_at ends t) ≡ all → FailsStep f (char_step ends t) → FailsRun f all
unfolding chars_at char_step
chars_err ends front n t all NoMemory h e = tt
chars_err ends front n t all NotAList h e = ap (λ (r : Run ListFault (List ℕ)). r.fault) (loop_fails [] (char_step ends) (λ a b. a ++ b) append_assoc append-nil front n NotAList t all refl h e)

-- ---- elements

without_fault_front : (front item l : List (List ℕ)) (f : Option ListFault) → behind_list (front ++ item) (without_fault l f) ≡ behind_list front (without_fault (item ++ l) f)
without_fault_front front item l None = ap Some (append_assoc front item l)
without_fault_front front item l (Some f) = refl

pub list_go : (front item : List (List ℕ)) (k : ℕ) (t : List ℕ) (all : Option (List (List ℕ))) → behind_list front (list_of t) ≡ all → element_step t ≡ takes (λ l. item ++ l) k → k < length t → behind_list (front ++ item) (list_of (drop (1 + k) t)) ≡ all
unfolding list_of elements_at element_step
list_go front item k t all h e lt =
    let rest = run [] element_step 0 (drop (1 + k) t) in
    without_fault_front front item rest.items rest.fault
    ∙ ap (λ (r : Run ListFault (List (List ℕ))). behind_list front (without_fault r.items r.fault)) (sym (run_takes [] element_step t (λ l. item ++ l) k refl e lt))
    ∙ h

-- a step that takes n bytes
pub list_goes : (front item : List (List ℕ)) (n : ℕ) (t : List ℕ) → 1 ≤ n → n ≤ length t → element_step t ≡ takes (λ l. item ++ l) (n - 1) → behind_list (front ++ item) (list_of (drop n t)) ≡ behind_list front (list_of t)
list_goes front item n t some le e =
    let one : 1 + (n - 1) ≡ n = omega (arith, some) in
    subst (λ k. behind_list (front ++ item) (list_of (drop k t)) ≡ behind_list front (list_of t)) one (list_go front item (n - 1) t _ refl e (omega (arith, some, le)))

pub list_stop : (front : List (List ℕ)) (t : List ℕ) (all : Option (List (List ℕ))) → behind_list front (list_of t) ≡ all → element_step t ≡ stop → all ≡ Some front
unfolding list_of elements_at element_step
list_stop front t all h e =
    sym h ∙ ap (λ (r : Run ListFault (List (List ℕ))). behind_list front (without_fault r.items r.fault)) (run_stops [] element_step t e) ∙ ap Some (append-nil front)

-- the end of a text
pub list_ends : (front : List (List ℕ)) (n : ℕ) (t : List ℕ) → n ≡ length t → behind_list front (list_of (drop n t)) ≡ Some front
unfolding element_step
list_ends front n t e = list_stop front (drop n t) _ refl (ap (λ u. element_step u) (ap (λ k. drop k t) e ∙ drop-length t))

pub list_err : (front : List (List ℕ)) (t : List ℕ) (all : Option (List (List ℕ))) (f : ListFault) → behind_list front (list_of t) ≡ all → FailsStep f (element_step t) → ListRead (Err f) all
unfolding list_of elements_at element_step
list_err front t all NoMemory h e = tt
list_err front t all NotAList h e =
    sym h ∙ ap (λ (r : Run ListFault (List (List ℕ))). behind_list front (without_fault r.items r.fault)) (run_fails [] element_step t NotAList refl e)

pub list_start : (o : Option (List (List ℕ))) → behind_list [] o ≡ o
list_start None = refl
list_start (Some l) = refl

-- a space before a list
pub space_passed : (t : List ℕ) → is_space (get_or t 0 0) ≡ true → list_of (drop 1 t) ≡ list_of t
unfolding element_step
space_passed [] e = absurd cc
space_passed (c ∷ u) e =
    let step : element_step (c ∷ u) ≡ takes (λ l. [] ++ l) 0 = rw e refl in
    sym (list_start (list_of u)) ∙ list_go [] [] 0 (c ∷ u) (list_of (c ∷ u)) (list_start (list_of (c ∷ u))) step (omega arith)
