-- What a call that reads answers, by the laws of the spelling.
use Rattle.std.proofs.Common.{◌≡◌, ℕ, zero, suc, ◌+◌, ◌-◌, ◌<◌, ◌≤◌, inl, inr, List, [], ◌∷◌, ◌++◌, length, take, drop, Result, Ok, Err, refl, sym, ap, subst, ◌∙◌, append_assoc, arith}
use Rattle.std.specs.Prelude.{IfOk}
use Rattle.std.proofs.lemmas.Bool.{cases_lt}
use Rattle.std.proofs.lemmas.List.{take_at, drop_at, length-append, length-drop, take_all}
use Rattle.tks_spelling.specs.declared.fault.CodecFault.{CodecFault}
use Rattle.tks_spelling.specs.declared.fault.CodecFault.TheVariants.{Bad}
use Rattle.tks_spelling.specs.Spelling.{Read, Spelling, IsBytes, Lawful}
use Rattle.tks_spelling.specs.Reading.{FindsSo, StopsAt, Fails}
use Rattle.tks_spelling.specs.declared.unread.Unread.{Unread}
use Rattle.tks_spelling.specs.declared.unread.Unread.TheVariants as unread
use Rattle.tks_spelling.proofs.Joining.{no_fault}

pub left_fails : {T : Type 0} (f : Unread) (left : ℕ) (read : Read T) → f ≡ unread.Left left → Fails f read → read ≡ Err left
left_fails f left read e h = subst (λ g. Fails g read) e h

module _ {T : Type 0} (s : Spelling T) (l : Lawful s) where
  -- what is read is spelled
  pub found : (result : Result (T × ℕ) CodecFault) (bytes : List ℕ) → IsBytes bytes → FindsSo result bytes (s.read bytes) → IfOk result (λ x. s.Legal x.0 × (take x.1 bytes ≡ s.write x.0))
  found (Ok x) bytes fits e =
      let p = l.nothing_else bytes x.0 (drop x.1 bytes) fits e.1 in
      let n : length bytes ≡ length (s.write x.0) + length (drop x.1 bytes) = ap length p.parts ∙ length-append (s.write x.0) (drop x.1 bytes) in
      let len : length (s.write x.0) ≡ x.1 = omega (arith, n, e.0, length-drop x.1 bytes) in
      (p.legal, ap (take x.1) p.parts ∙ take_at (s.write x.0) (drop x.1 bytes) x.1 len)
  found (Err f) bytes fits e = tt

  -- what is spelled is read
  pub only : (result : Result (T × ℕ) CodecFault) (bytes : List ℕ) → FindsSo result bytes (s.read bytes) → (value : T) (rest : List ℕ) → s.Legal value → bytes ≡ s.write value ++ rest → FindsSo result bytes (Ok (value, rest))
  only result bytes e value rest h p = subst (FindsSo result bytes) (ap s.read p ∙ l.reads_back value rest h) e

  -- the byte behind the front
  data Cut (n : ℕ) (bytes : List ℕ) : Type 0 where
    cut : (front : List ℕ) (b : ℕ) (behind : List ℕ) → bytes ≡ front ++ b ∷ behind → take n bytes ≡ front → take (suc n) bytes ≡ front ++ b ∷ [] → length behind ≡ length bytes - suc n → Cut n bytes

  cut_at : (n : ℕ) (bytes : List ℕ) → n < length bytes → Cut n bytes
  cut_at n [] h = absurd (omega (arith, h))
  cut_at zero (b ∷ bytes) h = cut [] b bytes refl refl refl (omega arith)
  cut_at (suc n) (c ∷ bytes) h =
      elim (cut_at n bytes (omega (arith, h))) [
        | cut front b behind p q r k ↦ cut (c ∷ front) b behind (ap (λ (x : List ℕ). c ∷ x) p) (ap (λ (x : List ℕ). c ∷ x) q) (ap (λ (x : List ℕ). c ∷ x) r) (omega (arith, k, h))
      ]

  -- the fault isn't at the end
  fault_inside : (bytes : List ℕ) (n : ℕ) → IsBytes bytes → n < length bytes → s.read bytes ≡ Err (length bytes - n) → Cut n bytes → StopsAt s bytes n
  fault_inside bytes n fits h e (cut front b behind p q r k) =
      let some : length bytes - n ≡ suc (length behind) = omega (arith, h, k) in
      let here : s.read (front ++ b ∷ behind) ≡ Err (suc (length behind)) = ap s.read (sym p) ∙ e ∙ ap (λ (m : ℕ). Err m) some in
      let fits' = subst IsBytes p fits in
      record {
        within = omega (arith, h);
        before = ap s.read q ∙ l.early front b behind fits' here;
        none = λ lt value rest other legal g.
            let sure = l.sure front b behind other fits' here in
            let same : front ++ b ∷ other ≡ s.write value ++ rest = sym (append_assoc front (b ∷ []) other) ∙ ap (λ (x : List ℕ). x ++ other) (sym r) ∙ g in
            no_fault (value, rest) (suc (length other)) (sym (l.reads_back value rest legal) ∙ ap s.read (sym same) ∙ sure);
      }

  at_end : (bytes : List ℕ) (n : ℕ) → n ≡ length bytes → s.read bytes ≡ Err 0 → StopsAt s bytes n
  at_end bytes n k e = record { within = omega (arith, k); before = ap s.read (take_all n bytes (omega (arith, k))) ∙ e; none = λ lt value rest other legal g. absurd (omega (arith, lt, k)) }

  pub stops : (result : Result (T × ℕ) CodecFault) (bytes : List ℕ) → IsBytes bytes → FindsSo result bytes (s.read bytes) → (position : ℕ) → result ≡ Err (Bad position) → StopsAt s bytes position
  stops result bytes fits e position r =
      let f : FindsSo (Err (Bad position)) bytes (s.read bytes) = subst (λ q. FindsSo q bytes (s.read bytes)) r e in
      elim (cases_lt position (length bytes)) [
        | inl lt ↦ fault_inside bytes position fits lt f.1 (cut_at position bytes lt)
        | inr le ↦ at_end bytes position (omega (arith, le, f.0)) (f.1 ∙ ap (λ (m : ℕ). Err m) (omega (arith, le)))
      ]

  -- ---- the length of a spelling, and the place of a fault

  pub no_longer : (bytes : List ℕ) (v : T) (rest : List ℕ) → IsBytes bytes → s.read bytes ≡ Ok (v, rest) → length rest ≤ length bytes
  no_longer bytes v rest fits e =
      let p = l.nothing_else bytes v rest fits e in
      let n : length bytes ≡ length (s.write v) + length rest = ap length p.parts ∙ length-append (s.write v) rest in
      omega (arith, n)

  pub length_found : (bytes : List ℕ) (v : T) (rest : List ℕ) → IsBytes bytes → s.read bytes ≡ Ok (v, rest) → FindsSo (Ok (v, length bytes - length rest)) bytes (s.read bytes)
  length_found bytes v rest fits e =
      let p = l.nothing_else bytes v rest fits e in
      let n : length bytes ≡ length (s.write v) + length rest = ap length p.parts ∙ length-append (s.write v) rest in
      let behind : drop (length bytes - length rest) bytes ≡ rest = ap (drop (length bytes - length rest)) p.parts ∙ drop_at (s.write v) rest (length bytes - length rest) (omega (arith, n)) in
      (omega arith, e ∙ ap (λ (r : List ℕ). Ok (v, r)) (sym behind))

  pub fault_found : (bytes : List ℕ) (left : ℕ) → IsBytes bytes → s.read bytes ≡ Err left → FindsSo (Err (Bad (length bytes - left))) bytes (s.read bytes)
  fault_found bytes left fits e =
      let k = l.within bytes left fits e in
      (omega arith, e ∙ ap (λ (n : ℕ). Err n) (omega (arith, k)))
