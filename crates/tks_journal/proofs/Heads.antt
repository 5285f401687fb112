-- Headers at the front of bytes, whatever stands behind them.
use Rattle.std.proofs.Common.{◌≡◌, ◌<◌, ℕ, suc, ◌+◌, ◌-◌, List, ◌∷◌, ◌++◌, length, get_or, take, drop, Err, sym, ◌∙◌, ap, subst, arith, append_assoc}
use Rattle.std.proofs.lemmas.List.{length-drop}
use Rattle.tks_spelling.specs.Header.{header_at}
use Rattle.tks_spelling.specs.Header as headers
use Rattle.tks_spelling.specs.Spelling.{IsBytes}
use Rattle.tks_spelling.specs.declared.format.Format.{Format}
use Rattle.tks_spelling.specs.declared.header.Header.{Header}
use Rattle.tks_spelling.specs.Reading.{FindsSo}
use Rattle.tks_spelling.specs.declared.fault.CodecFault.{CodecFault}
use Rattle.tks_spelling.specs.declared.fault.CodecFault.TheVariants.{Bad}
use Rattle.tks_spelling.proofs.Headers.{header_lawful}
use Rattle.tks_journal.specs.Journal.{SpelledAs}
use Rattle.tks_journal.specs.Sides.{broken, headed}
use Rattle.tks_journal.proofs.Lists.{at_place}

-- a legal header's spelling is read as it, whatever stands behind it
pub spelled_as : (header : Header) (head : List ℕ) → headers.header.Legal header → head ≡ headers.header.write header → SpelledAs head header
unfolding header_at
spelled_as header head legal is = record { reads = λ rest. ap (λ (l : List ℕ). header_at (l ++ rest)) is ∙ header_lawful.reads_back header rest legal }

-- what is known to be wrong before the bytes end is wrong, whatever follows
pub wrong_on : (format : Format) (bytes : List ℕ) (place : ℕ) (more : List ℕ) → IsBytes bytes → place < length bytes → header_at bytes ≡ Err (length bytes - place) → headed format (header_at (bytes ++ more)) ≡ broken
unfolding header_at
wrong_on format bytes place more are lt e =
    let front = take place bytes in
    let byte = get_or bytes place 0 in
    let behind = drop (place + 1) bytes in
    let is : bytes ≡ front ++ byte ∷ behind = at_place place bytes lt in
    let left : length bytes - place ≡ suc (length behind) = omega (arith, length-drop (place + 1) bytes) in
    let fails : headers.header.read (front ++ byte ∷ behind) ≡ Err (suc (length behind)) = ap headers.header.read (sym is) ∙ e ∙ ap Err left in
    let longer : bytes ++ more ≡ front ++ byte ∷ (behind ++ more) = ap (λ (l : List ℕ). l ++ more) is ∙ append_assoc front (byte ∷ behind) more in
    ap (λ (l : List ℕ). headed format (headers.header.read l)) longer ∙ ap (headed format) (header_lawful.sure front byte behind (behind ++ more) (subst IsBytes is are) fails)

pub fault_found : (bytes : List ℕ) (fault : CodecFault) (place : ℕ) → fault ≡ Bad place → FindsSo {T = Header} (Err fault) bytes (header_at bytes) → header_at bytes ≡ Err (length bytes - place)
fault_found bytes fault place is found = (subst (λ (f : CodecFault). FindsSo {T = Header} (Err f) bytes (header_at bytes)) is found).1
