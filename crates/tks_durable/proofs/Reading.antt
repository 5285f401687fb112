-- Lists of inputs, read one after the other.
use Rattle.std.proofs.Common.{◌≡◌, ◌<◌, ◌≤◌, ℕ, zero, suc, ◌+◌, ◌-◌, List, [], ◌∷◌, ◌++◌, length, take, drop, Option, Some, None, IfSome, Ok, Err, refl, sym, ◌∙◌, ap, subst, arith}
use Rattle.std.proofs.lemmas.List.{length-drop, length-append, length-take}
use Rattle.std.proofs.Math.Seq.{drop-append_seam}
use Rattle.std.specs.List.{AllByRecursion}
use Rattle.tks_spelling.specs.Input as codec
use Rattle.tks_spelling.specs.Reading.{FindsSo}
use Rattle.tks_spelling.specs.declared.fault.CodecFault.{CodecFault}
use Rattle.tks_spelling.specs.declared.fault.CodecFault.TheVariants.{Bad}
use Rattle.tks_spelling.proofs.Inputs.{input_lawful, input_filled}
use Rattle.tks_input.specs.declared.input.Input.{Input}
use Rattle.tks_durable.specs.Inputs.{found, with_input, inputs_from, inputs_in, spelled}

-- bytes that are passed over don't matter
pub passed : (skip : ℕ) (bytes : List ℕ) → inputs_from skip bytes ≡ inputs_in (drop skip bytes)
unfolding inputs_in
passed zero bytes = refl
passed (suc skip) [] = refl
passed (suc skip) (byte ∷ bytes) = passed skip bytes

-- an input at the front, and those behind it
pub met : (bytes : List ℕ) (input : Input) (count : ℕ) → 0 < count → count ≤ length bytes → codec.input_at bytes ≡ Ok (input, drop count bytes) → inputs_in bytes ≡ with_input input (inputs_in (drop count bytes))
unfolding inputs_in
met bytes input zero lt le read = absurd (omega (arith, lt))
met [] input (suc n) lt le read = absurd (omega (arith, le))
met (byte ∷ bytes) input (suc n) lt le read =
    let left : length bytes - length (drop n bytes) ≡ n = omega (arith, length-drop n bytes, le) in
    ap (λ o. found bytes o (λ skip. inputs_from skip bytes)) read ∙ ap (λ (k : ℕ). with_input input (inputs_from k bytes)) left ∙ ap (λ o. with_input input o) (passed n bytes)

-- what is spelled is read
pub read_first : (input : Input) (rest : List ℕ) → codec.input.Legal input → inputs_in (codec.input.write input ++ rest) ≡ with_input input (inputs_in rest)
unfolding codec.input_at
read_first input rest legal =
    let here : drop (length (codec.input.write input)) (codec.input.write input ++ rest) ≡ rest = drop-append_seam (codec.input.write input) rest in
    met (codec.input.write input ++ rest) input (length (codec.input.write input)) (input_filled input) (omega (arith, length-append (codec.input.write input) rest))
    (input_lawful.reads_back input rest legal ∙ ap (λ (l : List ℕ). Ok (input, l)) (sym here))
    ∙ ap (λ (l : List ℕ). with_input input (inputs_in l)) here

pub read_all : (inputs : List Input) → AllByRecursion codec.input.Legal inputs → inputs_in (spelled inputs) ≡ Some inputs
unfolding inputs_in
read_all [] legal = refl
read_all (input ∷ inputs) legal = read_first input (spelled inputs) legal.0 ∙ ap (λ o. with_input input o) (read_all inputs legal.1)

-- what a reader says of the first one
pub first_read : (bytes : List ℕ) (input : Input) (count : ℕ) → take count bytes ≡ codec.input.write input → count ≤ length bytes → codec.input_at bytes ≡ Ok (input, drop count bytes)
    → (0 < count) × (count ≤ length bytes) × (inputs_in bytes ≡ with_input input (inputs_in (drop count bytes)))
first_read bytes input count front le read =
    let some : 0 < count = omega (arith, ap length front, length-take count bytes, input_filled input) in
    (some, le, met bytes input count some le read)

pub none_read : (bytes : List ℕ) (fault : CodecFault) (place : ℕ) → 0 < length bytes → fault ≡ Bad place → FindsSo {T = Input} (Err fault) bytes (codec.input_at bytes) → inputs_in bytes ≡ None
unfolding inputs_in
none_read [] fault place some is finds = absurd (omega (arith, some))
none_read (byte ∷ bytes) fault place some is finds = ap (λ o. found bytes o (λ skip. inputs_from skip bytes)) (subst (λ (f : CodecFault). FindsSo {T = Input} (Err f) (byte ∷ bytes) (codec.input_at (byte ∷ bytes))) is finds).1

pub none_left : (bytes : List ℕ) → length bytes ≡ 0 → inputs_in bytes ≡ Some []
unfolding inputs_in
none_left [] e = refl
none_left (byte ∷ bytes) e = absurd (cc e)

-- So many inputs were found, and these are left, of all.
abbrev pub CountsOn : ℕ → Option (List Input) → Option (List Input) → Type 0
CountsOn count None all = all ≡ None
CountsOn count (Some others) all = IfSome all (λ inputs. length inputs ≡ count + length others)

pub counts_first : (all : Option (List Input)) → CountsOn 0 all all
counts_first None = refl
counts_first (Some inputs) = omega arith

pub counts_next : (count : ℕ) (input : Input) (rest others all : Option (List Input)) → CountsOn count rest all → rest ≡ with_input input others → CountsOn (count + 1) others all
counts_next count input rest None all c is = subst (λ r. CountsOn count r all) is c
counts_next count input rest (Some others) all c is = one_more all (subst (λ r. CountsOn count r all) is c)
  where
    one_more : (all : Option (List Input)) → IfSome all (λ inputs. length inputs ≡ count + length (input ∷ others)) → IfSome all (λ inputs. length inputs ≡ count + 1 + length others)
    one_more None c = tt
    one_more (Some inputs) c = omega (arith, c)

pub counts_all : (count : ℕ) (rest all : Option (List Input)) → CountsOn count rest all → rest ≡ Some [] → IfSome all (λ inputs. count ≡ length inputs)
counts_all count rest all c is = at_end all (subst (λ r. CountsOn count r all) is c)
  where
    at_end : (all : Option (List Input)) → IfSome all (λ inputs. length inputs ≡ count + 0) → IfSome all (λ inputs. count ≡ length inputs)
    at_end None c = tt
    at_end (Some inputs) c = omega (arith, c)

pub counts_none : (count : ℕ) (rest all : Option (List Input)) (P : List Input → Type 0) → CountsOn count rest all → rest ≡ None → IfSome all P
counts_none count rest all P c is = subst (λ r. IfSome r P) (sym (subst (λ r. CountsOn count r all) is c)) tt
