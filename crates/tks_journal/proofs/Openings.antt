-- What stands at the front of a side, by what was read of it.
use Rattle.tks_journal.proofs.Faces.{closed_face, closed_gate}
use Rattle.std.proofs.Common.{◌≡◌, ◌≢◌, ◌<◌, ◌≤◌, ℕ, ◌+◌, ◌-◌, Bool, true, false, cond, List, [], ◌∷◌, ◌++◌, length, get_or, take, drop, None, refl, sym, ◌∙◌, ap, subst, arith, append_assoc, take-append-drop}
use Rattle.std.proofs.lemmas.List.{length-drop, length-take, take_all, take_at}
use Rattle.tks_spelling.specs.Header.{header_at}
use Rattle.tks_spelling.specs.Format.{byte_of, of_byte}
use Rattle.tks_spelling.specs.declared.format.Format.{Format}
use Rattle.tks_spelling.specs.declared.format.Format.TheVariants.{One, Two}
use Rattle.tks_spelling.specs.declared.header.Header.{Header}
use Rattle.tks_journal.specs.Fronts.{HeadOf, FrontIs, IsOpenSide, front_with, AttemptIs}
use Rattle.tks_journal.specs.Journal.{SpelledAs}
use Rattle.tks_journal.specs.Sides.{closed, unknown, broken, intact, face, format_of, headed, said_in, is_given}
use Rattle.tks_journal.specs.declared.front.Front.TheVariants.{Intact, Broken}
use Rattle.tks_journal.specs.declared.front.Attempt.TheVariants.{Read, Wrong, Short}

-- an open side of this format begins so
begins : (format : Format) (len : ℕ) (x : List ℕ) → IsOpenSide format len x → x ≡ 1 ∷ byte_of format ∷ drop 2 x
begins format len x side = sym (take-append-drop 2 x) ∙ ap (λ (l : List ℕ). l ++ drop 2 x) side.opens

open_face : (format : Format) (x behind : List ℕ) → x ≡ 1 ∷ byte_of format ∷ behind → face x ≡ headed format (header_at behind)
unfolding face format_of
open_face One x behind is = ap face is
open_face Two x behind is = ap face is

-- the bytes behind the format, in two parts
parts : (count : ℕ) (x bytes : List ℕ) → bytes ≡ take count (drop 2 x) → drop 2 x ≡ bytes ++ drop count (drop 2 x)
parts count x bytes is = sym (take-append-drop count (drop 2 x)) ∙ ap (λ (l : List ℕ). l ++ drop count (drop 2 x)) (sym is)

pub wrong_front : (format : Format) (len count : ℕ) (x bytes : List ℕ) → IsOpenSide format len x → bytes ≡ take count (drop 2 x) → AttemptIs Wrong bytes → face x ≡ broken
wrong_front format len count x bytes side is wrong = open_face format x (drop 2 x) (begins format len x side) ∙ ap (λ (l : List ℕ). headed format (header_at l)) (parts count x bytes is) ∙ wrong format (drop count (drop 2 x))

pub short_front : (format : Format) (len count : ℕ) (x bytes : List ℕ) → IsOpenSide format len x → bytes ≡ take count (drop 2 x) → len - 2 ≤ count → AttemptIs Short bytes → face x ≡ broken
short_front format len count x bytes side is all short =
    let same : drop 2 x ≡ bytes = sym (take_all count (drop 2 x) (omega (arith, length-drop 2 x, side.size))) ∙ sym is in
    open_face format x (drop 2 x) (begins format len x side) ∙ ap (λ (l : List ℕ). headed format (header_at l)) same ∙ short format

-- a side that begins as one with this header does
pub headed_face : (format : Format) (header : Header) (head behind : List ℕ) → SpelledAs head header → is_given header.generation ≡ true → face (1 ∷ byte_of format ∷ head ++ behind) ≡ intact format header behind
headed_face format header head behind spelled given =
    open_face format (1 ∷ byte_of format ∷ head ++ behind) (head ++ behind) refl ∙ ap (headed format) (spelled.reads behind) ∙ ap (λ b. cond b (intact format header behind) broken) given

module _ (format : Format) (len count end : ℕ) (x bytes : List ℕ) (header : Header) (some : 2 ≤ len) (side : IsOpenSide format len x) (is : bytes ≡ take count (drop 2 x)) (read : AttemptIs (Read header end) bytes) where
  abbrev behind : List ℕ
  behind = drop end bytes ++ drop count (drop 2 x)

  is_so : drop 2 x ≡ take end bytes ++ behind
  is_so = parts count x bytes is ∙ ap (λ (l : List ℕ). l ++ drop count (drop 2 x)) (sym (take-append-drop end bytes)) ∙ append_assoc (take end bytes) (drop end bytes) (drop count (drop 2 x))

  long : length (take end bytes) ≡ end
  long = omega (arith, length-take end bytes, read.0)

  all_of : x ≡ 1 ∷ byte_of format ∷ take end bytes ++ behind
  all_of = begins format len x side ∙ ap (λ (l : List ℕ). 1 ∷ byte_of format ∷ l) is_so

  front : take (2 + end) x ≡ 1 ∷ byte_of format ∷ take end bytes
  front = ap (λ (l : List ℕ). take (2 + end) l) all_of ∙ take_at (1 ∷ byte_of format ∷ take end bytes) behind (2 + end) (omega (arith, long))

  fits : 2 + end ≤ length x
  fits = omega (arith, ap length is, length-take count (drop 2 x), length-drop 2 x, read.0, side.size, some)

  head_of : is_given header.generation ≡ true → HeadOf format header (2 + end) x
  head_of given = record {
    given = given;
    within = fits;
    front = front ∙ ap (λ (l : List ℕ). 1 ∷ byte_of format ∷ drop 2 l) (sym front);
    spelled = subst (λ (l : List ℕ). SpelledAs (drop 2 l) header) (sym front) read.1;
  }

  not_given : is_given header.generation ≡ false → face x ≡ broken
  not_given e = open_face format x (take end bytes ++ behind) all_of ∙ ap (headed format) (read.1.reads behind) ∙ ap (λ b. cond b (intact format header behind) broken) e

  with_test : (b : Bool) → is_given header.generation ≡ b → FrontIs (cond b (Intact (record { format = format; header = header; at = 2 + end; len = len })) Broken) x
  with_test true e = (head_of e, side.size)
  with_test false e = not_given e

  pub read_front : FrontIs (front_with format header (2 + end) len) x
  read_front = with_test (is_given header.generation) refl

pub short_face : (x : List ℕ) → length x < 2 → face x ≡ closed
unfolding face
short_face [] lt = refl
short_face (g ∷ []) lt = refl
short_face (g ∷ b ∷ rest) lt = absurd (omega arith)

pub shut_face : (x : List ℕ) → 2 ≤ length x → get_or x 0 0 ≢ 1 → face x ≡ closed
shut_face [] le shut = absurd (omega arith)
shut_face (g ∷ rest) le shut = closed_face (g ∷ rest) (closed_gate g rest shut)

pub unknown_face : (x : List ℕ) → 2 ≤ length x → get_or x 0 0 ≡ 1 → of_byte (get_or x 1 0) ≡ None → face x ≡ unknown
unfolding face format_of
unknown_face [] le is none = absurd (omega arith)
unknown_face (g ∷ []) le is none = absurd (omega arith)
unknown_face (g ∷ b ∷ rest) le is none = ap (λ o. face (o ∷ b ∷ rest)) is ∙ ap (λ f. said_in f rest) none
