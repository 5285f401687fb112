-- Lines of known bytes, and a line that is read in pieces.
use Rattle.std.proofs.Common.{◌≡◌, ◌≢◌, ◌==◌, ◌+◌, ◌<◌, ◌≤◌, ℕ, false, cond, List, [], ◌∷◌, ◌++◌, All, length, Option, Some, None, IfSome, refl, sym, ap, subst, ◌∙◌, arith, append_assoc, append-nil, length-append, ne_eqb}
use Rattle.std.proofs.lemmas.List.Elements.{All-head, All-tail, All-append}
use Rattle.std.proofs.lemmas.Bool.Decides.{nat_tests}
use Rattle.std.specs.Io.KnownBytes.{Keeps, Consumes, IsAtEnd}
use Rattle.std.proofs.KnownBytes.{Consumes-trans}
use Rattle.tks_desk.specs.Lines.{first_line, after_line}
use Rattle.tks_desk.specs.Reading.{ReadsLine, IsLine, LineGrows, TakesPiece, piece_cost, ReadsAtMost, Pays}
use Rattle.tks_desk.specs.declared.input.Line.{Line}
use Rattle.tks_desk.specs.declared.input.Piece.{Piece}
use Rattle.tks_desk.specs.declared.input.Piece.TheVariants.{GoesOn, EndsAtNewline, EndsWithInput}

abbrev pub NoNewline : List ℕ → Type 0
NoNewline line = All (λ b. b ≢ 10) line

-- a line and its newline are what comes first
pub at_newline : (line rest : List ℕ) → NoNewline line → (first_line (line ++ 10 ∷ rest) ≡ line) × (after_line (line ++ 10 ∷ rest) ≡ rest)
at_newline [] rest none = (refl, refl)
at_newline (b ∷ line) rest none =
    let test : (b == 10) ≡ false = ne_eqb b 10 (All-head (λ x. x ≢ 10) b line none) in
    let tail = at_newline line rest (All-tail (λ x. x ≢ 10) b line none) in (
      ap (λ t. cond t [] (b ∷ first_line (line ++ 10 ∷ rest))) test ∙ ap (λ l. b ∷ l) tail.0,
      ap (λ t. cond t (line ++ 10 ∷ rest) (after_line (line ++ 10 ∷ rest))) test ∙ tail.1,
    )

-- bytes with no newline are one line
pub at_end : (line : List ℕ) → NoNewline line → (first_line line ≡ line) × (after_line line ≡ [])
at_end [] none = (refl, refl)
at_end (b ∷ line) none =
    let test : (b == 10) ≡ false = ne_eqb b 10 (All-head (λ x. x ≢ 10) b line none) in
    let tail = at_end line (All-tail (λ x. x ≢ 10) b line none) in (
      ap (λ t. cond t [] (b ∷ first_line line)) test ∙ ap (λ l. b ∷ l) tail.0,
      ap (λ t. cond t line (after_line line)) test ∙ tail.1,
    )

-- these bytes of a line were taken, and what may be read fell by one for each, or by more
pub record LineBegun (a b : Option (List ℕ)) (line : Line) (before left : ℕ) : Type 0 where
  pub bytes : List ℕ
  pub taken : Consumes a b bytes
  pub none : NoNewline bytes
  pub is : IsLine line bytes
  pub paid : length bytes + left ≤ before

-- what was paid for a line that was begun
pub begun_pays : (a b : Option (List ℕ)) (line : Line) (before left : ℕ) → LineBegun a b line before left → Pays a b before left
begun_pays a b line before left begun = (begun.bytes, begun.taken, begun.paid)

-- what was paid before and what is paid now, together
pub pays_on : (a b c : Option (List ℕ)) (before left after : ℕ) → Pays a b before left → Pays b c left after → Pays a c before after
pays_on a b c before left after first then = (
  first.0 ++ then.0,
  Consumes-trans a b c first.0 then.0 first.1 then.1,
  omega (arith, length-append first.0 then.0, first.2, then.2),
)

-- nothing was read
pub pays_nothing : (a b : Option (List ℕ)) (before left : ℕ) → Keeps a b → left ≤ before → Pays a b before left
pays_nothing None b before left keeps le = ([], tt, omega (arith, le))
pays_nothing (Some all) None before left keeps le = absurd keeps
pays_nothing (Some all) (Some rest) before left keeps le = ([], sym keeps, omega (arith, le))

-- what was paid for a piece
pub piece_pays : (a b : Option (List ℕ)) (before left : ℕ) (piece : Piece) (part : List ℕ) → TakesPiece piece a b part → length part + piece_cost piece + left ≤ before → Pays a b before left
piece_pays a b before left GoesOn part takes le = (part, takes, omega (arith, le))
piece_pays a b before left EndsAtNewline part takes le = (part ++ 10 ∷ [], takes, omega (arith, length-append part (10 ∷ []), le))
piece_pays a b before left EndsWithInput part takes le = pays_nothing a b before left takes.2 (omega (arith, le))

-- so no more was read than could be paid
pub reads_at_most : (a b : Option (List ℕ)) (most left : ℕ) → Pays a b most left → ReadsAtMost most a b
reads_at_most a b most left pays = (pays.0, pays.1, omega (arith, pays.2))

-- before a run has read
pub pays_none : (a : Option (List ℕ)) (most : ℕ) → Pays a a most most
pays_none None most = ([], tt, omega arith)
pays_none (Some all) most = ([], refl, omega arith)

pub ruleset paying = (begun_pays, pays_on, pays_nothing, piece_pays)

-- a line that was taken to its newline
read_to_newline : (a c : Option (List ℕ)) (line : Line) (bytes : List ℕ) → Consumes a c (bytes ++ 10 ∷ []) → NoNewline bytes → IsLine line bytes
    → IfSome a (λ all. ReadsLine all (Some line) c)
read_to_newline None c line bytes taken none is = tt
read_to_newline (Some all) None line bytes taken none is = absurd taken
read_to_newline (Some all) (Some rest) line bytes taken none is =
    let whole = taken ∙ append_assoc bytes (10 ∷ []) rest in
    let split = at_newline bytes rest none in (
      λ empty. absurd (omega (arith, ap length (sym empty ∙ whole), length-append bytes (10 ∷ rest))),
      subst (IsLine line) (sym (ap first_line whole ∙ split.0)) is,
      ap Some (sym (ap after_line whole ∙ split.1)),
    )

-- a line that was taken to the end of the input
read_to_end : (a b c : Option (List ℕ)) (line : Line) (bytes : List ℕ) → Consumes a b bytes → IsAtEnd b → Keeps b c → NoNewline bytes → IsLine line bytes → 0 < length bytes
    → IfSome a (λ all. ReadsLine all (Some line) c)
read_to_end None b c line bytes taken end keeps none is some = tt
read_to_end (Some all) None c line bytes taken end keeps none is some = absurd taken
read_to_end (Some all) (Some rest) None line bytes taken end keeps none is some = absurd keeps
read_to_end (Some all) (Some rest) (Some kept) line bytes taken end keeps none is some =
    let whole = taken ∙ ap (λ l. bytes ++ l) end ∙ append-nil bytes in
    let split = at_end bytes none in (
      λ empty. absurd (omega (arith, some, ap length (sym empty ∙ whole))),
      subst (IsLine line) (sym (ap first_line whole ∙ split.0)) is,
      ap Some (keeps ∙ end ∙ sym (ap after_line whole ∙ split.1)),
    )

-- the last piece of a line
module _ (a b c : Option (List ℕ)) (old new : Line) (before left : ℕ) (piece : Piece) (part : List ℕ)
    (begun : LineBegun a b old before left) (grows : LineGrows old new part) (none : NoNewline part) (takes : TakesPiece piece b c part) where
  pub ends_at_newline : piece ≡ EndsAtNewline → IfSome a (λ all. ReadsLine all (Some new) c)
  ends_at_newline at =
      let last = subst (λ p. TakesPiece p b c part) at takes in
      let taken = Consumes-trans a b c begun.bytes (part ++ 10 ∷ []) begun.taken last in
      read_to_newline a c new (begun.bytes ++ part) (subst (Consumes a c) (sym (append_assoc begun.bytes part (10 ∷ []))) taken)
      (All-append (λ b. b ≢ 10) begun.bytes part begun.none none) (grows begun.bytes begun.is)

  pub ends_with_input : piece ≡ EndsWithInput → ((bytes : List ℕ) → IsLine new bytes → false ≡ (length bytes == 0)) → IfSome a (λ all. ReadsLine all (Some new) c)
  ends_with_input at some =
      let last = subst (λ p. TakesPiece p b c part) at takes in
      let same : begun.bytes ++ part ≡ begun.bytes = ap (λ l. begun.bytes ++ l) last.0 ∙ append-nil begun.bytes in
      let is = subst (IsLine new) same (grows begun.bytes begun.is) in
      read_to_end a b c new begun.bytes begun.taken last.1 last.2 begun.none is (grind (arith, nat_tests, some begun.bytes is))
