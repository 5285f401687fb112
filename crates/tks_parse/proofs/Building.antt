-- Parts that are built up: whole parts, and characters behind them.
use Rattle.std.proofs.Common.{◌≡◌, ℕ, List, [], ◌∷◌, ◌++◌, length, refl, sym, ap, ◌∙◌, arith}
use Rattle.tks_parse.specs.Tree.{Parts, no_part, char, join_parts, chars}
use Rattle.tks_parse.specs.View.{parts_of}
use Rattle.tks_parse.specs.declared.tree.Part.{Part}
use Rattle.tks_parse.specs.declared.tree.Part.TheVariants.{Text}
use Rattle.tks_parse.proofs.Joins.{parts_push, join_parts_assoc, join_parts_none}

chars_push : (t : List ℕ) (c : ℕ) → chars (t ++ c ∷ []) no_part ≡ join_parts (chars t no_part) (char c no_part)
chars_push [] c = refl
chars_push (d ∷ t) c = ap (char d) (chars_push t c)

pub built_char : (ps : Parts) (t : List ℕ) (c : ℕ) → join_parts ps (chars (t ++ c ∷ []) no_part) ≡ join_parts (join_parts ps (chars t no_part)) (char c no_part)
built_char ps t c = ap (join_parts ps) (chars_push t c) ∙ sym (join_parts_assoc ps (chars t no_part) (char c no_part))

pub built_none : (ps : Parts) (t : List ℕ) → length t ≡ 0 → join_parts ps (chars t no_part) ≡ ps
built_none ps [] h = join_parts_none ps
built_none ps (c ∷ t) h = absurd (omega (arith, h))

pub built_text : (ps : List Part) (t : List ℕ) → parts_of (ps ++ Text t ∷ []) ≡ join_parts (parts_of ps) (chars t no_part)
built_text ps t = parts_push ps (Text t)

pub built_part : (ps : List Part) (p : Part) → join_parts (parts_of (ps ++ p ∷ [])) no_part ≡ join_parts (parts_of ps) (parts_of (p ∷ []))
built_part ps p = join_parts_none (parts_of (ps ++ p ∷ [])) ∙ parts_push ps p
