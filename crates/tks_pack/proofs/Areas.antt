-- Cells by places along the axes.
use Rattle.std.proofs.Common.{◌≡◌, List, [], ◌∷◌, ◌++◌, length, Option, sym, ◌∙◌, arith}
use Rattle.std.proofs.lemmas.List.{append-nil}
use Rattle.tks_pack.specs.declared.area.Area.{Area}
use Rattle.tks_pack.specs.declared.line.Span.{Span}
use Rattle.tks_pack.specs.Packing.{areas}

-- no place is left along the second axis
pub ends : (l whole : List (Option Area)) (hs vs : List (Option Span)) → l ++ areas hs vs ≡ whole → length vs ≡ 0 → l ≡ whole
ends l whole [] vs h e = sym (append-nil l) ∙ h
ends l whole (x ∷ hs) [] h e = sym (append-nil l) ∙ h
ends l whole (x ∷ hs) (v ∷ vs) h e = absurd (omega arith)
