-- The arguments of a call, as its frame holds them.
use Rattle.std.proofs.Common.{◌≡◌, List, [], ◌∷◌, ◌++◌, map, refl, sym, ap, ◌∙◌}
use Rattle.std.specs.Prelude.{reverse}
use Rattle.std.proofs.lemmas.List.{reverse-append}
use Rattle.std.specs.FinMap as fin
use Rattle.tks_vars.specs.Few.{Entry, put_behind, entry_of, argument_of}
use Rattle.tks_vars.specs.Variables.{Frame, filled, frame_of}
use Rattle.tks_vars.specs.declared.procedure.Argument.{Argument}

filled_more : (m : Frame) (xs ys : List Argument) → filled m (xs ++ ys) ≡ filled (filled m xs) ys
filled_more m [] ys = refl
filled_more m (x ∷ xs) ys = filled_more (fin.insert m x.name (entry_of x).1) xs ys

put_filled : (m : Frame) (xs : List Argument) → put_behind m (map entry_of xs) ≡ filled m (reverse xs)
put_filled m [] = refl
put_filled m (x ∷ xs) =
    ap (λ n. fin.insert n x.name (entry_of x).1) (put_filled m xs) ∙ sym (filled_more m (reverse xs) (x ∷ [])) ∙ ap (filled m) (sym (reverse-append (x ∷ []) xs))

-- the entries of all arguments, put in one after the other, are the frame of the call
pub put_is_frame : (es : List Entry) → es ≡ map entry_of (map argument_of es) → put_behind fin.empty es ≡ frame_of (map argument_of es)
put_is_frame es e = ap (put_behind fin.empty) e ∙ put_filled fin.empty (map argument_of es)
