-- The words of an `if` (if(n)) and the parameters of a procedure (proc(n)), as grammars. Of an `if`: a condition, a body, further ones behind `elseif`, and the last body. `then` and
-- `else` may be left out. That these three words are never conditions or bodies is this project's own rule.
use Rattle.std.specs.Prelude.{◌≡◌, ◌↔◌, ◌==◌, ℕ, true, false, length, codes, List, [], ◌∷◌, Option, Some, None, Ok}
use Rattle.tks_list.specs.ListText.{Splits}
use Rattle.tks_vars.specs.Names.{named, is_whole}
use Rattle.tks_vars.specs.declared.procedure.Parameter.{Parameter}
use Rattle.tks_eval.specs.Branches.{Test, Branches, is_keyword, branches, Condition}
use Rattle.tks_eval.specs.Procedures.{parameters_in}

-- a condition, perhaps `then`, and a body, then other words
pub data TestThen : Test → List (List ℕ) → List (List ℕ) → Type 0 where
  plain : (condition body : List ℕ) (rest : List (List ℕ)) → is_keyword condition ≡ false → is_keyword body ≡ false
      → TestThen (record { condition = condition; body = body }) (condition ∷ body ∷ rest) rest
  with_then : (condition body : List ℕ) (rest : List (List ℕ)) → is_keyword condition ≡ false → is_keyword body ≡ false
      → TestThen (record { condition = condition; body = body }) (condition ∷ codes "then" ∷ body ∷ rest) rest

-- what stands behind a test: nothing, the last body, `else` and the last body, or `elseif` and a further test
pub data Behind : List Test → Option (List ℕ) → List (List ℕ) → Type 0 where
  nothing : Behind [] None []
  last : (body : List ℕ) → is_keyword body ≡ false → Behind [] (Some body) (body ∷ [])
  else_last : (body : List ℕ) → is_keyword body ≡ false → Behind [] (Some body) (codes "else" ∷ body ∷ [])
  elseif : (t : Test) (tests : List Test) (otherwise : Option (List ℕ)) (words rest : List (List ℕ)) → TestThen t words rest → Behind tests otherwise rest
      → Behind (t ∷ tests) otherwise (codes "elseif" ∷ words)

-- the words of an `if` with these branches
pub record SpellsIf (words : List (List ℕ)) (b : Branches) : Type 0 where
  pub first : Test
  pub others : List Test
  pub rest : List (List ℕ)
  pub tests : b.tests ≡ first ∷ others
  pub begins : TestThen first words rest
  pub behind : Behind others b.otherwise rest

-- words are read as branches just where they are an `if` with these
abbrev pub ReadsIf : Type 0
ReadsIf = (words : List (List ℕ)) (b : Branches) → (branches Condition [] words ≡ Some b) ↔ SpellsIf words b

-- ---- parameters

-- the name of a whole variable, which isn't empty
pub record NamesParameter (name : List ℕ) : Type 0 where
  pub some : (length name == 0) ≡ false
  pub whole : is_whole (named name) ≡ true

-- a list of a name, or of a name and its default (proc(n))
pub data SaysParameter : List ℕ → Parameter → Type 0 where
  alone : (text name : List ℕ) → Splits text (name ∷ []) → NamesParameter name → SaysParameter text (record { name = name; default = None })
  with_default : (text name default : List ℕ) → Splits text (name ∷ default ∷ []) → NamesParameter name → SaysParameter text (record { name = name; default = Some default })

-- each text says a parameter
pub data SayParameters : List (List ℕ) → List Parameter → Type 0 where
  none : SayParameters [] []
  more : (text : List ℕ) (texts : List (List ℕ)) (p : Parameter) (ps : List Parameter) → SaysParameter text p → SayParameters texts ps → SayParameters (text ∷ texts) (p ∷ ps)

-- a text is read as parameters just where it is a list of such texts
abbrev pub ReadsParameters : Type 0
ReadsParameters = (procedure text : List ℕ) (ps : List Parameter) → (parameters_in procedure text ≡ Ok ps) ↔ ((texts : List (List ℕ)) × Splits text texts × SayParameters texts ps)
