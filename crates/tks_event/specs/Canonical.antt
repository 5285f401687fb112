-- How sequences are spelled (this project's own rule): each pattern in brackets, with its repeat word, its modifiers by
-- rising bit, its type and its detail, dashes between them.
use Rattle.std.specs.Prelude.{ℕ, ◌+◌, ◌==◌, List, [], ◌∷◌, ◌++◌, codes, if◌then◌else◌}
use Rattle.std.specs.List.{prefix_len}
use Rattle.tks_event.specs.Kinds.{kind_name, same_kind}
use Rattle.tks_event.specs.Modifiers.{has, modifier_name, all_modifiers}
use Rattle.tks_event.specs.declared.kind.Kind.TheVariants as kind
use Rattle.tks_event.specs.declared.modifiers.Modifier.{Modifier}
use Rattle.tks_event.specs.declared.pattern.Pattern.{Pattern}

-- a word, and a dash behind it
abbrev pub dashed : List ℕ → List ℕ
dashed w = w ++ 45 ∷ []

-- the repeat word of a pattern that comes so often
abbrev pub repeat_text : ℕ → List ℕ
repeat_text n = if n == 2 then dashed (codes "Double") else (if n == 3 then dashed (codes "Triple") else (if n == 4 then dashed (codes "Quadruple") else []))

-- those of some modifiers that are in a set
abbrev pub modifiers_text : ℕ → List Modifier → List ℕ
modifiers_text set [] = []
modifiers_text set (m ∷ ms) = (if has set m then dashed (modifier_name m) else []) ++ modifiers_text set ms

abbrev pub detail_text : List ℕ → List ℕ
detail_text [] = []
detail_text (c ∷ d) = 45 ∷ c ∷ d

-- a pattern of physical events that comes so often
abbrev pub physical_text : Pattern → ℕ → List ℕ
physical_text p n = 60 ∷ (repeat_text n ++ (modifiers_text p.modifiers all_modifiers ++ (kind_name p.kind ++ (detail_text p.detail ++ 62 ∷ []))))

-- the pattern of a virtual event
abbrev pub virtual_text : List ℕ → List ℕ
virtual_text n = 60 ∷ 60 ∷ n ++ 62 ∷ 62 ∷ []

abbrev pub pattern_text : Pattern → ℕ → List ℕ
pattern_text p n = if same_kind p.kind kind.Virtual then virtual_text p.detail else physical_text p n

-- how many patterns at the front are close behind the one before
abbrev pub near_count : List Pattern → ℕ
near_count ps = prefix_len (λ p. p.near) ps

-- the canonical spelling
unfoldable pub canonical : List Pattern → List ℕ
canonical [] = []
canonical (p ∷ ps) = (if p.near then [] else pattern_text p (1 + near_count ps)) ++ canonical ps
