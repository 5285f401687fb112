-- The bindings (bind(n)).
use Rattle.std.specs.Prelude.{ℕ, ◌+◌, ◌==◌, ◌&&◌, not, Bool, if◌then◌else◌, List, [], ◌∷◌, ◌++◌, Option, Some, None}
use Rattle.std.specs.List.{filter}
use Rattle.tks_text.specs.Text.{same_text}
use Rattle.tks_event.specs.Canonical.{canonical}
use Rattle.tks_event.specs.Equality.{equal_patterns}
use Rattle.tks_event.specs.declared.pattern.Pattern.{Pattern}
use Rattle.tks_bind.specs.declared.binding.Binding.{Binding}

-- the bindings in the order in which they were made, and the number of the next one that is set
pub record Content : Type 0 where
  pub bindings : List Binding
  pub next : ℕ

abbrev pub nothing : Content
nothing = record { bindings = []; next = 0 }

-- whether it is the one of a tag and a sequence
abbrev pub is_for : List ℕ → List Pattern → Binding → Bool
is_for tag sequence b = same_text b.tag tag && equal_patterns b.sequence sequence

-- the script that a tag has for a sequence
abbrev pub script_for : List ℕ → List Pattern → List Binding → Option (List ℕ)
script_for tag sequence [] = None
script_for tag sequence (b ∷ bs) = if is_for tag sequence b then Some b.script else script_for tag sequence bs

-- a binding takes the place of the one of its tag and sequence, or comes last
abbrev pub placed : Binding → List Binding → List Binding
placed b [] = b ∷ []
placed b (c ∷ cs) = if is_for b.tag b.sequence c then b ∷ cs else c ∷ placed b cs

-- without the binding of a tag and a sequence
abbrev pub without : List ℕ → List Pattern → List Binding → List Binding
without tag sequence [] = []
without tag sequence (b ∷ bs) = if is_for tag sequence b then bs else b ∷ without tag sequence bs

-- a script is set: with the next number
abbrev pub set : List ℕ → List Pattern → List ℕ → Content → Content
set tag sequence script c =
    record { bindings = placed (record { number = c.next; tag = tag; sequence = sequence; script = script }) c.bindings; next = c.next + 1 }

abbrev pub unset : List ℕ → List Pattern → Content → Content
unset tag sequence c = record c { bindings = without tag sequence c.bindings }

-- without the bindings of a tag
abbrev pub without_tag : List ℕ → Content → Content
without_tag tag c = record c { bindings = filter (λ b. not (same_text b.tag tag)) c.bindings }

-- a script behind the one that is there, on a line of its own
abbrev pub appended : Option (List ℕ) → List ℕ → List ℕ
appended None more = more
appended (Some script) more = script ++ 10 ∷ more

-- the script that is set: one behind a plus sign is appended
abbrev pub made : Option (List ℕ) → List ℕ → List ℕ
made script [] = []
made script (p ∷ more) = if p == 43 then appended script more else p ∷ more

-- `bind tag sequence script`: an empty script takes the binding away
abbrev pub bound : List ℕ → List Pattern → List ℕ → Content → Content
bound tag sequence [] c = unset tag sequence c
bound tag sequence (p ∷ more) c = set tag sequence (made (script_for tag sequence c.bindings) (p ∷ more)) c

-- the sequences of a tag, in canonical spelling, in the order in which its bindings were made
abbrev pub spelled : List ℕ → List Binding → List (List ℕ)
spelled tag [] = []
spelled tag (b ∷ bs) = if same_text b.tag tag then canonical b.sequence ∷ spelled tag bs else spelled tag bs
