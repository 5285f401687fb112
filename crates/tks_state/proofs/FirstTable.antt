-- The bindings of the first world are those of its table: what the text of each line is read as, and what comes of the
-- lines where they are bound one after the other.
use Rattle.std.proofs.Common.{◌≡◌, ℕ, ◌+◌, false, List, [], ◌∷◌, ◌++◌, codes, Ok, refl, subst, sym, ap, ◌∙◌}
use Rattle.tks_event.specs.Keysyms.{is_keysym}
use Rattle.tks_event.specs.Reading.{sequence_of, spelled_list, patterns_in, pattern_step, pattern_at, virtual_at, words_at, said}
use Rattle.tks_event.specs.declared.kind.Kind.{Kind}
use Rattle.tks_event.specs.declared.kind.Kind.TheVariants as kind
use Rattle.tks_event.specs.declared.pattern.Pattern.{Pattern}
use Rattle.tks_bind.specs.Binding.{Content, nothing, bound}
use Rattle.tks_bind.specs.declared.binding.Binding.{Binding}
use Rattle.tks_state.specs.ClassBindings.{FirstBinding, all_bound, bound_read, presses, typing, entry_keys, text_keys, invoking, traversal, first_bindings}
use Rattle.tks_state.specs.FirstTable.{AreOf, first_table}

-- ---- what the texts are read as, each in a lemma of its own, since all of them together take too many steps

-- a sequence of one pattern
abbrev one : Kind → ℕ → List ℕ → List Pattern
one k modifiers detail = record { near = false; kind = k; modifiers = modifiers; detail = detail } ∷ []

abbrev pressed : List Pattern
pressed = one kind.ButtonPress 0 (codes "1")

abbrev any_key : List Pattern
any_key = one kind.KeyPress 0 []

abbrev with_control : List Pattern
with_control = one kind.KeyPress 4 []

abbrev with_mod1 : List Pattern
with_mod1 = one kind.KeyPress 8 []

abbrev backspace : List Pattern
backspace = one kind.KeyPress 0 (codes "BackSpace")

abbrev delete : List Pattern
delete = one kind.KeyPress 0 (codes "Delete")

abbrev left : List Pattern
left = one kind.KeyPress 0 (codes "Left")

abbrev right : List Pattern
right = one kind.KeyPress 0 (codes "Right")

abbrev enter : List Pattern
enter = one kind.KeyPress 0 (codes "Return")

abbrev released : List Pattern
released = one kind.ButtonRelease 0 (codes "1")

abbrev space : List Pattern
space = one kind.KeyPress 0 (codes "space")

abbrev tab : List Pattern
tab = one kind.KeyPress 0 (codes "Tab")

abbrev shift_tab : List Pattern
shift_tab = one kind.KeyPress 1 (codes "Tab")

pressed_read : sequence_of (codes "<ButtonPress-1>") ≡ Ok pressed
unfolding sequence_of spelled_list patterns_in pattern_step pattern_at virtual_at words_at said is_keysym
pressed_read = refl

any_key_read : sequence_of (codes "<KeyPress>") ≡ Ok any_key
unfolding sequence_of spelled_list patterns_in pattern_step pattern_at virtual_at words_at said is_keysym
any_key_read = refl

with_control_read : sequence_of (codes "<Control-KeyPress>") ≡ Ok with_control
unfolding sequence_of spelled_list patterns_in pattern_step pattern_at virtual_at words_at said is_keysym
with_control_read = refl

with_mod1_read : sequence_of (codes "<Mod1-KeyPress>") ≡ Ok with_mod1
unfolding sequence_of spelled_list patterns_in pattern_step pattern_at virtual_at words_at said is_keysym
with_mod1_read = refl

backspace_read : sequence_of (codes "<KeyPress-BackSpace>") ≡ Ok backspace
unfolding sequence_of spelled_list patterns_in pattern_step pattern_at virtual_at words_at said is_keysym
backspace_read = refl

delete_read : sequence_of (codes "<KeyPress-Delete>") ≡ Ok delete
unfolding sequence_of spelled_list patterns_in pattern_step pattern_at virtual_at words_at said is_keysym
delete_read = refl

left_read : sequence_of (codes "<KeyPress-Left>") ≡ Ok left
unfolding sequence_of spelled_list patterns_in pattern_step pattern_at virtual_at words_at said is_keysym
left_read = refl

right_read : sequence_of (codes "<KeyPress-Right>") ≡ Ok right
unfolding sequence_of spelled_list patterns_in pattern_step pattern_at virtual_at words_at said is_keysym
right_read = refl

enter_read : sequence_of (codes "<KeyPress-Return>") ≡ Ok enter
unfolding sequence_of spelled_list patterns_in pattern_step pattern_at virtual_at words_at said is_keysym
enter_read = refl

released_read : sequence_of (codes "<ButtonRelease-1>") ≡ Ok released
unfolding sequence_of spelled_list patterns_in pattern_step pattern_at virtual_at words_at said is_keysym
released_read = refl

space_read : sequence_of (codes "<KeyPress-space>") ≡ Ok space
unfolding sequence_of spelled_list patterns_in pattern_step pattern_at virtual_at words_at said is_keysym
space_read = refl

tab_read : sequence_of (codes "<KeyPress-Tab>") ≡ Ok tab
unfolding sequence_of spelled_list patterns_in pattern_step pattern_at virtual_at words_at said is_keysym
tab_read = refl

shift_tab_read : sequence_of (codes "<Shift-KeyPress-Tab>") ≡ Ok shift_tab
unfolding sequence_of spelled_list patterns_in pattern_step pattern_at virtual_at words_at said is_keysym
shift_tab_read = refl

-- ---- the sequences of the lines

abbrev of_presses : List (List Pattern)
of_presses = pressed ∷ pressed ∷ pressed ∷ pressed ∷ pressed ∷ []

abbrev of_typing : List (List Pattern)
of_typing = any_key ∷ with_control ∷ with_mod1 ∷ []

abbrev of_entry_keys : List (List Pattern)
of_entry_keys = backspace ∷ delete ∷ left ∷ right ∷ []

abbrev of_text_keys : List (List Pattern)
of_text_keys = backspace ∷ enter ∷ left ∷ right ∷ []

abbrev of_invoking : List (List Pattern)
of_invoking = released ∷ space ∷ []

abbrev of_traversal : List (List Pattern)
of_traversal = tab ∷ shift_tab ∷ []

abbrev pub sequences : List (List Pattern)
sequences = of_presses ++ of_typing ++ of_typing ++ of_entry_keys ++ of_text_keys ++ of_invoking ++ of_invoking ++ of_traversal

-- the text of each line is read as the sequence
data AreRead : List FirstBinding → List (List Pattern) → Type 0 where
  none : AreRead [] []
  line : {w : FirstBinding} {ws : List FirstBinding} {s : List Pattern} {ss : List (List Pattern)} → sequence_of w.sequence ≡ Ok s → AreRead ws ss → AreRead (w ∷ ws) (s ∷ ss)

and_read : {ws vs : List FirstBinding} {ss ts : List (List Pattern)} → AreRead ws ss → AreRead vs ts → AreRead (ws ++ vs) (ss ++ ts)
and_read none rest = rest
and_read (line e h) rest = line e (and_read h rest)

presses_read : AreRead presses of_presses
presses_read = line pressed_read (line pressed_read (line pressed_read (line pressed_read (line pressed_read none))))

typing_read : (tag : List ℕ) → AreRead (typing tag) of_typing
typing_read tag = line any_key_read (line with_control_read (line with_mod1_read none))

entry_keys_read : AreRead entry_keys of_entry_keys
entry_keys_read = line backspace_read (line delete_read (line left_read (line right_read none)))

text_keys_read : AreRead text_keys of_text_keys
text_keys_read = line backspace_read (line enter_read (line left_read (line right_read none)))

invoking_read : (tag : List ℕ) → AreRead (invoking tag) of_invoking
invoking_read tag = line released_read (line space_read none)

traversal_read : AreRead traversal of_traversal
traversal_read = line tab_read (line shift_tab_read none)

table_is_read : AreRead first_table sequences
table_is_read =
    and_read presses_read
    (and_read (typing_read (codes "Entry"))
    (and_read (typing_read (codes "Text"))
    (and_read entry_keys_read
    (and_read text_keys_read (and_read (invoking_read (codes "Button")) (and_read (invoking_read (codes "Checkbutton")) traversal_read))))))

-- ---- what comes of the lines

-- a binding for each line and its sequence, with rising numbers
abbrev made_of : ℕ → List FirstBinding → List (List Pattern) → List Binding
made_of number [] ss = []
made_of number (w ∷ ws) [] = []
made_of number (w ∷ ws) (s ∷ ss) = record { number = number; tag = w.tag; sequence = s; script = w.script } ∷ made_of (number + 1) ws ss

made_are_of : (number : ℕ) {ws : List FirstBinding} {ss : List (List Pattern)} → AreRead ws ss → AreOf ws (made_of number ws ss)
made_are_of number none = tt
made_are_of number (line e h) = (refl, e, refl, made_are_of (number + 1) h)

-- the lines bound one after the other, each to its sequence
abbrev pub bound_to : List FirstBinding → List (List Pattern) → Content → Content
bound_to [] ss c = c
bound_to (w ∷ ws) [] c = c
bound_to (w ∷ ws) (s ∷ ss) c = bound_to ws ss (bound w.tag s w.script c)

none_is_lost : {ws : List FirstBinding} {ss : List (List Pattern)} (c : Content) → AreRead ws ss → all_bound ws c ≡ bound_to ws ss c
none_is_lost c none = refl
none_is_lost c (line {w = w} {ws = ws} {s = s} e h) = ap (λ r. all_bound ws (bound_read w.tag r w.script c)) e ∙ none_is_lost (bound w.tag s w.script c) h

-- no two are of one tag and sequence, so each comes last; no script is empty or begins with a plus sign, so each is bound as it
-- stands
each_comes_last : (bound_to first_table sequences nothing).bindings ≡ made_of 0 first_table sequences
each_comes_last = refl

first_are_all : first_bindings ≡ all_bound first_table nothing
unfolding first_bindings
first_are_all = refl

pub first_are_bound : first_bindings ≡ bound_to first_table sequences nothing
first_are_bound = first_are_all ∙ none_is_lost nothing table_is_read

first_are_made : first_bindings.bindings ≡ made_of 0 first_table sequences
first_are_made = ap (λ (c : Content). c.bindings) first_are_bound ∙ each_comes_last

pub first_are_of_table : AreOf first_table first_bindings.bindings
first_are_of_table = subst (λ bs. AreOf first_table bs) (sym first_are_made) (made_are_of 0 table_is_read)
