-- What words say, and what is read of them.
use Rattle.std.proofs.Common.{◌≡◌, ℕ, ◌<◌, Bool, true, false, not, ◌==◌, List, [], ◌∷◌, length, Option, Some, None, refl, ap, ◌∙◌, subst, arith}
use Rattle.std.specs.Prelude.{is_none, if◌then◌else◌}
use Rattle.std.specs.List.{list_all}
use Rattle.std.specs.Option.{option_map}
use Rattle.std.proofs.lemmas.Bool.{eqb-true, eq-eqb, cond_both, and_left, and_right, not-true}
use Rattle.tks_event.specs.Keysyms.{is_keysym}
use Rattle.tks_event.specs.Kinds.{kinds, kind_named, is_button, is_detail}
use Rattle.tks_event.specs.Modifiers.{modifier_named}
use Rattle.tks_event.specs.Spelling.{repeats, times_named, with_more, repeated, once, Names, type, type_and_detail, button, keysym, Says, names, modifier, repeat}
use Rattle.tks_event.specs.Reading.{only, both, named_by, said_by, said, repeated_once}
use Rattle.tks_event.specs.declared.kind.Kind.{Kind}
use Rattle.tks_event.specs.declared.kind.Kind.TheVariants as kind
use Rattle.tks_event.specs.declared.modifiers.Modifier.{Modifier}
use Rattle.tks_event.specs.declared.pattern.Repeated.{Repeated}
use Rattle.tks_event.proofs.Leads.{of_named, names_nothing, modifier_names_nothing, repeat_names_nothing, said_is}
use Rattle.tks_event.proofs.WordsTold.{Filled}

-- ---- what is said is read

no_modifier : (w : List ℕ) (m : Option Modifier) → modifier_named w ≡ m → names_nothing w ≡ false → m ≡ None
no_modifier w None e h = refl
no_modifier w (Some m) e h = let n = modifier_names_nothing w m e in absurd cc

no_repeat : (w : List ℕ) (n : Option ℕ) → times_named w ≡ n → names_nothing w ≡ false → n ≡ None
no_repeat w None e h = refl
no_repeat w (Some n) e h = let k = repeat_names_nothing w n e in absurd cc

said_named : (w : List ℕ) (ws : List (List ℕ)) → names_nothing w ≡ false → said (w ∷ ws) ≡ named_by w ws
said_named w ws h = said_is w ws None None (no_modifier w (modifier_named w) refl h) (no_repeat w (times_named w) refl h)

kind_names : (w : List ℕ) (k : Kind) → kind_named w ≡ Some k → names_nothing w ≡ false
kind_names w k e = rw e refl

no_kind : (p : List ℕ → Bool) (w : List ℕ) (k : Option Kind) → list_all (λ row. not (p row.0)) kinds ≡ true → kind_named w ≡ k → p w ≡ true → k ≡ None
no_kind p w None h e b = refl
no_kind p w (Some k) h e b = let n = of_named (λ t. not (p t)) kinds w k h e in let f = not-true (p w) n in absurd cc

button_names : (d : List ℕ) → is_button d ≡ true → names_nothing d ≡ false
button_names d b = and_right (is_none (kind_named d)) _ (and_left (not (is_button d)) _ (rw b refl))

keysym_names : (d : List ℕ) → is_keysym d ≡ true → names_nothing d ≡ false
keysym_names d b = and_right (is_none (kind_named d)) _ (and_right (not (is_button d)) (not (is_keysym d)) (rw b refl))

button_kind : (d : List ℕ) → is_button d ≡ true → kind_named d ≡ None
button_kind d b = no_kind is_button d (kind_named d) refl refl b

keysym_kind : (d : List ℕ) → is_keysym d ≡ true → kind_named d ≡ None
unfolding is_keysym
keysym_kind d b = no_kind is_keysym d (kind_named d) refl refl b

names_read : (ws : List (List ℕ)) (k : Kind) (d : List ℕ) → Names ws k d → said ws ≡ Some (once k 0 d)
names_read _ _ _ (type w k e) = said_named w [] (kind_names w k e) ∙ ap (λ o. only o w) e
names_read _ _ _ (type_and_detail w d k e b) = said_named w (d ∷ []) (kind_names w k e) ∙ ap (λ o. both o d) e ∙ ap (λ (x : Bool). if x then Some (once k 0 d) else None) b
names_read _ _ _ (button d b) = said_named d [] (button_names d b) ∙ ap (λ o. only o d) (button_kind d b) ∙ rw b refl
names_read _ _ _ (keysym d b n) = said_named d [] (keysym_names d b) ∙ ap (λ o. only o d) (keysym_kind d b) ∙ rw (n, b) refl

is_nothing : {X : Type 0} (o : Option X) → is_none o ≡ true → o ≡ None
is_nothing None h = refl
is_nothing (Some x) h = absurd cc

repeat_no_modifier : (w : List ℕ) (n : ℕ) → times_named w ≡ Some n → modifier_named w ≡ None
repeat_no_modifier w n e = is_nothing (modifier_named w) (of_named (λ t. is_none (modifier_named t)) repeats w n refl e)

pub said_spelled : (ws : List (List ℕ)) (r : Repeated) → Says ws r → said ws ≡ Some r
said_spelled _ _ (names ws k d h) = names_read ws k d h
said_spelled _ _ (modifier w ws m r e h) = said_is w ws (Some m) (times_named w) e refl ∙ ap (option_map (with_more m)) (said_spelled ws r h)
said_spelled _ _ (repeat w ws n r e one h) =
    said_is w ws None (Some n) (repeat_no_modifier w n e) e
    ∙ ap (repeated_once n) (said_spelled ws r h)
    ∙ ap (λ (x : Bool). if x then Some (repeated n r) else None) (eq-eqb r.times 1 one)

-- ---- what is read is said

only_told : (w : List ℕ) (k : Option Kind) (r : Repeated) → kind_named w ≡ k → only k w ≡ Some r → Says (w ∷ []) r
only_told w (Some k) r e h = let same : once k 0 [] ≡ r = cc in subst (Says (w ∷ [])) same (names (w ∷ []) k [] (type w k e))
only_told w None r e h =
    cond_both (is_button w) (Some (once kind.ButtonPress 0 w)) _ (λ o. o ≡ Some r → Says (w ∷ []) r)
    (λ b f. let same : once kind.ButtonPress 0 w ≡ r = cc in subst (Says (w ∷ [])) same (names (w ∷ []) kind.ButtonPress w (button w b)))
    (λ b. cond_both (is_keysym w) (Some (once kind.KeyPress 0 w)) None (λ o. o ≡ Some r → Says (w ∷ []) r)
    (λ s f. let same : once kind.KeyPress 0 w ≡ r = cc in subst (Says (w ∷ [])) same (names (w ∷ []) kind.KeyPress w (keysym w s b)))
    (λ s f. absurd cc))
    h

both_told : (w d : List ℕ) (k : Option Kind) (r : Repeated) → kind_named w ≡ k → both k d ≡ Some r → Says (w ∷ d ∷ []) r
both_told w d None r e h = absurd cc
both_told w d (Some k) r e h =
    cond_both (is_detail k d) (Some (once k 0 d)) None (λ o. o ≡ Some r → Says (w ∷ d ∷ []) r)
    (λ b f. let same : once k 0 d ≡ r = cc in subst (Says (w ∷ d ∷ [])) same (names (w ∷ d ∷ []) k d (type_and_detail w d k e b)))
    (λ b f. absurd cc)
    h

named_told : (w : List ℕ) (ws : List (List ℕ)) (r : Repeated) → named_by w ws ≡ Some r → Says (w ∷ ws) r
named_told w [] r h = only_told w (kind_named w) r refl h
named_told w (d ∷ []) r h = both_told w d (kind_named w) r refl h
named_told w (d ∷ e ∷ ws) r h = absurd cc

-- what is said of the words behind the first
abbrev SaysSo : List (List ℕ) → Option Repeated → Type 0
SaysSo ws None = Unit {0}
SaysSo ws (Some r) = Says ws r

modifier_told : (w : List ℕ) (ws : List (List ℕ)) (m : Modifier) (o : Option Repeated) (r : Repeated) → modifier_named w ≡ Some m → SaysSo ws o → option_map (with_more m) o ≡ Some r → Says (w ∷ ws) r
modifier_told w ws m None r e h k = absurd cc
modifier_told w ws m (Some p) r e h k = let same : with_more m p ≡ r = cc in subst (Says (w ∷ ws)) same (modifier w ws m p e h)

repeat_told : (w : List ℕ) (ws : List (List ℕ)) (n : ℕ) (o : Option Repeated) (r : Repeated) → times_named w ≡ Some n → SaysSo ws o → repeated_once n o ≡ Some r → Says (w ∷ ws) r
repeat_told w ws n None r e h k = absurd cc
repeat_told w ws n (Some p) r e h k =
    cond_both (p.times == 1) (Some (repeated n p)) None (λ o. o ≡ Some r → Says (w ∷ ws) r)
    (λ b f. let same : repeated n p ≡ r = cc in subst (Says (w ∷ ws)) same (repeat w ws n p e (eqb-true p.times 1 b) h))
    (λ b f. absurd cc)
    k

said_by_told : (w : List ℕ) (ws : List (List ℕ)) (m : Option Modifier) (n : Option ℕ) (o : Option Repeated) (r : Repeated) → modifier_named w ≡ m → times_named w ≡ n → SaysSo ws o → said_by m n (named_by w ws) o ≡ Some r → Says (w ∷ ws) r
said_by_told w ws (Some m) n o r e f h k = modifier_told w ws m o r e h k
said_by_told w ws None (Some n) o r e f h k = repeat_told w ws n o r f h k
said_by_told w ws None None o r e f h k = named_told w ws r k

as_said : (ws : List (List ℕ)) (o : Option Repeated) → ((r : Repeated) → o ≡ Some r → Says ws r) → SaysSo ws o
as_said ws None h = tt
as_said ws (Some r) h = h r refl

says_all : (ws : List (List ℕ)) → SaysSo ws (said ws)
unfolding said
says_all [] = tt
says_all (w ∷ ws) = as_said (w ∷ ws) (said_by (modifier_named w) (times_named w) (named_by w ws) (said ws)) (λ r h. said_by_told w ws (modifier_named w) (times_named w) (said ws) r refl refl (says_all ws) h)

pub says_told : (ws : List (List ℕ)) (r : Repeated) → said ws ≡ Some r → Says ws r
says_told ws r e = subst (SaysSo ws) e (says_all ws)

-- ---- no word that says anything is empty

detail_some : (k : Kind) (d : List ℕ) → is_detail k d ≡ true → 0 < length d
unfolding is_keysym
detail_some k (c ∷ d) h = omega arith
detail_some kind.KeyPress [] h = absurd cc
detail_some kind.KeyRelease [] h = absurd cc
detail_some kind.ButtonPress [] h = absurd cc
detail_some kind.ButtonRelease [] h = absurd cc
detail_some kind.FocusIn [] h = absurd cc
detail_some kind.FocusOut [] h = absurd cc
detail_some kind.Virtual [] h = absurd cc

kind_some : (w : List ℕ) (k : Kind) → kind_named w ≡ Some k → 0 < length w
kind_some [] k e = absurd cc
kind_some (c ∷ w) k e = omega arith

modifier_some : (w : List ℕ) (m : Modifier) → modifier_named w ≡ Some m → 0 < length w
modifier_some [] m e = absurd cc
modifier_some (c ∷ w) m e = omega arith

repeat_some : (w : List ℕ) (n : ℕ) → times_named w ≡ Some n → 0 < length w
repeat_some [] n e = absurd cc
repeat_some (c ∷ w) n e = omega arith

names_filled : (ws : List (List ℕ)) (k : Kind) (d : List ℕ) → Names ws k d → Filled ws
names_filled _ _ _ (type w k e) = (kind_some w k e, tt)
names_filled _ _ _ (type_and_detail w d k e b) = (kind_some w k e, (detail_some k d b, tt))
names_filled _ _ _ (button d b) = (detail_some kind.ButtonPress d b, tt)
names_filled _ _ _ (keysym d b n) = (detail_some kind.KeyPress d b, tt)

pub says_filled : (ws : List (List ℕ)) (r : Repeated) → Says ws r → Filled ws
says_filled _ _ (names ws k d h) = names_filled ws k d h
says_filled _ _ (modifier w ws m r e h) = (modifier_some w m e, says_filled ws r h)
says_filled _ _ (repeat w ws n r e one h) = (repeat_some w n e, says_filled ws r h)
