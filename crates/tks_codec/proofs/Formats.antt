-- What the formats of a side have to do with one another: what is read in the first is read in the second.
use Rattle.std.proofs.Common.{◌≡◌, ℕ, suc, Bool, true, false, List, [], ◌∷◌, length, Some, None, Ok, Err, refl, sym, ap, ◌∙◌, subst}
use Rattle.std.specs.Prelude.{◌==◌, if◌then◌else◌, is_some}
use Rattle.std.specs.Int.{w64}
use Rattle.std.proofs.lemmas.Bool.{eqb-true}
use Rattle.tks_text.specs.Size.{Extent}
use Rattle.tks_spelling.specs.Spelling.{Read, Spelling, ◌>>=◌, passed, such_that, field, through, number, texts}
use Rattle.tks_spelling.specs.declared.format.Format.TheVariants as formats
use Rattle.tks_spelling.proofs.Joining.{bind_ok, ok_is, no_fault}
use Rattle.tks_state.specs.Restoring.{is_possible}
use Rattle.tks_state.specs.World.{World, windows_of}
use Rattle.tks_state.specs.declared.rules.Rules.{Rules}
use Rattle.tks_state.specs.declared.rules.Rules.TheVariants as rules
use Rattle.tks_codec_events.specs.Held.{held}
use Rattle.tks_codec_events.specs.Queue.{queue}
use Rattle.tks_codec_events.specs.Timers.{waiting}
use Rattle.tks_codec_variables.specs.Variables.{variables}
use Rattle.tks_codec.specs.Counts.{counts}
use Rattle.tks_codec.specs.Happenings.{happenings}
use Rattle.tks_codec.specs.Windows.{windows}
use Rattle.tks_codec.specs.Ends.{Ends, press, memories, rules_in, or_first, rules_of, ends}
use Rattle.tks_codec.specs.World.{counts_of, happenings_of, ends_of, of_parts, fields, world, world_at}
use Rattle.tks_codec.proofs.OfParts.{first_legal}

-- ---- a kind that reads all that another reads

Extends : {T : Type 0} → Spelling T → Spelling T → Type 0
Extends {T} s t = (bytes : List ℕ) (x : T × List ℕ) → s.read bytes ≡ Ok x → t.read bytes ≡ Ok x

field_extends : {A T : Type 0} (get : T → A) (first : Spelling A) (others more : A → Spelling T) → ((a : A) → Extends (others a) (more a)) → Extends (field get first others) (field get first more)
unfolding Extends
field_extends {A} {T} get first others more h bytes x e =
    let p = bind_ok (first.read bytes) (λ y. (others y.0).read y.1) x e in
    ap (λ (r : Read A). r >>= λ y. (more y.0).read y.1) p.1 ∙ h p.0.0 p.0.1 x p.2

through_extends : {A T : Type 0} (get : T → A) (make : A → T) (s t : Spelling A) → Extends s t → Extends (through get make s) (through get make t)
unfolding Extends
through_extends {A} {T} get make s t h bytes x e =
    let p = bind_ok (s.read bytes) (λ y. Ok (make y.0, y.1)) x e in
    ap (λ (r : Read A). r >>= λ y. Ok (make y.0, y.1)) (h bytes p.0 p.1) ∙ p.2

test_extends : {T : Type 0} (test : T → Bool) (s t : Spelling T) → Extends s t → Extends (such_that test s) (such_that test t)
unfolding Extends
test_extends {T} test s t h bytes x e =
    let p = bind_ok (s.read bytes) (passed test) x e in
    ap (λ (r : Read T). r >>= passed test) (h bytes p.0 p.1) ∙ p.2

-- ---- a kind all of whose values are such

Finds : {T : Type 0} → Spelling T → (T → Type 0) → Type 0
Finds {T} s P = (bytes : List ℕ) (x : T × List ℕ) → s.read bytes ≡ Ok x → P x.0

field_finds : {A T : Type 0} (P : T → Type 0) (get : T → A) (first : Spelling A) (others : A → Spelling T) → ((a : A) → Finds (others a) P) → Finds (field get first others) P
unfolding Finds
field_finds P get first others h bytes x e =
    let p = bind_ok (first.read bytes) (λ y. (others y.0).read y.1) x e in
    h p.0.0 p.0.1 x p.2

through_finds : {A T : Type 0} (Q : A → Type 0) (P : T → Type 0) (get : T → A) (make : A → T) (s : Spelling A) → ((a : A) → Q a → P (make a)) → Finds s Q → Finds (through get make s) P
unfolding Finds
through_finds {A} {T} Q P get make s told h bytes x e =
    let p = bind_ok (s.read bytes) (λ y. Ok (make y.0, y.1)) x e in
    subst (λ (z : T × List ℕ). P z.0) (ok_is {A = T × List ℕ} (make p.0.0, p.0.1) x p.2) (told p.0.0 (h bytes p.0 p.1))

abbrev taken : {T : Type 0} → Bool → T × List ℕ → Read T
taken b found = if b then Ok found else Err (suc (length found.1))

taken_is : {T : Type 0} (b : Bool) (y x : T × List ℕ) → taken b y ≡ Ok x → y ≡ x
taken_is true y x e = ok_is y x e
taken_is false y x e = absurd (no_fault x (suc (length y.1)) (sym e))

test_finds : {T : Type 0} (P : T → Type 0) (test : T → Bool) (s : Spelling T) → Finds s P → Finds (such_that test s) P
unfolding Finds
test_finds {T} P test s h bytes x e =
    let p = bind_ok (s.read bytes) (passed test) x e in
    subst (λ (z : T × List ℕ). P z.0) (taken_is (test p.0.0) p.0 x p.2) (h bytes p.0 p.1)

-- ---- the rules

-- what is read of a number in a side of the first format: the first rules, where it is 1
abbrev first_read : Bool → ℕ → List ℕ → Read Rules
first_read b n rest = taken (is_some (if b then Some rules.One else None)) (n, rest) >>= λ found. Ok (or_first (rules_in formats.One found.0), found.1)

only_first : (n : ℕ) (rest : List ℕ) (x : Rules × List ℕ) (b : Bool) → (n == 1) ≡ b → (rules_of formats.One).read (n ∷ rest) ≡ Ok x → n ≡ 1
only_first n rest x true is e = eqb-true n 1 is
only_first n rest x false is e = absurd (no_fault x (suc (length rest)) (sym e ∙ ap (λ b. first_read b n rest) is))

rules_extend : Extends (rules_of formats.One) (rules_of formats.Two)
unfolding Extends
rules_extend [] x e = absurd (no_fault x 0 (sym e))
rules_extend (n ∷ rest) x e =
    let Goal : ℕ → Type 0 = λ n. (rules_of formats.One).read (n ∷ rest) ≡ Ok x → (rules_of formats.Two).read (n ∷ rest) ≡ Ok x in
    subst Goal (sym (only_first n rest x (n == 1) refl e)) (λ same. same) e

or_these : Rules → Read Rules → Rules
or_these d (Ok found) = found.0
or_these d (Err left) = d

rules_found : Finds (rules_of formats.One) (λ r. r ≡ rules.One)
unfolding Finds or_these
rules_found [] x e = absurd (no_fault x 0 (sym e))
rules_found (n ∷ rest) x e =
    let Goal : ℕ → Type 0 = λ n. (rules_of formats.One).read (n ∷ rest) ≡ Ok x → x.0 ≡ rules.One in
    subst Goal (sym (only_first n rest x (n == 1) refl e)) (λ same. sym (ap (or_these rules.One) same)) e

-- ---- worlds

ends_extend : Extends (ends formats.One) (ends formats.Two)
ends_extend =
    field_extends (λ x. x.focus) (number w64) _ _ (λ focus.
    field_extends (λ x. x.held) held _ _ (λ h.
    field_extends (λ x. x.pressed) press _ _ (λ pressed.
    field_extends (λ x. x.memories) memories _ _ (λ ms.
    field_extends (λ x. x.faults) texts _ _ (λ faults.
    through_extends (λ x. x.rules) _ (rules_of formats.One) (rules_of formats.Two) rules_extend)))))

abbrev EndsByFirst : Ends → Type 0
EndsByFirst e = e.rules ≡ rules.One

ends_found : Finds (ends formats.One) EndsByFirst
ends_found =
    field_finds EndsByFirst (λ x. x.focus) (number w64) _ (λ focus.
    field_finds EndsByFirst (λ x. x.held) held _ (λ h.
    field_finds EndsByFirst (λ x. x.pressed) press _ (λ pressed.
    field_finds EndsByFirst (λ x. x.memories) memories _ (λ ms.
    field_finds EndsByFirst (λ x. x.faults) texts _ (λ faults.
    through_finds (λ r. r ≡ rules.One) EndsByFirst (λ x. x.rules) _ (rules_of formats.One) (λ r is. is) rules_found)))))

fields_extend : (grid : Extent) → Extends (fields formats.One grid) (fields formats.Two grid)
fields_extend grid =
    field_extends counts_of counts _ _ (λ c.
    field_extends windows_of (windows c.window) _ _ (λ ws.
    field_extends (λ w. w.variables) variables _ _ (λ vs.
    field_extends happenings_of (happenings c.binding) _ _ (λ hs.
    field_extends (λ w. w.queue) queue _ _ (λ q.
    field_extends (λ w. w.timers) (waiting c.timer) _ _ (λ ts.
    through_extends ends_of (λ e. of_parts grid c ws vs hs q ts e) (ends formats.One) (ends formats.Two) ends_extend))))))

abbrev ByFirst : World → Type 0
ByFirst w = w.rules ≡ rules.One

fields_found : (grid : Extent) → Finds (fields formats.One grid) ByFirst
fields_found grid =
    field_finds ByFirst counts_of counts _ (λ c.
    field_finds ByFirst windows_of (windows c.window) _ (λ ws.
    field_finds ByFirst (λ w. w.variables) variables _ (λ vs.
    field_finds ByFirst happenings_of (happenings c.binding) _ (λ hs.
    field_finds ByFirst (λ w. w.queue) queue _ (λ q.
    field_finds ByFirst (λ w. w.timers) (waiting c.timer) _ (λ ts.
    through_finds EndsByFirst ByFirst ends_of (λ e. of_parts grid c ws vs hs q ts e) (ends formats.One) (λ e is. is) ends_found))))))

pub read_in_second : (grid : Extent) (bytes rest : List ℕ) (w : World) → world_at formats.One grid bytes ≡ Ok (w, rest) → world_at formats.Two grid bytes ≡ Ok (w, rest)
unfolding world_at Extends
read_in_second grid bytes rest w e = test_extends is_possible (fields formats.One grid) (fields formats.Two grid) (fields_extend grid) bytes (w, rest) e

pub read_by_first : (grid : Extent) (bytes rest : List ℕ) (w : World) → world_at formats.One grid bytes ≡ Ok (w, rest) → w.rules ≡ rules.One
unfolding world_at Finds
read_by_first grid bytes rest w e = test_finds ByFirst is_possible (fields formats.One grid) (fields_found grid) bytes (w, rest) e

-- ---- what has a spelling in the first

ends_in_first : (x : Ends) → x.rules ≡ rules.One → (ends formats.Two).Legal x → (ends formats.One).Legal x
ends_in_first x first h =
    let own = subst (rules_of formats.One).Legal (sym first) first_legal in
    (h.0, (h.1.0, (h.1.1.0, (h.1.1.1.0, (h.1.1.1.1.0, (own, h.1.1.1.1.1.1))))))

-- a world that goes by the first rules
pub legal_in_first : (w : World) → (world formats.Two w.grid).Legal w → w.rules ≡ rules.One → (world formats.One w.grid).Legal w
legal_in_first w h first =
    let f = h.0 in
    let last = f.1.1.1.1.1.1 in
    ((f.0, (f.1.0, (f.1.1.0, (f.1.1.1.0, (f.1.1.1.1.0, (f.1.1.1.1.1.0, (ends_in_first (ends_of w) first last.0, last.1))))))), h.1)
