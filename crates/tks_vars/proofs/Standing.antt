-- Values that are changed where they stand.
use Rattle.std.proofs.Common.{◌≡◌, ◌<◌, ◌-◌, ℕ, length, get_or, true, if◌then◌else◌, List, [], ◌∷◌, Option, Some, None, is_some, option_and_then, Result, Ok, Err, refl, sym, subst, ap, ◌∙◌}
use Rattle.std.specs.Prelude.{OnErr, IfSome, reverse, slice_set}
use mathlib.Core.Logic.{inl, inr}
use Rattle.std.specs.FinMap as fin
use Rattle.std.specs.Cmp.Lexicographic.{nat_list_cmp_total}
use Rattle.tks_share.specs.Maps.{IsChangedIn}
use Rattle.tks_text.specs.Fault.{fault_about}
use Rattle.tks_text.specs.declared.fault.ErrorNumber.{ErrorNumber}
use Rattle.tks_text.specs.declared.fault.ErrorNumber.TheVariants.{NoSuchVariable, WrongKindOfVariable}
use Rattle.tks_text.specs.declared.fault.Failure.{Failure}
use Rattle.tks_text.specs.declared.fault.Failure.TheVariants as failure
use Rattle.tks_text.specs.declared.fault.ScriptFault.{ScriptFault}
use Rattle.tks_vars.specs.Table.{Map}
use Rattle.tks_vars.specs.Names.{Name, named}
use Rattle.tks_vars.specs.Variables.{Variables, Frame, about, after, on_name, value_in, element_of, updated, is_link, is_global, innermost, seen_through, content_in, content_of, with_content, value_of, with_value, grown, grown_inside, grown_by_value, size_in}
use Rattle.tks_vars.specs.Variables as variables
use Rattle.tks_vars.specs.Changing.{IsRefused, IsChanged, ChangesSo, IsChangedInside, ChangesInside, ChangesOwn, IsChangedUnder, IsChangedHere, ReachesSo, GivenSo}
use Rattle.tks_vars.specs.declared.changing.Reached.{Reached}
use Rattle.tks_vars.specs.declared.changing.Reached.TheVariants as reached
use Rattle.tks_vars.specs.declared.content.Content.{Content}
use Rattle.tks_vars.specs.declared.content.Content.TheVariants.{Scalar, Array}
use Rattle.tks_vars.specs.declared.content.Local.{Local}
use Rattle.tks_vars.specs.declared.content.Local.TheVariants.{Own, Link}
use Rattle.tks_vars.specs.declared.procedure.Procedure.{Procedure}
use Rattle.tks_vars.proofs.Frames.{last_present, last_changed, last_kept}
use Rattle.tks_vars.proofs.Keeping.{same_or_other, put_here, put_elsewhere}

-- what holds of an answer that is there
pub told : {A : Type 0} (P : A → Type 0) (o : Option A) (answer : A) → o ≡ Some answer → IfSome o P → P answer
told P o answer is all = subst (λ o. IfSome o P) is all

-- ---- what stands already changes nothing where it is put

module _ {V : Type 0} where
  pub put_same : (m : Map V) (name : List ℕ) (v : V) → fin.get m name ≡ Some v → fin.insert m name v ≡ m
  put_same m name v at =
      fin.same_map nat_list_cmp_total (fin.slice_cmp-IsAntisymmetric fin.nat_cmp-IsAntisymmetric) _ _ (λ q.
      elim (same_or_other q name) as (λ _. fin.get (fin.insert m name v) q ≡ fin.get m q) [
        | inl same ↦ subst (λ k. fin.get (fin.insert m name v) k ≡ fin.get m k) (sym same) (put_here m name v ∙ sym at)
        | inr other ↦ put_elsewhere m name v q other
      ])

  -- a change that leaves the value leaves the map
  pub stays : (old new : Map V) (name : List ℕ) (before after : V) → fin.get old name ≡ Some before → after ≡ before → new ≡ fin.insert old name after → new ≡ old
  stays old new name before after at same is = is ∙ ap (fin.insert old name) same ∙ put_same old name before at

element_same : (elements : Map (List ℕ)) (index value : List ℕ) → element_of (fin.get elements index) ≡ Ok value → fin.insert elements index value ≡ elements
element_same elements index value at = put_same elements index value (found (fin.get elements index) at)
  where
    found : (o : Option (List ℕ)) → element_of o ≡ Ok value → o ≡ Some value
    found None e = absurd cc
    found (Some x) e = cc

-- the value that stands there already
value_same : (c : Content) (index : Option (List ℕ)) (value : List ℕ) → value_in (Some c) index ≡ Ok value → updated (Some c) index value ≡ Ok c
value_same (Scalar old) None value at = let same : old ≡ value = cc in ap (λ v. Ok (Scalar v)) (sym same)
value_same (Scalar old) (Some index) value at = absurd cc
value_same (Array elements) None value at = absurd cc
value_same (Array elements) (Some index) value at = ap (λ m. Ok (Array m)) (element_same elements index value at)

module _ (globals : Map Content) (below : List (Option Frame)) (procedures : Map Procedure) (name : List ℕ) (c : Content) where
  abbrev by : Option Frame → Variables
  by present = record { globals = globals; locals = present ∷ below; procedures = procedures }

  same_in : (frame : Frame) (o : Option Local) → fin.get frame name ≡ o → seen_through o (fin.get globals name) ≡ Some c → with_content (by (Some frame)) name c ≡ by (Some frame)
  same_in frame None at found = absurd cc
  same_in frame (Some (Own d)) at found =
      let same : d ≡ c = cc in
      ap (λ (o : Option Local). if is_link o then record (by (Some frame)) { globals = fin.insert globals name c } else by (Some (fin.insert frame name (Own c)))) at
      ∙ ap (λ f. by (Some f)) (put_same frame name (Own c) (at ∙ ap (λ x. Some (Own x)) same))
  same_in frame (Some Link) at found =
      ap (λ (o : Option Local). if is_link o then record (by (Some frame)) { globals = fin.insert globals name c } else by (Some (fin.insert frame name (Own c)))) at
      ∙ ap (λ m. record (by (Some frame)) { globals = m }) (put_same globals name c found)

same_by : (globals : Map Content) (locals : List (Option Frame)) (procedures : Map Procedure) (name : List ℕ) (c : Content)
    → content_of (record { globals = globals; locals = locals; procedures = procedures }) name ≡ Some c
    → with_content (record { globals = globals; locals = locals; procedures = procedures }) name c ≡ record { globals = globals; locals = locals; procedures = procedures }
same_by globals [] procedures name c found = ap (λ m. record { globals = m; locals = []; procedures = procedures }) (put_same globals name c found)
same_by globals (None ∷ below) procedures name c found = ap (λ m. record { globals = m; locals = None ∷ below; procedures = procedures }) (put_same globals name c found)
same_by globals (Some frame ∷ below) procedures name c found = same_in globals below procedures name c frame (fin.get frame name) refl found

content_same : (v : Variables) (name : List ℕ) (c : Content) → content_of v name ≡ Some c → with_content v name c ≡ v
content_same v name c found = same_by v.globals v.locals v.procedures name c found

-- ---- what stands under a name

-- a change of a variable of a procedure's own
module _ {A : Type 0} (gives : Content → Content → A → Type 0) (name : List ℕ) (old new : Frame) where
  module _ (frames frames' : List (Option Frame)) (present : innermost frames ≡ Some old) where
    own_by : (answer : A) (before put : Local) → ((change : Frame → Frame) → new ≡ change old → frames' ≡ variables.changed change frames)
        → fin.get old name ≡ Some before → ChangesOwn gives before put (Some answer) → new ≡ fin.insert old name put → IsChangedHere gives name frames frames' answer
    own_by answer (Own before) (Own put) puts found given now =
        record { frame = old; before = before; after = put; present = present; found = found; given = given; now = puts (λ frame. fin.insert frame name (Own put)) now }
    own_by answer (Own before) Link puts found given now = absurd given
    own_by answer Link (Own put) puts found given now = absurd given
    own_by answer Link Link puts found given now = absurd given

    reached_own : (answer : A) → ((change : Frame → Frame) → new ≡ change old → frames' ≡ variables.changed change frames)
        → IsChangedIn (ChangesOwn gives) name old new (Some answer) → ReachesSo gives name frames frames' (reached.Changed answer)
    reached_own answer puts c = own_by answer c.before c.after puts c.found c.given c.now

    link_by : (before put : Local) → fin.get old name ≡ Some before → ChangesOwn gives before put None → new ≡ fin.insert old name put → (is_link (fin.get old name) ≡ true) × (new ≡ old)
    link_by Link Link found given now = (ap is_link found, now ∙ put_same old name Link found)
    link_by Link (Own put) found given now = absurd given
    link_by (Own before) (Own put) found given now = absurd given
    link_by (Own before) Link found given now = absurd given

    reached_global : (new ≡ old → frames' ≡ frames) → IsChangedIn (ChangesOwn gives) name old new None → ReachesSo gives name frames frames' reached.Global
    reached_global is c =
        let by = link_by c.before c.after c.found c.given c.now in
        (ap (λ f. is_global f name) present ∙ by.0, is by.1)

    reached_nowhere : (new ≡ old → frames' ≡ frames) → (new ≡ old) × (fin.get old name ≡ None) → ReachesSo gives name frames frames' reached.Nowhere
    reached_nowhere is c = (record { frame = old; present = present; missing = c.1 }, is c.0)

  -- the same of the last of these frames, in which what was changed was put
  module _ (frames : List (Option Frame)) (there : Option Frame) (some : 0 < length frames) (found : get_or frames (length frames - 1) there ≡ Some old) (o : Option (Option A)) where
    abbrev Leads : Reached A → Type 0
    Leads r = ReachesSo gives name (reverse frames) (reverse (slice_set frames (length frames - 1) (Some new))) r

    pub last_own : (answer : A) → o ≡ Some (Some answer) → IfSome o (IsChangedIn (ChangesOwn gives) name old new) → Leads (reached.Changed answer)
    last_own answer is changed =
        reached_own (reverse frames) _ (last_present frames there old new some found) answer (last_changed frames there old new some found)
        (told (IsChangedIn (ChangesOwn gives) name old new) o (Some answer) is changed)

    pub last_global : o ≡ Some None → IfSome o (IsChangedIn (ChangesOwn gives) name old new) → Leads reached.Global
    last_global is changed =
        reached_global (reverse frames) _ (last_present frames there old new some found) (λ same. ap reverse (last_kept frames there old new some found same))
        (told (IsChangedIn (ChangesOwn gives) name old new) o None is changed)

    pub last_nowhere : (new ≡ old) × (fin.get old name ≡ None) → Leads reached.Nowhere
    last_nowhere missing =
        reached_nowhere (reverse frames) _ (last_present frames there old new some found) (λ same. ap reverse (last_kept frames there old new some found same)) missing

-- the name of a variable that isn't there
module _ (v : Variables) (text : List ℕ) (n : Name) (is : named text ≡ Some n) where
  value_by : value_of v text ≡ about text (value_in (content_of v n.variable) n.index)
  value_by = ap (λ (o : Option Name). about text (on_name o (λ name. value_in (content_of v name.variable) name.index))) is

  given_by : (value : List ℕ) → with_value v text value ≡ about text (after (updated (content_of v n.variable) n.index value) (with_content v n.variable))
  given_by value = ap (λ (o : Option Name). about text (on_name o (λ name. after (updated (content_of v name.variable) name.index value) (with_content v name.variable)))) is

  grown_by : grown_by_value v text ≡ grown (content_of v n.variable) n.index (size_in v.globals (innermost v.locals) n.variable)
  grown_by = ap (option_and_then (λ (name : Name). grown (content_of v name.variable) name.index (size_in v.globals (innermost v.locals) name.variable))) is

  -- what stands under it is a value, an array with the element, or of the wrong kind
  grows_nothing : (c : Content) (index : Option (List ℕ)) (size : ℕ) → (value_in (Some c) index ≡ Err NoSuchVariable → ⊥) → grown (Some c) index size ≡ None
  grows_nothing (Scalar value) None size there = refl
  grows_nothing (Scalar value) (Some index) size there = refl
  grows_nothing (Array elements) None size there = refl
  grows_nothing (Array elements) (Some index) size there = by (fin.get elements index) refl
    where
      by : (o : Option (List ℕ)) → fin.get elements index ≡ o → grown_inside (Array elements) (Some index) ≡ None
      by None at = absurd (there (ap element_of at))
      by (Some value) at = ap (λ (o : Option (List ℕ)). if is_some o then None else Some (fin.len elements)) at

  not_both : (r : Result (List ℕ) ErrorNumber) (value : List ℕ) → r ≡ Ok value → r ≡ Err NoSuchVariable → ⊥
  not_both (Ok x) value e missing = absurd cc
  not_both (Err number) value e missing = absurd cc

  not_wrong : (r : Result (List ℕ) ErrorNumber) → r ≡ Err WrongKindOfVariable → r ≡ Err NoSuchVariable → ⊥
  not_wrong (Ok x) e missing = absurd cc
  not_wrong (Err number) e missing = absurd cc

  module _ {A : Type 0} (gives : List ℕ → List ℕ → A → Type 0) (w : Variables) where
    left : (c c' : Content) → content_of v n.variable ≡ Some c → w ≡ with_content v n.variable c' → c' ≡ c → w ≡ v
    left c c' found now same = now ∙ ap (with_content v n.variable) same ∙ content_same v n.variable c found

    wrong_kind : (c : Content) (index : Option (List ℕ)) (value : List ℕ) → value_in (Some c) index ≡ Err WrongKindOfVariable → updated (Some c) index value ≡ Err WrongKindOfVariable
    wrong_kind (Scalar old) None value e = absurd cc
    wrong_kind (Scalar old) (Some index) value e = refl
    wrong_kind (Array elements) None value e = refl
    wrong_kind (Array elements) (Some index) value e = absurd (element (fin.get elements index) e)
      where
        element : (o : Option (List ℕ)) → element_of o ≡ Err WrongKindOfVariable → ⊥
        element None e = absurd cc
        element (Some value) e = absurd cc

    refused : (c c' : Content) (fault : ScriptFault) → content_of v n.variable ≡ Some c → w ≡ with_content v n.variable c' → fault ≡ fault_about WrongKindOfVariable text
        → value_in (Some c) n.index ≡ Err WrongKindOfVariable → c' ≡ c → IsRefused text v w fault
    refused c c' fault found now is wrong same =
        record {
          why = inr is;
          found = value_by ∙ ap (λ (o : Option Content). about text (value_in o n.index)) found ∙ ap (about text) wrong ∙ ap Err (sym is);
          given = λ value.
              given_by value ∙ ap (λ (o : Option Content). about text (after (updated o n.index value) (with_content v n.variable))) found
              ∙ ap (λ r. about text (after r (with_content v n.variable))) (wrong_kind c n.index value wrong) ∙ ap Err (sym is);
          grows = grown_by ∙ ap (λ (o : Option Content). grown o n.index (size_in v.globals (innermost v.locals) n.variable)) found ∙ grows_nothing c n.index (size_in v.globals (innermost v.locals) n.variable) (λ missing. not_wrong (value_in (Some c) n.index) wrong missing);
          same = left c c' found now same;
        }

    value_changed : (c c' : Content) (answer : A) → content_of v n.variable ≡ Some c → w ≡ with_content v n.variable c' → IsChangedInside gives n.index c c' answer → IsChanged gives text v w answer
    value_changed c c' answer found now h =
        let updates : (after' : List ℕ) (r : Result Content ErrorNumber) → updated (Some c) n.index after' ≡ r → with_value v text after' ≡ about text (after r (with_content v n.variable)) =
        λ after' r e. given_by after' ∙ ap (λ (o : Option Content). about text (after (updated o n.index after') (with_content v n.variable))) found ∙ ap (λ r. about text (after r (with_content v n.variable))) e in
        record {
          before = h.before;
          after = h.after;
          found = value_by ∙ ap (λ (o : Option Content). about text (value_in o n.index)) found ∙ ap (about text) h.found;
          given = h.given;
          now = updates h.after (Ok c') h.now ∙ ap Ok (sym now);
          grows = grown_by ∙ ap (λ (o : Option Content). grown o n.index (size_in v.globals (innermost v.locals) n.variable)) found ∙ grows_nothing c n.index (size_in v.globals (innermost v.locals) n.variable) (λ missing. not_both (value_in (Some c) n.index) h.before h.found missing);
          same = λ e.
              let content : Ok c' ≡ Ok c = sym h.now ∙ ap (updated (Some c) n.index) e ∙ value_same c n.index h.before h.found in
              let kept : c' ≡ c = cc in
              now ∙ ap (with_content v n.variable) kept ∙ content_same v n.variable c found;
        }

    -- a change of what stands under the name of the variable, by whatever its answer is
    pub under : (answer : Result (Option A) Failure) → IsChangedUnder (ChangesInside gives text n.index) n.variable v w answer → ChangesSo gives text v w answer
    under (Ok (Some answer)) h = value_changed h.before h.after answer h.found h.now h.given
    under (Ok None) h =
        (value_by ∙ ap (λ (o : Option Content). about text (value_in o n.index)) h.found ∙ ap (about text) h.given.0, left h.before h.after h.found h.now h.given.1)
    under (Err (failure.Script fault)) h = refused h.before h.after fault h.found h.now h.given.0 h.given.1 h.given.2
    under (Err failure.NoMemory) h = left h.before h.after h.found h.now h.given

-- ---- values that are given

-- where an error is told, nothing has changed
module _ (text : List ℕ) (given : Content → Result Content ErrorNumber) (name : List ℕ) where
  pub global_kept : (old new : Map Content) (answer : Result (Unit {0}) Failure) → IsChangedIn (λ before. GivenSo text (given before) before) name old new answer → OnErr answer (new ≡ old)
  global_kept old new (Ok done) c = tt
  global_kept old new (Err why) c = stays old new name c.before c.after c.found c.given.err c.now

  pub all_kept : (v w : Variables) (answer : Result (Unit {0}) Failure) → IsChangedUnder (λ before. GivenSo text (given before) before) name v w answer → OnErr answer (w ≡ v)
  all_kept v w (Ok done) c = tt
  all_kept v w (Err why) c = c.now ∙ ap (with_content v name) c.given.err ∙ content_same v name c.before c.found
