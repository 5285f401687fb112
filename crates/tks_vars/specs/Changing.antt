-- Values that are changed where they stand.
use Rattle.std.specs.Prelude.{◌≡◌, ◌⊎◌, ℕ, true, false, List, Option, Some, None, Result, Ok, Err, IfSome, OnErr}
use Rattle.std.specs.FinMap as map
use Rattle.tks_text.specs.declared.fault.ErrorNumber.{ErrorNumber}
use Rattle.tks_text.specs.declared.fault.ErrorNumber.TheVariants.{NoSuchVariable, WrongKindOfVariable, BadName}
use Rattle.tks_text.specs.declared.fault.Failure.{Failure}
use Rattle.tks_text.specs.declared.fault.Failure.TheVariants as failure
use Rattle.tks_text.specs.declared.fault.ScriptFault.{ScriptFault}
use Rattle.tks_text.specs.Fault.{Gives, fault_about}
use Rattle.tks_list.specs.Reading.{list_of}
use Rattle.tks_vars.specs.Variables.{Variables, Frame, about, value_in, updated, innermost, is_global, changed, content_of, with_content, value_of, with_value, grown_by_value}
use Rattle.tks_vars.specs.declared.content.Content.{Content}
use Rattle.tks_vars.specs.declared.content.Local.{Local}
use Rattle.tks_vars.specs.declared.content.Local.TheVariants.{Own, Link}
use Rattle.tks_vars.specs.declared.changing.Reached.{Reached}
use Rattle.tks_vars.specs.declared.changing.Reached.TheVariants as reached

-- ---- the value of a variable or an element

-- nothing could be changed: the name is none, or that of a whole array or of an element of a scalar, which can't be given a
-- value either
pub record IsRefused (name : List ℕ) (old new : Variables) (fault : ScriptFault) : Type 0 where
  pub why : (fault ≡ fault_about BadName name) ⊎ (fault ≡ fault_about WrongKindOfVariable name)
  pub found : value_of old name ≡ Err fault
  pub given : (value : List ℕ) → with_value old name value ≡ Err fault
  pub grows : grown_by_value old name ≡ None
  pub same : new ≡ old

module _ {A : Type 0} (gives : List ℕ → List ℕ → A → Type 0) where
  -- the value was changed, the change gave this answer, and nothing else is new; no list grows by it
  pub record IsChanged (name : List ℕ) (old new : Variables) (answer : A) : Type 0 where
    pub before : List ℕ
    pub after : List ℕ
    pub found : value_of old name ≡ Ok before
    pub given : gives before after answer
    pub now : with_value old name after ≡ Ok new
    pub grows : grown_by_value old name ≡ None
    pub same : after ≡ before → new ≡ old

  -- a change is made where there is a value, and told as none where there is no such variable or element
  abbrev pub ChangesSo : List ℕ → Variables → Variables → Result (Option A) Failure → Type 0
  ChangesSo name old new (Ok (Some answer)) = IsChanged name old new answer
  ChangesSo name old new (Ok None) = (value_of old name ≡ Err (fault_about NoSuchVariable name)) × (new ≡ old)
  ChangesSo name old new (Err (failure.Script fault)) = IsRefused name old new fault
  ChangesSo name old new (Err failure.NoMemory) = new ≡ old

  -- ---- the same of what stands under one name

  pub record IsChangedInside (index : Option (List ℕ)) (old new : Content) (answer : A) : Type 0 where
    pub before : List ℕ
    pub after : List ℕ
    pub found : value_in (Some old) index ≡ Ok before
    pub given : gives before after answer
    pub now : updated (Some old) index after ≡ Ok new

  abbrev pub ChangesInside : List ℕ → Option (List ℕ) → Content → Content → Result (Option A) Failure → Type 0
  ChangesInside name index old new (Ok (Some answer)) = IsChangedInside index old new answer
  ChangesInside name index old new (Ok None) = (value_in (Some old) index ≡ Err NoSuchVariable) × (new ≡ old)
  ChangesInside name index old new (Err (failure.Script fault)) =
      (fault ≡ fault_about WrongKindOfVariable name) × (value_in (Some old) index ≡ Err WrongKindOfVariable) × (new ≡ old)
  ChangesInside name index old new (Err failure.NoMemory) = new ≡ old

-- ---- what stands under the name of a variable

-- there is a frame of a procedure, in which nothing stands under the name
pub record IsNowhere (name : List ℕ) (frames : List (Option Frame)) : Type 0 where
  pub frame : Frame
  pub present : innermost frames ≡ Some frame
  pub missing : map.get frame name ≡ None

module _ {A : Type 0} (gives : Content → Content → A → Type 0) where
  -- a variable of a procedure's own is changed, and a link is left
  abbrev pub ChangesOwn : Local → Local → Option A → Type 0
  ChangesOwn (Own old) (Own new) (Some answer) = gives old new answer
  ChangesOwn Link Link None = Unit {0}
  ChangesOwn old new answer = ⊥

  -- what stands under the name was changed, the change gave this answer, and nothing else is new
  pub record IsChangedUnder (name : List ℕ) (old new : Variables) (answer : A) : Type 0 where
    pub before : Content
    pub after : Content
    pub found : content_of old name ≡ Some before
    pub given : gives before after answer
    pub now : new ≡ with_content old name after

  -- the same of the present frame, where the name isn't that of a global
  pub record IsChangedHere (name : List ℕ) (old new : List (Option Frame)) (answer : A) : Type 0 where
    pub frame : Frame
    pub before : Content
    pub after : Content
    pub present : innermost old ≡ Some frame
    pub found : map.get frame name ≡ Some (Own before)
    pub given : gives before after answer
    pub now : new ≡ changed (λ frame. map.insert frame name (Own after)) old

  -- where a name of the present frame led
  abbrev pub ReachesSo : List ℕ → List (Option Frame) → List (Option Frame) → Reached A → Type 0
  ReachesSo name old new (reached.Changed answer) = IsChangedHere name old new answer
  ReachesSo name old new reached.Nowhere = IsNowhere name old × (new ≡ old)
  ReachesSo name old new reached.Global = (is_global (innermost old) name ≡ true) × (new ≡ old)

  -- the same, where the globals were looked through too
  abbrev pub LeadsSo : List ℕ → Variables → Variables → Reached A → Type 0
  LeadsSo name old new (reached.Changed answer) = IsChangedUnder name old new answer
  LeadsSo name old new reached.Nowhere = (content_of old name ≡ None) × (is_global (innermost old.locals) name ≡ false) × (new ≡ old)
  LeadsSo name old new reached.Global = (content_of old name ≡ None) × (is_global (innermost old.locals) name ≡ true) × (new ≡ old)

-- ---- a value that is given

-- what stood under the name became what is given, or an error tells the name and nothing has changed
pub record GivenSo (name : List ℕ) (given : Result Content ErrorNumber) (before after : Content) (answer : Result (Unit {0}) Failure) : Type 0 where
  pub value : Gives (λ _. after) answer (about name given)
  pub err : OnErr answer (after ≡ before)

-- ---- a list that is kept

-- the value stays, and the list that is told is the one that it splits into
abbrev pub KeepsSo : List ℕ → List ℕ → Option (List (List ℕ)) → Type 0
KeepsSo before after list = (after ≡ before) × IfSome list (λ l. list_of before ≡ Some l)
