-- Changes of variables leave the frames below the innermost.
use Rattle.std.proofs.Common.{◌≡◌, ℕ, Bool, true, false, if◌then◌else◌, List, [], ◌∷◌, length, drop, Option, Some, None, Result, Ok, Err, IfOk, refl, ap, ◌∙◌}
use Rattle.std.specs.FinMap as fin
use Rattle.tks_text.specs.declared.fault.ErrorNumber.{ErrorNumber}
use Rattle.tks_text.specs.declared.fault.ScriptFault.{ScriptFault}
use Rattle.tks_vars.specs.Names.{Name, named}
use Rattle.tks_vars.specs.Variables.{Variables, Frame, about, after, on_name, updated, taken, content_of, innermost, is_global, changed, with_content, without_content, left_with, with_value, with_global_value, without, with_link, with_link_in, with_global_link, back, popped, pushed_global, with_procedure}
use Rattle.tks_vars.specs.Laws.{FramesStay}
use Rattle.tks_vars.specs.declared.content.Content.{Content}
use Rattle.tks_vars.specs.declared.content.Local.TheVariants.{Own}
use Rattle.tks_vars.specs.declared.procedure.Procedure.{Procedure}

pub itself : (v : Variables) → FramesStay v v
itself v = record { below = refl; count = refl }

pub both : {u v w : Variables} → FramesStay u v → FramesStay v w → FramesStay u w
both first second = record { below = second.below ∙ first.below; count = second.count ∙ first.count }

-- a frame that was begun ends
pub popped_stays : (frame : Option Frame) (v w : Variables) → FramesStay (record v { locals = frame ∷ v.locals }) w → FramesStay v (popped w)
popped_stays frame v w h = record { below = ap (drop 1) h.below; count = ap length h.below }

-- ---- one change

as_below : (change : Frame → Frame) (frames : List (Option Frame)) → drop 1 (changed change frames) ≡ drop 1 frames
as_below change [] = refl
as_below change (frame ∷ below) = refl

as_many : (change : Frame → Frame) (frames : List (Option Frame)) → length (changed change frames) ≡ length frames
as_many change [] = refl
as_many change (frame ∷ below) = refl

one_of : (v a b : Variables) (holds : Bool) → FramesStay v a → FramesStay v b → FramesStay v (if holds then a else b)
one_of v a b true h k = h
one_of v a b false h k = k

innermost_stays : (v : Variables) (change : Frame → Frame) → FramesStay v (record v { locals = changed change v.locals })
innermost_stays v change = record { below = as_below change v.locals; count = as_many change v.locals }

put_stays : (v : Variables) (name : List ℕ) (c : Content) → FramesStay v (with_content v name c)
put_stays v name c = one_of v _ _ (is_global (innermost v.locals) name) (record { below = refl; count = refl }) (innermost_stays v (λ frame. fin.insert frame name (Own c)))

taken_stays : (v : Variables) (name : List ℕ) → FramesStay v (without_content v name)
taken_stays v name = one_of v _ _ (is_global (innermost v.locals) name) (record { below = refl; count = refl }) (innermost_stays v (λ frame. fin.remove frame name))

left_stays : (v : Variables) (name : List ℕ) (o : Option Content) → FramesStay v (left_with v name o)
left_stays v name None = taken_stays v name
left_stays v name (Some c) = put_stays v name c

-- ---- the calls

module _ (v : Variables) where
  after_stays : {X : Type 0} (r : Result X ErrorNumber) (next : X → Variables) → ((x : X) → FramesStay v (next x)) → IfOk (after r next) (FramesStay v)
  after_stays (Ok x) next h = h x
  after_stays (Err number) next h = tt

  name_stays : (o : Option Name) (next : Name → Result Variables ErrorNumber) → ((n : Name) → IfOk (next n) (FramesStay v)) → IfOk (on_name o next) (FramesStay v)
  name_stays None next h = tt
  name_stays (Some n) next h = h n

  told_stays : (text : List ℕ) (r : Result Variables ErrorNumber) → IfOk r (FramesStay v) → IfOk (about text r) (FramesStay v)
  told_stays text (Ok w) h = h
  told_stays text (Err number) h = tt

  pub given_stays : (name value : List ℕ) → IfOk (with_value v name value) (FramesStay v)
  given_stays name value =
      told_stays name _ (name_stays (named name) _ (λ n. after_stays (updated (content_of v n.variable) n.index value) _ (put_stays v n.variable)))

  pub without_stays : (name : List ℕ) → IfOk (without v name) (FramesStay v)
  without_stays name = told_stays name _ (name_stays (named name) _ (λ n. after_stays (taken (content_of v n.variable) n.index) _ (left_stays v n.variable)))

  with_link_by : (frame : Option Frame) (name : List ℕ) → IfOk (with_link_in v frame name) (FramesStay v)
  with_link_by None name = itself v
  with_link_by (Some frame) name = after_stays (with_link frame name) _ (λ linked. innermost_stays v (λ _. linked))

  pub link_stays : (name : List ℕ) → IfOk (with_global_link v name) (FramesStay v)
  link_stays name = told_stays name _ (with_link_by (innermost v.locals) name)

  back_stays : (r : Result Variables ScriptFault) → IfOk r (FramesStay (pushed_global v)) → IfOk (back r) (FramesStay v)
  back_stays (Ok w) h = popped_stays None v w h
  back_stays (Err fault) h = tt

pub global_given_stays : (v : Variables) (name value : List ℕ) → IfOk (with_global_value v name value) (FramesStay v)
global_given_stays v name value = back_stays v (with_value (pushed_global v) name value) (given_stays (pushed_global v) name value)

pub defined_stays : (v : Variables) (name : List ℕ) (procedure : Procedure) → FramesStay v (with_procedure v name procedure)
defined_stays v name procedure = record { below = refl; count = refl }
