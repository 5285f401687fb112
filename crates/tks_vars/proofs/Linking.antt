-- A name that was made a link is the global of that name.
use Rattle.std.proofs.Common.{◌≡◌, ℕ, true, if◌then◌else◌, List, [], ◌∷◌, Option, Some, None, Result, Ok, Err, refl, sym, ap, ◌∙◌}
use Rattle.std.specs.FinMap as fin
use Rattle.tks_text.specs.declared.fault.ErrorNumber.{ErrorNumber}
use Rattle.tks_text.specs.declared.fault.ScriptFault.{ScriptFault}
use Rattle.tks_vars.specs.Table.{Map}
use Rattle.tks_vars.specs.Names.{Name, named}
use Rattle.tks_vars.specs.Variables.{Variables, Frame, about, after, on_name, value_in, updated, content_of, content_in, with_content, is_global, is_link, innermost, seen_through, link_at, link_by, with_global_link, changed, pushed_global, back}
use Rattle.tks_vars.specs.Laws.{LinkReads, LinkWrites}
use Rattle.tks_vars.specs.declared.content.Content.{Content}
use Rattle.tks_vars.specs.declared.content.Local.{Local}
use Rattle.tks_vars.specs.declared.content.Local.TheVariants.{Own, Link}
use Rattle.tks_vars.specs.declared.procedure.Procedure.{Procedure}
use Rattle.tks_vars.proofs.Keeping.{put_here}

-- ---- a name is a global's once it was made a link

module _ (globals : Map Content) (below : List (Option Frame)) (procedures : Map Procedure) (new : Variables) (text : List ℕ) where
  abbrev with_frame : Frame → Variables
  with_frame frame = record { globals = globals; locals = Some frame ∷ below; procedures = procedures }

  by_local : (frame : Frame) (variable : List ℕ) (o : Option Local) → fin.get frame variable ≡ o → about text (after (link_at frame variable o) with_frame) ≡ Ok new
      → is_global (innermost new.locals) variable ≡ true
  by_local frame variable None is e =
      let made : new ≡ with_frame (fin.insert frame variable Link) = cc in
      ap (λ (v : Variables). is_global (innermost v.locals) variable) made ∙ ap is_link (put_here frame variable Link)
  by_local frame variable (Some Link) is e =
      let made : new ≡ with_frame frame = cc in
      ap (λ (v : Variables). is_global (innermost v.locals) variable) made ∙ ap is_link is
  by_local frame variable (Some (Own c)) is e = absurd cc

  by_index : (frame : Frame) (variable : List ℕ) (index : Option (List ℕ)) → about text (after (link_by frame variable index) with_frame) ≡ Ok new → is_global (innermost new.locals) variable ≡ true
  by_index frame variable None e = by_local frame variable (fin.get frame variable) refl e
  by_index frame variable (Some i) e = absurd cc

  by_name : (frame : Frame) (n : Name) → named text ≡ Some n → with_global_link (with_frame frame) text ≡ Ok new → is_global (innermost new.locals) n.variable ≡ true
  by_name frame n is e =
      by_index frame n.variable n.index
      (ap (λ (o : Option Name). about text (after (on_name o (λ name. link_by frame name.variable name.index)) with_frame)) (sym is) ∙ e)

-- where the globals are the present frame nothing was done
same_now : (v new : Variables) (variable : List ℕ) → is_global (innermost v.locals) variable ≡ true → ◌≡◌ {A = Result Variables ScriptFault} (Ok v) (Ok new) → is_global (innermost new.locals) variable ≡ true
same_now v new variable top e =
    let same : new ≡ v = cc in
    ap (λ (w : Variables). is_global (innermost w.locals) variable) same ∙ top

global_now : (globals : Map Content) (locals : List (Option Frame)) (procedures : Map Procedure) (new : Variables) (text : List ℕ) (n : Name) → named text ≡ Some n
    → with_global_link (record { globals = globals; locals = locals; procedures = procedures }) text ≡ Ok new → is_global (innermost new.locals) n.variable ≡ true
global_now globals [] procedures new text n is e = same_now (record { globals = globals; locals = []; procedures = procedures }) new n.variable refl e
global_now globals (None ∷ below) procedures new text n is e = same_now (record { globals = globals; locals = None ∷ below; procedures = procedures }) new n.variable refl e
global_now globals (Some frame ∷ below) procedures new text n is e = by_name globals below procedures new text frame n is e

-- ---- and then reads and writes it

read_global : (globals : Map Content) (frame : Option Frame) (variable : List ℕ) → is_global frame variable ≡ true → content_in globals frame variable ≡ fin.get globals variable
read_global globals None variable e = refl
read_global globals (Some frame) variable e = through (fin.get frame variable) e
  where
    through : (o : Option Local) → is_link o ≡ true → seen_through o (fin.get globals variable) ≡ fin.get globals variable
    through None e = absurd cc
    through (Some (Own c)) e = absurd cc
    through (Some Link) e = refl

module _ (new : Variables) (text : List ℕ) where
  reads_by : (n : Option Name) → ((name : Name) → n ≡ Some name → is_global (innermost new.locals) name.variable ≡ true)
      → about text (on_name n (λ name. value_in (content_of new name.variable) name.index)) ≡ about text (on_name n (λ name. value_in (content_of (pushed_global new) name.variable) name.index))
  reads_by None global = refl
  reads_by (Some n) global = ap (λ (o : Option Content). about text (value_in o n.index)) (read_global new.globals (innermost new.locals) n.variable (global n refl))

  puts_global : (variable : List ℕ) (c : Content) → is_global (innermost new.locals) variable ≡ true → with_content new variable c ≡ record new { globals = fin.insert new.globals variable c }
  puts_global variable c global = ap (λ b. if b then record new { globals = fin.insert new.globals variable c } else record new { locals = changed (λ frame. fin.insert frame variable (Own c)) new.locals }) global

  ends_by : (variable : List ℕ) (r : Result Content ErrorNumber) → is_global (innermost new.locals) variable ≡ true
      → about text (after r (with_content new variable)) ≡ back (about text (after r (with_content (pushed_global new) variable)))
  ends_by variable (Ok c) global = ap Ok (puts_global variable c global)
  ends_by variable (Err number) global = refl

  writes_by : (value : List ℕ) (n : Option Name) → ((name : Name) → n ≡ Some name → is_global (innermost new.locals) name.variable ≡ true)
      → about text (on_name n (λ name. after (updated (content_of new name.variable) name.index value) (with_content new name.variable)))
      ≡ back (about text (on_name n (λ name. after (updated (content_of (pushed_global new) name.variable) name.index value) (with_content (pushed_global new) name.variable))))
  writes_by value None global = refl
  writes_by value (Some n) global =
      ap (λ (o : Option Content). about text (after (updated o n.index value) (with_content new n.variable))) (read_global new.globals (innermost new.locals) n.variable (global n refl))
      ∙ ends_by n.variable (updated (fin.get new.globals n.variable) n.index value) (global n refl)

pub link_reads : (v new : Variables) (name : List ℕ) → LinkReads v name new
link_reads v new name e = reads_by new name (named name) (λ n is. global_now v.globals v.locals v.procedures new name n is e)

pub link_writes : (v new : Variables) (name : List ℕ) → LinkWrites v name new
link_writes v new name value e = writes_by new name value (named name) (λ n is. global_now v.globals v.locals v.procedures new name n is e)
