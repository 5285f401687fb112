-- What labels, buttons and checkbuttons say stays within limits where they are told texts that are.
use Rattle.std.proofs.Common.{ℕ, Bool, false, List, Option, Some, None, option_map, IfSome, IfOk}
use Rattle.tks_text.specs.declared.class.Class.{Class}
use Rattle.tks_text.specs.declared.class.Class.TheVariants as class
use Rattle.tks_text.specs.declared.limits.Limits.{Limits}
use Rattle.tks_opt.specs.Options.{Options}
use Rattle.tks_opt.specs.declared.name.OptionName.TheVariants as name
use Rattle.tks_button.specs.Action.{action_of}
use Rattle.tks_button.specs.Button as button
use Rattle.tks_button.specs.Caption.{called_as, called, assignment, assigned_as, assigned, first_assigned_as, first_assigned, is_on}
use Rattle.tks_button.specs.Checkbutton as checkbutton
use Rattle.tks_button.specs.declared.action.Action.{Action}
use Rattle.tks_button.specs.declared.action.Action.TheVariants as action
use Rattle.tks_button.specs.declared.caption.Assignment.{Assignment}
use Rattle.tks_keeping.proofs.Texts.{TextFits, TextsFit}
use Rattle.tks_keeping.proofs.Options as options
use Rattle.tks_keeping.proofs.Options.{OptionsFit, CalledFits, switch_asked, said_by_fits}

module _ (limits : Limits) (all : Bool) where
  -- ---- commands

  button_fits : (t : Options) (words : List (List ℕ)) (o : Option Action) → TextsFit limits words → OptionsFit limits all t
      → IfOk (button.answered t words o) (CalledFits limits all)
  button_fits t words None w h = options.called_fits limits all t words w h
  button_fits t words (Some action.Invoke) w h = h
  button_fits t words (Some action.Select) w h = options.called_fits limits all t words w h
  button_fits t words (Some action.Deselect) w h = options.called_fits limits all t words w h
  button_fits t words (Some action.Toggle) w h = options.called_fits limits all t words w h

  checkbutton_fits : (t : Options) (words : List (List ℕ)) (o : Option Action) → TextsFit limits words → OptionsFit limits all t
      → IfOk (checkbutton.answered t words o) (CalledFits limits all)
  checkbutton_fits t words None w h = options.called_fits limits all t words w h
  checkbutton_fits t words (Some action.Invoke) w h = h
  checkbutton_fits t words (Some action.Select) w h = h
  checkbutton_fits t words (Some action.Deselect) w h = h
  checkbutton_fits t words (Some action.Toggle) w h = h

  by_class : (c : Class) (t : Options) (words : List (List ℕ)) → TextsFit limits words → OptionsFit limits all t → IfOk (called_as c t words) (CalledFits limits all)
  by_class class.Root t words w h = options.called_fits limits all t words w h
  by_class class.Frame t words w h = options.called_fits limits all t words w h
  by_class class.Label t words w h = options.called_fits limits all t words w h
  by_class class.Button t words w h = button_fits t words (action_of words) w h
  by_class class.Checkbutton t words w h = checkbutton_fits t words (action_of words) w h
  by_class class.Entry t words w h = options.called_fits limits all t words w h
  by_class class.Listbox t words w h = options.called_fits limits all t words w h
  by_class class.Text t words w h = options.called_fits limits all t words w h

  -- a whole command, with words that fit
  pub called_fits : (t : Options) (words : List (List ℕ)) → TextsFit limits words → OptionsFit limits all t → IfOk (called t words) (CalledFits limits all)
  called_fits t words w h = by_class t.class t words w h

  -- ---- a checkbutton's variable

  -- the name of the variable that is given a value fits
  abbrev pub VariableFits : Assignment → Type 0
  VariableFits a = TextFits limits a.variable

  variable_fits : (t : Options) (on : Bool) → OptionsFit limits all t → VariableFits (assignment t on)
  variable_fits t on h = said_by_fits limits all t name.Variable (switch_asked all) h

  turned_fits : (t : Options) (o : Option Bool) → OptionsFit limits all t → IfSome (option_map (assignment t) o) VariableFits
  turned_fits t None h = tt
  turned_fits t (Some on) h = variable_fits t on h

  assigned_by_class : (c : Class) (t : Options) (words : List (List ℕ)) (value : Option (List ℕ)) → OptionsFit limits all t → IfSome (assigned_as c t words value) VariableFits
  assigned_by_class class.Root t words value h = tt
  assigned_by_class class.Frame t words value h = tt
  assigned_by_class class.Label t words value h = tt
  assigned_by_class class.Button t words value h = tt
  assigned_by_class class.Checkbutton t words value h = turned_fits t (checkbutton.turned t words (is_on t value)) h
  assigned_by_class class.Entry t words value h = tt
  assigned_by_class class.Listbox t words value h = tt
  assigned_by_class class.Text t words value h = tt

  -- what the words of a command give it
  pub assigned_fits : (t : Options) (words : List (List ℕ)) (value : Option (List ℕ)) → OptionsFit limits all t → IfSome (assigned t words value) VariableFits
  assigned_fits t words value h = assigned_by_class t.class t words value h

  first_by_class : (c : Class) (t : Options) → OptionsFit limits all t → IfSome (first_assigned_as c t) VariableFits
  first_by_class class.Root t h = tt
  first_by_class class.Frame t h = tt
  first_by_class class.Label t h = tt
  first_by_class class.Button t h = tt
  first_by_class class.Checkbutton t h = variable_fits t false h
  first_by_class class.Entry t h = tt
  first_by_class class.Listbox t h = tt
  first_by_class class.Text t h = tt

  -- what a widget that is made gives it
  pub first_assigned_fits : (t : Options) → OptionsFit limits all t → IfSome (first_assigned t) VariableFits
  first_assigned_fits t h = first_by_class t.class t h
