-- The faults of the form of scripts and expressions, and how those outside brackets are told.
use Rattle.std.specs.Prelude.{None}
use Rattle.tks_text.specs.declared.fault.ErrorNumber.{ErrorNumber}
use Rattle.tks_text.specs.declared.fault.ErrorNumber.TheVariants.{MissingCloseBrace, MissingCloseQuote, MissingCloseBracket, TextAfterCloseQuote, TextAfterCloseBrace, BadEscape, TooDeeplyNested, MissingCloseOfVariable, ExpressionSyntax}
use Rattle.tks_text.specs.declared.fault.ScriptFault.{ScriptFault}
use Rattle.tks_parse.specs.declared.mode.Mode.{Mode}
use Rattle.tks_parse.specs.declared.mode.Mode.TheVariants.{Bare, Quoted, Index}
use Rattle.tks_parse.specs.declared.syntax.Syntax.{Syntax}
use Rattle.tks_parse.specs.declared.syntax.Syntax.TheVariants.{Scripts, Expressions}

abbrev pub fault_of : ErrorNumber → ScriptFault
fault_of number = record { number = number; subject = None }

abbrev pub missing_close_brace : ScriptFault
missing_close_brace = fault_of MissingCloseBrace

abbrev pub missing_close_quote : ScriptFault
missing_close_quote = fault_of MissingCloseQuote

abbrev pub missing_close_bracket : ScriptFault
missing_close_bracket = fault_of MissingCloseBracket

abbrev pub text_after_close_quote : ScriptFault
text_after_close_quote = fault_of TextAfterCloseQuote

abbrev pub text_after_close_brace : ScriptFault
text_after_close_brace = fault_of TextAfterCloseBrace

abbrev pub bad_escape : ScriptFault
bad_escape = fault_of BadEscape

abbrev pub too_deeply_nested : ScriptFault
too_deeply_nested = fault_of TooDeeplyNested

abbrev pub missing_close_of_variable : ScriptFault
missing_close_of_variable = fault_of MissingCloseOfVariable

abbrev pub expression_syntax : ScriptFault
expression_syntax = fault_of ExpressionSyntax

-- how a fault outside brackets is told: in a script as itself, in an expression as bad syntax
abbrev pub told : Syntax → ScriptFault → ScriptFault
told Scripts fault = fault
told Expressions fault = expression_syntax

-- whose syntax parts are of
abbrev pub syntax_of : Mode → Syntax
syntax_of (Bare place) = Scripts
syntax_of (Quoted syntax) = syntax
syntax_of (Index syntax) = syntax
