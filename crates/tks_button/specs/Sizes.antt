-- Values of options that stand for sizes, texts and anchors (options(n)). A window's class has the option
-- wherever one of these is asked for, so what stands for a missing one never counts.
use Rattle.std.specs.Prelude.{ℕ, List, [], Option, Some, None, option_and_then}
use Rattle.tks_opt.specs.Options.{Options, value_in}
use Rattle.tks_opt.specs.Table.{max_size}
use Rattle.tks_opt.specs.Values.{number_within, anchor_named}
use Rattle.tks_opt.specs.declared.anchor.Anchor.{Anchor}
use Rattle.tks_opt.specs.declared.anchor.Anchor.TheVariants.{Center}
use Rattle.tks_opt.specs.declared.name.OptionName.{OptionName}
use Rattle.tks_opt.specs.declared.name.OptionName.TheVariants as name

abbrev pub or_else : {X : Type 0} → X → Option X → X
or_else other None = other
or_else other (Some x) = x

-- what an option says, as it was given
abbrev pub said_by : Options → OptionName → List ℕ
said_by t o = or_else [] (value_in t.values o)

-- what `-width` or `-height` says
abbrev pub size_of : Options → OptionName → ℕ
size_of t o = or_else 0 (option_and_then (number_within 0 max_size) (value_in t.values o))

-- what `-text` says
abbrev pub text_of : Options → List ℕ
text_of t = said_by t name.Text

-- what `-anchor` says
abbrev pub anchor_of : Options → Anchor
anchor_of t = or_else Center (option_and_then anchor_named (value_in t.values name.Anchor))
