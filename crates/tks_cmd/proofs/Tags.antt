-- The names of classes are texts.
use Rattle.std.proofs.Common.{rules}
use Rattle.tks_text.specs.Class.{class_name}
use Rattle.tks_text.specs.Text.{IsText}
use Rattle.tks_text.specs.declared.class.Class.{Class}
use Rattle.tks_text.specs.declared.class.Class.TheVariants as class

pub class_is_text : (c : Class) → IsText (class_name c)
class_is_text class.Root = search rules
class_is_text class.Frame = search rules
class_is_text class.Label = search rules
class_is_text class.Button = search rules
class_is_text class.Checkbutton = search rules
class_is_text class.Entry = search rules
class_is_text class.Listbox = search rules
class_is_text class.Text = search rules
