-- The classes of windows (bindtags(n)).
use Rattle.std.specs.Prelude.{ℕ, List, codes}
use Rattle.tks_text.specs.declared.class.Class.{Class}
use Rattle.tks_text.specs.declared.class.Class.TheVariants as class

-- the class's name, as a binding tag has it
abbrev pub class_name : Class → List ℕ
class_name class.Root = codes "Tk"
class_name class.Frame = codes "Frame"
class_name class.Label = codes "Label"
class_name class.Button = codes "Button"
class_name class.Checkbutton = codes "Checkbutton"
class_name class.Entry = codes "Entry"
class_name class.Listbox = codes "Listbox"
class_name class.Text = codes "Text"
