-- The options of widgets with a caption.
use Rattle.std.proofs.Common.{◌≡◌, true, refl, true≢false, sym}
use Rattle.tks_text.specs.declared.class.Class.{Class}
use Rattle.tks_text.specs.declared.class.Class.TheVariants as class
use Rattle.tks_opt.specs.Options.{has_option}
use Rattle.tks_opt.specs.declared.name.OptionName.TheVariants as name
use Rattle.tks_button.specs.Caption.{has_caption}

pub has_text : (c : Class) → has_caption c ≡ true → has_option c name.Text ≡ true
has_text class.Label e = refl
has_text class.Button e = refl
has_text class.Checkbutton e = refl
has_text class.Root e = absurd (true≢false (sym e))
has_text class.Frame e = absurd (true≢false (sym e))
has_text class.Entry e = absurd (true≢false (sym e))
has_text class.Listbox e = absurd (true≢false (sym e))
has_text class.Text e = absurd (true≢false (sym e))
