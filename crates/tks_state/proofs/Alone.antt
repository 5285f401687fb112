-- Widgets that neither show a global nor set one.
use Rattle.std.proofs.Common.{◌≡◌, true, false, None, refl, ap, sym, true≢false}
use Rattle.std.specs.Prelude.{option_and_then}
use Rattle.tks_text.specs.declared.class.Class.{Class}
use Rattle.tks_text.specs.declared.class.Class.TheVariants as class
use Rattle.tks_button.specs.Frame.{is_frame}
use Rattle.tks_opt.specs.Options.{has_option}
use Rattle.tks_opt.specs.declared.name.OptionName.TheVariants as name
use Rattle.tks_opt.proofs.Values.{none_there}
use Rattle.tks_state.specs.Widget.{stands_alone, options_of, class_of}
use Rattle.tks_state.specs.Links.{link_of, some_name}
use Rattle.tks_state.specs.WellFormed.{WellFormedWidget}
use Rattle.tks_state.specs.declared.widget.Widget.{Widget}
use Rattle.tks_state.specs.declared.widget.Widget.TheVariants as widget

frame_lacks : (c : Class) → is_frame c ≡ true → has_option c name.TextVariable ≡ false
frame_lacks class.Root h = refl
frame_lacks class.Frame h = refl
frame_lacks class.Label h = absurd (true≢false (sym h))
frame_lacks class.Button h = absurd (true≢false (sym h))
frame_lacks class.Checkbutton h = absurd (true≢false (sym h))
frame_lacks class.Entry h = absurd (true≢false (sym h))
frame_lacks class.Listbox h = absurd (true≢false (sym h))
frame_lacks class.Text h = absurd (true≢false (sym h))

alone_lacks : (w : Widget) → WellFormedWidget w → stands_alone w ≡ true → has_option (class_of w) name.TextVariable ≡ false
alone_lacks (widget.Frame t) f alone = frame_lacks t.class f.class
alone_lacks (widget.Caption t) f alone = absurd (true≢false (sym alone))
alone_lacks (widget.Entry e) f alone = absurd (true≢false (sym alone))
alone_lacks (widget.Listbox l) f alone = ap (λ c. has_option c name.TextVariable) f.class
alone_lacks (widget.Text t) f alone = ap (λ c. has_option c name.TextVariable) f.class

-- its class has no option for a link
pub alone_unlinked : (w : Widget) → WellFormedWidget w → stands_alone w ≡ true → link_of w ≡ None
unfolding link_of
alone_unlinked w f alone = ap (option_and_then some_name) (none_there (options_of w) name.TextVariable f.options (alone_lacks w f alone))
