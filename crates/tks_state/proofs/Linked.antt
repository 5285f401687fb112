-- Widgets that are linked to globals.
use Rattle.std.proofs.Common.{◌≡◌, ℕ, Bool, true, false, if◌then◌else◌, List, [], ◌∷◌, Some, is_some, refl, sym, ap, ◌∙◌, true≢false}
use Rattle.tks_opt.specs.Options.{same_name, value_in, replaced}
use Rattle.tks_opt.specs.declared.name.OptionName.{OptionName}
use Rattle.tks_opt.specs.declared.name.OptionName.TheVariants as name
use Rattle.tks_button.specs.Sizes.{or_else}
use Rattle.tks_vars.specs.Variables.{Variables}
use Rattle.tks_state.specs.Laws.{has_text, Shows}
use Rattle.tks_state.specs.Links.{link_of, linked, seen, text_of, with_text, global_if, or_empty}
use Rattle.tks_state.specs.declared.widget.Widget.{Widget}
use Rattle.tks_state.specs.declared.widget.Widget.TheVariants as widget

-- an option that is there has the value that was put in its place
value_replaced : (o : OptionName) (value : List ℕ) (es : List (OptionName × List ℕ)) → is_some (value_in es o) ≡ true → value_in (replaced es o value) o ≡ Some value
value_replaced o value [] there = absurd (true≢false (sym there))
value_replaced o value (e ∷ es) there = by (same_name o e.0) refl there (value_replaced o value es)
  where
    by : (b : Bool) → same_name o e.0 ≡ b → is_some (if b then Some e.1 else value_in es o) ≡ true → (is_some (value_in es o) ≡ true → value_in (replaced es o value) o ≡ Some value)
        → value_in (if b then (e.0, value) ∷ es else e ∷ replaced es o value) o ≡ Some value
    by true same there rest = ap (λ b. if b then Some value else value_in es o) same
    by false other there rest = ap (λ b. if b then Some e.1 else value_in (replaced es o value) o) other ∙ rest there

another_text : (text : List ℕ) (w : Widget) → has_text w ≡ true → text_of (with_text text w) ≡ text
unfolding text_of with_text
another_text text (widget.Frame t) there = absurd (true≢false (sym there))
another_text text (widget.Caption t) there = ap (or_else []) (value_replaced name.Text text t.values there)
another_text text (widget.Entry e) there = refl
another_text text (widget.Listbox l) there = absurd (true≢false (sym there))
another_text text (widget.Text t) there = absurd (true≢false (sym there))

pub shows : (variables : Variables) (global : List ℕ) (w : Widget) → has_text w ≡ true → link_of w ≡ Some global → Shows variables global w
unfolding seen
shows variables global w there link = ap (λ o. text_of (linked variables o w)) link ∙ another_text (or_empty (global_if variables global)) w there

pub show_one : (variables : Variables) (global : List ℕ) (v w : Widget) → has_text v ≡ true → has_text w ≡ true → link_of v ≡ Some global → link_of w ≡ Some global
    → text_of (seen variables v) ≡ text_of (seen variables w)
show_one variables global v w v_there w_there v_link w_link = shows variables global v v_there v_link ∙ sym (shows variables global w w_there w_link)
