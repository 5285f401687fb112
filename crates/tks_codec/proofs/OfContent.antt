-- What holds of the spellings of classes and of what widgets hold.
use Rattle.std.proofs.Common.{◌≡◌, ℕ, zero, suc, true, refl, ap, ◌∙◌, arith}
use Rattle.tks_text.specs.declared.class.Class.{Class}
use Rattle.tks_text.specs.declared.class.Class.TheVariants as class
use Rattle.tks_opt.specs.Options.{Options}
use Rattle.tks_opt.specs.Numbers.{class_number, class_numbered}
use Rattle.tks_entry.specs.Entry.{Entry}
use Rattle.tks_listbox.specs.Listbox.{Listbox}
use Rattle.tks_lines.specs.Lines.{Lines}
use Rattle.tks_spelling.specs.Spelling.{Lawful, byte, such_that}
use Rattle.tks_spelling.proofs.EachKind.{byte_lawful, test_lawful, through_lawful, no_bytes_lawful}
use Rattle.tks_codec_windows.specs.Entry.{entry}
use Rattle.tks_codec_windows.specs.Listbox.{listbox}
use Rattle.tks_codec_windows.specs.Lines.{lines}
use Rattle.tks_codec_windows.proofs.OfWidgets.{entry_lawful, listbox_lawful}
use Rattle.tks_codec_windows.proofs.OfLines.{lines_lawful}
use Rattle.tks_button.specs.Caption.{has_caption}
use Rattle.tks_button.specs.Frame.{is_frame}
use Rattle.tks_state.specs.Widget.{options_of}
use Rattle.tks_state.specs.declared.widget.Widget.{Widget}
use Rattle.tks_state.specs.declared.widget.Widget.TheVariants as widget
use Rattle.tks_codec.specs.Class as kinds
use Rattle.tks_codec.specs.Class.{is_class, or_root}
use Rattle.tks_codec.specs.Content.{entry_in, listbox_in, lines_in, content_by, content}

-- ---- classes

class_told : (n : ℕ) → is_class n ≡ true → class_number (or_root (class_numbered n)) ≡ n
class_told zero e = refl
class_told (suc zero) e = refl
class_told (suc (suc zero)) e = refl
class_told (suc (suc (suc zero))) e = refl
class_told (suc (suc (suc (suc zero)))) e = refl
class_told (suc (suc (suc (suc (suc zero))))) e = refl
class_told (suc (suc (suc (suc (suc (suc zero)))))) e = refl
class_told (suc (suc (suc (suc (suc (suc (suc zero))))))) e = refl
class_told (suc (suc (suc (suc (suc (suc (suc (suc n)))))))) e = absurd cc

pub class_lawful : Lawful kinds.class
class_lawful = through_lawful class_number (λ n. or_root (class_numbered n)) (such_that is_class byte) (λ n k. class_told n k.1) (test_lawful is_class byte (λ v h. omega arith) byte_lawful)

pub class_legal : (c : Class) → kinds.class.Legal c
class_legal class.Root = ((omega arith, refl), refl)
class_legal class.Frame = ((omega arith, refl), refl)
class_legal class.Label = ((omega arith, refl), refl)
class_legal class.Button = ((omega arith, refl), refl)
class_legal class.Checkbutton = ((omega arith, refl), refl)
class_legal class.Entry = ((omega arith, refl), refl)
class_legal class.Listbox = ((omega arith, refl), refl)
class_legal class.Text = ((omega arith, refl), refl)

-- ---- what widgets hold

content_by_lawful : (c : Class) (o : Options) → Lawful (content_by c o)
content_by_lawful class.Root o = no_bytes_lawful (widget.Frame o)
content_by_lawful class.Frame o = no_bytes_lawful (widget.Frame o)
content_by_lawful class.Label o = no_bytes_lawful (widget.Caption o)
content_by_lawful class.Button o = no_bytes_lawful (widget.Caption o)
content_by_lawful class.Checkbutton o = no_bytes_lawful (widget.Caption o)
content_by_lawful class.Entry o = through_lawful entry_in (λ e. widget.Entry e) (entry o) (λ e k. refl) (entry_lawful o)
content_by_lawful class.Listbox o = through_lawful listbox_in (λ l. widget.Listbox l) (listbox o) (λ l k. refl) (listbox_lawful o)
content_by_lawful class.Text o = through_lawful lines_in (λ t. widget.Text t) (lines o) (λ t k. refl) (lines_lawful o)

pub content_lawful : (o : Options) → Lawful (content o)
content_lawful o = content_by_lawful o.class o

-- a widget that is spelled with these options has them
content_by_has : (c : Class) (o : Options) (w : Widget) → (content_by c o).Legal w → options_of w ≡ o
content_by_has class.Root o w h = ap options_of h
content_by_has class.Frame o w h = ap options_of h
content_by_has class.Label o w h = ap options_of h
content_by_has class.Button o w h = ap options_of h
content_by_has class.Checkbutton o w h = ap options_of h
content_by_has class.Entry o w h = ap options_of h.1 ∙ ap (λ (e : Entry). e.options) h.0.1.1
content_by_has class.Listbox o w h = ap options_of h.1 ∙ ap (λ (l : Listbox). l.options) h.0.1.1
content_by_has class.Text o w h = ap options_of h.1 ∙ ap (λ (t : Lines). t.options) h.0.0.1.1.1

pub content_has : (o : Options) (w : Widget) → (content o).Legal w → options_of w ≡ o
content_has o w h = content_by_has o.class o w h

-- the spelling by a class that is known
pub content_as : (o : Options) (c : Class) → o.class ≡ c → content o ≡ content_by c o
content_as o c e = ap (λ k. content_by k o) e

-- a frame holds nothing, and neither does what has a caption
frame_by : (c : Class) (o : Options) → is_frame c ≡ true → content_by c o ≡ content_by class.Frame o
frame_by class.Root o h = refl
frame_by class.Frame o h = refl
frame_by class.Label o h = absurd cc
frame_by class.Button o h = absurd cc
frame_by class.Checkbutton o h = absurd cc
frame_by class.Entry o h = absurd cc
frame_by class.Listbox o h = absurd cc
frame_by class.Text o h = absurd cc

pub of_frame : (o : Options) → is_frame o.class ≡ true → content o ≡ content_by class.Frame o
of_frame o h = frame_by o.class o h

caption_by : (c : Class) (o : Options) → has_caption c ≡ true → content_by c o ≡ content_by class.Label o
caption_by class.Root o h = absurd cc
caption_by class.Frame o h = absurd cc
caption_by class.Label o h = refl
caption_by class.Button o h = refl
caption_by class.Checkbutton o h = refl
caption_by class.Entry o h = absurd cc
caption_by class.Listbox o h = absurd cc
caption_by class.Text o h = absurd cc

pub of_caption : (o : Options) → has_caption o.class ≡ true → content o ≡ content_by class.Label o
of_caption o h = caption_by o.class o h
