-- What holds of the spelling of a window.
use Rattle.std.proofs.Common.{Option, refl, ap, map}
use Rattle.std.specs.Int.{w64}
use Rattle.tks_tree.specs.Windows as tree
use Rattle.tks_pack.specs.declared.settings.Settings.{Settings}
use Rattle.tks_spelling.specs.Spelling.{Lawful, number, text}
use Rattle.tks_spelling.proofs.EachKind.{wide64, number_lawful, field_lawful, through_lawful, flag_lawful, text_lawful}
use Rattle.tks_codec_events.proofs.Sequencing.{flag_legal}
use Rattle.tks_codec_windows.specs.Bindtags.{tags}
use Rattle.tks_codec_windows.specs.Contents.{contents}
use Rattle.tks_codec_windows.specs.Options.{options}
use Rattle.tks_codec_windows.specs.Packing.{packing}
use Rattle.tks_codec_windows.proofs.OfContents.{tags_lawful, contents_lawful}
use Rattle.tks_codec_windows.proofs.OfOptions.{options_lawful}
use Rattle.tks_codec_windows.proofs.OfPacking.{packing_lawful}
use Rattle.tks_codec.specs.Content.{content}
use Rattle.tks_codec.specs.Line.{line, line_with}
use Rattle.tks_codec.specs.declared.line.Line.{Line}
use Rattle.tks_codec.proofs.OfContent.{class_lawful, class_legal, content_lawful, content_has}
use Rattle.tks_state.specs.Widget.{options_of}
use Rattle.tks_state.specs.declared.kept.Kept.{Kept}

pub line_lawful : Lawful line
line_lawful =
    field_lawful (λ l. l.place.window) _ _ (λ window l k h. ap (λ (l : Line). l.place.window) h.1.1.1.1.1.1.1.1) (number_lawful w64 wide64) (λ window.
    field_lawful (λ l. l.place.path) _ _ (λ path l k h. ap (λ (l : Line). l.place.path) h.1.1.1.1.1.1.1) text_lawful (λ path.
    field_lawful (λ l. l.place.class) _ _ (λ c l k h. ap (λ (l : Line). l.place.class) h.1.1.1.1.1.1) class_lawful (λ c.
    field_lawful (λ l. options_of l.widget) _ _ (λ o l k h. content_has o l.widget h.1.1.1.1.0) (options_lawful c) (λ o.
    field_lawful (λ l. l.tags) _ _ (λ ts l k h. ap (λ (l : Line). l.tags) h.1.1.1.1) tags_lawful (λ ts.
    field_lawful (λ l. l.place.propagates) _ _ (λ propagates l k h. ap (λ (l : Line). l.place.propagates) h.1.1.1) flag_lawful (λ propagates.
    field_lawful (λ l. l.place.contents) _ _ (λ contents l k h. ap (λ (l : Line). l.place.contents) h.1.1) contents_lawful (λ contents.
    field_lawful (λ l. l.place.packing) _ _ (λ p l k h. ap (λ (l : Line). l.place.packing) h.1) packing_lawful (λ p.
    through_lawful (λ l. l.widget) _ _ (λ w k. refl) (content_lawful o)))))))))

-- a line whose parts have spellings has one
pub line_legal : (w : tree.Window) (k : Kept) (p : Option Settings) → (number w64).Legal w.number → text.Legal w.path → (options w.class).Legal (options_of k.widget) → tags.Legal k.tags
    → contents.Legal (map (λ c. c.window) k.packing.contents) → packing.Legal p → (content (options_of k.widget)).Legal k.widget → line.Legal (line_with w k p)
line_legal w k p number path os ts contents packed held =
    (number, (path, (class_legal w.class, (os, (ts, (flag_legal k.packing.propagates, (contents, (packed, (held, refl)))))))))
