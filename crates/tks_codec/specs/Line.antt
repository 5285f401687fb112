-- A window as bytes (this project's own format): a line of its fields.
use Rattle.std.specs.Prelude.{ℕ, List, [], ◌∷◌, map, Option}
use Rattle.std.specs.Int.{w64}
use Rattle.tks_tree.specs.Windows as tree
use Rattle.tks_pack.specs.declared.settings.Settings.{Settings}
use Rattle.tks_spelling.specs.Spelling.{Read, Spelling, number, text, flag, field, through}
use Rattle.tks_spelling.specs.Writing.{flattened}
use Rattle.tks_codec_windows.specs.Bindtags.{tags}
use Rattle.tks_codec_windows.specs.Contents.{contents}
use Rattle.tks_codec_windows.specs.Options.{options}
use Rattle.tks_codec_windows.specs.Packing.{packing}
use Rattle.tks_state.specs.Widget.{options_of}
use Rattle.tks_state.specs.declared.kept.Kept.{Kept}
use Rattle.tks_codec.specs.Class.{class}
use Rattle.tks_codec.specs.Content.{content}
use Rattle.tks_codec.specs.declared.line.Line.{Line}

-- number, path, class, options, tags, whether it propagates, what is packed in it, how it is packed, what it holds
abbrev pub line : Spelling Line
line =
    field (λ l. l.place.window) (number w64) (λ window.
    field (λ l. l.place.path) text (λ path.
    field (λ l. l.place.class) class (λ c.
    field (λ l. options_of l.widget) (options c) (λ o.
    field (λ l. l.tags) tags (λ ts.
    field (λ l. l.place.propagates) flag (λ propagates.
    field (λ l. l.place.contents) contents (λ contents.
    field (λ l. l.place.packing) packing (λ p.
    through (λ l. l.widget) (λ w. record {
      place = record { window = window; path = path; class = c; propagates = propagates; contents = contents; packing = p };
      tags = ts;
      widget = w;
    }) (content o)))))))))

-- the spellings of what stands behind the options of a window that is packed so, and of all
abbrev pub rest_parts : Kept → Option Settings → List (List ℕ)
rest_parts k p =
    tags.write k.tags ∷ flag.write k.packing.propagates ∷ contents.write (map (λ c. c.window) k.packing.contents) ∷ packing.write p
    ∷ (content (options_of k.widget)).write k.widget ∷ []

abbrev pub line_parts : tree.Window → Kept → Option Settings → List (List ℕ)
line_parts w k p = (number w64).write w.number ∷ text.write w.path ∷ class.write w.class ∷ (options w.class).write (options_of k.widget) ∷ flattened (rest_parts k p) ∷ []

-- what stands behind the options has a spelling
pub record RestIsLegal (k : Kept) (p : Option Settings) : Type 0 where
  pub tags : tags.Legal k.tags
  pub contents : contents.Legal (map (λ c. c.window) k.packing.contents)
  pub packing : packing.Legal p
  pub content : (content (options_of k.widget)).Legal k.widget

-- the line at the front of bytes, and what stands behind it
unfoldable pub line_at : List ℕ → Read Line
line_at bytes = line.read bytes

-- the line of a window that is packed so, if it is
abbrev pub line_with : tree.Window → Kept → Option Settings → Line
line_with w k p = record {
  place = record { window = w.number; path = w.path; class = w.class; propagates = k.packing.propagates; contents = map (λ c. c.window) k.packing.contents; packing = p };
  tags = k.tags;
  widget = k.widget;
}
