-- What holds of the spellings of tags and contents.
use Rattle.std.proofs.Common.{◌≡◌, List, subst}
use Rattle.std.specs.List.{AllByRecursion}
use Rattle.std.specs.Prelude.{map}
use Rattle.std.specs.Int.{w64}
use Rattle.tks_pack.specs.declared.packing.Content.{Content}
use Rattle.tks_spelling.specs.Spelling.{Lawful, number, texts}
use Rattle.tks_spelling.proofs.EachKind.{wide64, number_lawful, texts_lawful, list_lawful, option_lawful}
use Rattle.tks_codec_windows.specs.Bindtags.{tags}
use Rattle.tks_codec_windows.specs.Contents.{contents}

-- the numbers of contents that are these
pub all_numbers : (cs ds : List Content) → ds ≡ cs → AllByRecursion ((number w64).Legal) (map (λ c. c.window) ds) → AllByRecursion ((number w64).Legal) (map (λ c. c.window) cs)
all_numbers cs ds e h = subst (λ cs. AllByRecursion ((number w64).Legal) (map (λ c. c.window) cs)) e h

pub tags_lawful : Lawful tags
tags_lawful = option_lawful texts texts_lawful

pub contents_lawful : Lawful contents
contents_lawful = list_lawful (λ before. number w64) (λ before. number_lawful w64 wide64)
