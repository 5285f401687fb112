use Rattle.tks_spelling.proofs.EachKind.{texts_lawful}
use Rattle.tks_codec_windows.proofs.OfContents.{tags_lawful, contents_lawful}
use Rattle.tks_codec_windows.proofs.OfOptions.{options_lawful}
use Rattle.tks_codec_windows.proofs.OfPacking.{packing_lawful}
use Rattle.tks_codec_windows.proofs.OfWidgets.{entry_lawful, listbox_lawful}
use Rattle.tks_codec_windows.proofs.OfLines.{lines_lawful}
use Rattle.tks_codec_windows.proofs.laws.spellings_are_lawful.Goals as goal

pub returns-clause-texts : goal.returns-clause-texts
returns-clause-texts c = texts_lawful

pub returns-clause-tags : goal.returns-clause-tags
returns-clause-tags c = tags_lawful

pub returns-clause-contents : goal.returns-clause-contents
returns-clause-contents c = contents_lawful

pub returns-clause-options : goal.returns-clause-options
returns-clause-options c = options_lawful

pub returns-clause-packing : goal.returns-clause-packing
returns-clause-packing c = packing_lawful

pub returns-clause-entries : goal.returns-clause-entries
returns-clause-entries c = entry_lawful

pub returns-clause-listboxes : goal.returns-clause-listboxes
returns-clause-listboxes c = listbox_lawful

pub returns-clause-lines : goal.returns-clause-lines
returns-clause-lines c = lines_lawful
