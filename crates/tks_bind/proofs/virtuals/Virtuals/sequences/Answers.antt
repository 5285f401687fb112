use Rattle.std.proofs.Common.{◌≡◌, Some, None, sym, ap, ◌∙◌}
use Rattle.std.specs.Prelude.{slice_get, option_copied}
use Rattle.tks_bind.specs.VirtualEvents.{sequences_of}
use Rattle.tks_bind.specs.VirtualIndexes.{index_of, found}
use Rattle.tks_bind.proofs.Naming.{stands}
use Rattle.tks_bind.proofs.Virtually.{sequences_found, sequences_none}
use Rattle.tks_bind.proofs.virtuals.Virtuals.sequences.Goals as goal

pub returns-in-Some : goal.returns-in-Some
returns-in-Some c =
    let vs = c.self.inside.events in
    let name = c.args.name.now in
    let at = c.index_of-index.ensures ∙ ap (index_of name) (sym c.self.view_is) in
    let there : found name vs ≡ Some c.in-Some.event.now = sym (stands name vs) ∙ ap (slice_get vs) (sym at) ∙ sym c.get.ensures ∙ ap option_copied c.in-Some.is in
    c.as_slice.ensures.value ∙ sym (sequences_found name c.in-Some.event.now vs there) ∙ ap (sequences_of name) c.self.view_is

pub returns-in-None : goal.returns-in-None
returns-in-None c =
    let vs = c.self.inside.events in
    let name = c.args.name.now in
    let at = c.index_of-index.ensures ∙ ap (index_of name) (sym c.self.view_is) in
    let none : found name vs ≡ None = sym (stands name vs) ∙ ap (slice_get vs) (sym at) ∙ sym c.get.ensures ∙ ap option_copied c.in-None.is in
    sym (sequences_none name vs none) ∙ ap (sequences_of name) c.self.view_is
