use Rattle.std.proofs.Common.{sym, ap, ◌∙◌}
use Rattle.std.specs.Prelude.{option_copied}
use Rattle.std.specs.FinMap as map
use Rattle.tks_share.specs.Names.{order}
use Rattle.tks_bind.specs.Groups.{listed, items_in, mapped}
use Rattle.tks_bind.proofs.through.list.Goals as goal

pub returns-in_default : goal.returns-in_default
returns-in_default c =
    let name = c.args.name.now in
    sym (ap (λ m. items_in m name) (sym c.names.ensures ∙ ap (λ o. mapped (option_copied o)) c.in_default.is) ∙ ap listed (map.get-empty order name))

pub returns-in-Some-get : goal.returns-in-Some-get
returns-in-Some-get c =
    let name = c.args.name.now in
    let some = sym (ap (map.get c.in-Some.lists.now) c.as_bytes.ensures.value) ∙ sym c.get.ensures ∙ ap option_copied c.in-Some-get.is in
    c.as_slice.ensures.value ∙ ap listed (sym some) ∙ ap (λ m. items_in m name) (sym (ap (λ o. mapped (option_copied o)) c.in-Some.is) ∙ c.names.ensures)

pub returns-in-None : goal.returns-in-None
returns-in-None c =
    let name = c.args.name.now in
    let none = sym (ap (map.get c.in-Some.lists.now) c.as_bytes.ensures.value) ∙ sym c.get.ensures ∙ ap option_copied c.in-None.is in
    sym (ap listed none) ∙ ap (λ m. items_in m name) (sym (ap (λ o. mapped (option_copied o)) c.in-Some.is) ∙ c.names.ensures)
