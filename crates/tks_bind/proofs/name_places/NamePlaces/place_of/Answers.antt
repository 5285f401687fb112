use Rattle.std.proofs.Common.{◌≡◌, None, Some, sym, ap, ◌∙◌}
use Rattle.std.specs.Prelude.{length, option_copied}
use Rattle.std.specs.FinMap as map
use Rattle.tks_bind.specs.VirtualIndexes.{index_of, or_end}
use Rattle.tks_bind.proofs.Naming.{none_placed, number_placed}
use Rattle.tks_bind.proofs.name_places.NamePlaces.place_of.Goals as goal

pub returns-in-None : goal.returns-in-None
returns-in-None c vs placed =
    let p = c.args.self.now in
    let none : map.get p.numbers c.args.name.now ≡ None = ap (map.get p.numbers) (sym c.as_bytes.ensures.value) ∙ sym c.get.ensures ∙ ap option_copied c.in-None.is in
    none_placed p vs placed c.args.name.now none

pub returns-in-Some : goal.returns-in-Some
returns-in-Some c vs placed =
    let p = c.args.self.now in
    let name = c.args.name.now in
    let some : map.get p.numbers name ≡ Some c.in-Some.number.now = ap (map.get p.numbers) (sym c.as_bytes.ensures.value) ∙ sym c.get.ensures ∙ ap option_copied c.in-Some.is in
    ap (λ o. or_end o (length vs)) (c.place_of.ensures (index_of name vs) (number_placed p vs placed name c.in-Some.number.now some))
