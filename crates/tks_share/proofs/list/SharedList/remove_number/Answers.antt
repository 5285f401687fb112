use Rattle.std.proofs.Common.{◌∙◌, sym}
use Rattle.tks_share.proofs.AtPlace.{not_there, taken_out}
use Rattle.tks_share.proofs.list.SharedList.remove_number.Goals as goal

pub returns-in_default-clause-ok : goal.returns-in_default-clause-ok
returns-in_default-clause-ok g c =
    not_there g.T.Numbered.number_of c.args.number c.args.self.now (sym c.place_of.ensures ∙ c.in_default.is)

pub returns-clause-ok : goal.returns-clause-ok
returns-clause-ok g c =
    c.in_ok-_gone.ensures.ok
    ∙ taken_out g.T.Numbered.number_of c.args.number 0 c.in-Some.index c.args.self.now c.requires (sym c.place_of.ensures ∙ c.in-Some.is)
