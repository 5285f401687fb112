use Rattle.std.proofs.Common.{is_some, ap, ◌∙◌}
use Rattle.tks_app.specs.Applications.{has}
use Rattle.tks_app.proofs.Keyed.{some_lent, found_lent, found_there}
use Rattle.tks_app.proofs.apps.Apps.find.Goals as goal

pub returns-clause-found : goal.returns-clause-found
returns-clause-found g c = found_lent c.args.name.now c.self.inside.commands.entries c.get.result c.self.invariant.2 c.get.ensures.value

pub returns-clause-there : goal.returns-clause-there
returns-clause-there g c =
    some_lent c.get.result ∙ ap is_some c.get.ensures.value ∙ found_there c.args.name.now c.self.inside.commands.entries ∙ ap (λ names. has names c.args.name.now) c.self.view_is
