use Rattle.tks_bind.specs.Chosen.{Scene}
use Rattle.tks_bind.specs.Choosing.{chosen}
use Rattle.tks_bind.specs.Ends.{ends_of}
use Rattle.tks_bind.proofs.OneChosen.{one_chosen}
use Rattle.tks_bind.proofs.Passing.{found_so}
use Rattle.tks_bind.proofs.Trying.{covered}
use Rattle.tks_bind.proofs.Winning.{chosen_so}
use Rattle.tks_bind.proofs.bindings.Bindings.chosen.Goals as goal

pub returns-clause-value : goal.returns-clause-value
unfolding chosen
returns-clause-value c =
    let s : Scene = record { bindings = c.args.self.now.bindings; tag = c.args.tag.now; event = c.args.event.now; history = c.args.history.now; virtuals = c.args.virtuals.now } in
    rw c.latest.ensures (
    one_chosen s c.args.self.now.next c.next.ensures.formed.bindings _ _
    (found_so s _ (covered s (ends_of c.full_ends.result) (ends_of c.bare_ends.result) c.full_ends.ensures c.bare_ends.ensures)) (chosen_so s)
    )

pub returns-clause-so : goal.returns-clause-so
returns-clause-so c =
    let s : Scene = record { bindings = c.args.self.now.bindings; tag = c.args.tag.now; event = c.args.event.now; history = c.args.history.now; virtuals = c.args.virtuals.now } in
    rw c.latest.ensures (
    found_so s _ (covered s (ends_of c.full_ends.result) (ends_of c.bare_ends.result) c.full_ends.ensures c.bare_ends.ensures)
    )
