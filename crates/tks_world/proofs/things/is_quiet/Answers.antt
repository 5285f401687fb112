use Rattle.std.proofs.Common.{rules, ◌≡◌, true, false, [], None, sym, ◌∙◌}
use Rattle.tks_timer.specs.After.{due_at}
use Rattle.tks_world.specs.Hosting.{stripped}
use Rattle.tks_world.proofs.Quiet.{none_waits}
use Rattle.tks_world.proofs.things.is_quiet.Goals.{then-len-eq0, else-len-eq0}
use Rattle.tks_world.proofs.things.is_quiet.Goals as goal

pub returns-else-is_none : goal.returns-else-is_none
returns-else-is_none c =
    let world = c.args.world.now in (
      λ stands. absurd (let g : false ≡ true = sym c.if-is_none.false ∙ stands in cc),
      λ none.
          let waits = none_waits (stripped world) none in
          elim c.if-len-eq0.branch [
            | then-len-eq0 w ↦
                let late : due_at world.clock world.timers ≡ None = waits.1 in
                let due : w.due.result ≡ None = search rules in
                search rules
            | else-len-eq0 w ↦
                let empty : world.queue ≡ [] = waits.0 in
                search rules
          ],
    )
