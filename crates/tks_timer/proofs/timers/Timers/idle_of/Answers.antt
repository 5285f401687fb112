use Rattle.std.proofs.Common.{◌==◌, sym, ap, ◌∙◌}
use Rattle.std.specs.List.{find}
use Rattle.tks_timer.specs.After.{Content}
use Rattle.tks_timer.proofs.Finding.{found_there, found_nowhere}
use Rattle.tks_timer.proofs.Forming.{idles_rise}
use Rattle.tks_timer.proofs.timers.Timers.idle_of.Goals as goal

pub place_of-requires : goal.place_of-requires
place_of-requires c =
    let content : Content = record { timers = c.self.inside.timers; idles = c.self.inside.idles; next = c.self.inside.next } in
    idles_rise content c.self.invariant.waiting

pub returns-in-None : goal.returns-in-None
returns-in-None c =
    sym (found_nowhere (λ i. i.id == c.args.id) c.self.inside.idles (sym c.place_of.ensures ∙ c.in-None.is))
    ∙ ap (λ (all : Content). find (λ i. i.id == c.args.id) all.idles) c.self.view_is

pub returns-in-Some : goal.returns-in-Some
returns-in-Some c =
    c.get.ensures
    ∙ found_there (λ i. i.id == c.args.id) c.self.inside.idles c.in-Some.index (sym c.place_of.ensures ∙ c.in-Some.is)
    ∙ ap (λ (all : Content). find (λ i. i.id == c.args.id) all.idles) c.self.view_is
