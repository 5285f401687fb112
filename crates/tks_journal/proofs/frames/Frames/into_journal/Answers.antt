use Rattle.std.proofs.Common.{◌≡◌, true, ap, ◌∙◌}
use Rattle.tks_journal.proofs.Passing.{live_at_end}
use Rattle.tks_journal.proofs.frames.Frames.into_journal.Goals as goal

pub at-requires : goal.at-requires
at-requires g c h =
    let inv = c.self.invariant h in
    let ended : c.self.inside.ended ≡ true = ap (λ f. f.ended) c.self.view_is ∙ c.requires in
    live_at_end (g.D.Disk.view c.self.inside.disk) c.self.inside.live c.self.inside.format c.self.inside.generation c.self.inside.at c.self.inside.len inv.0 (inv.1 ended)
