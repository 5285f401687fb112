use Rattle.std.proofs.Common.{rules, ◌∙◌, arith}
use Rattle.tks_disk.specs.DiskModel.{on}
use Rattle.tks_journal.proofs.Fronts.{one_more, piece_written}
use Rattle.tks_journal.proofs.pieces.write_pieces.Goals as goal

pub returns-in_err-write_at-clause-front : goal.returns-in_err-write_at-clause-front
returns-in_err-write_at-clause-front g c stem other h le all =
    one_more c.args.side stem other (g.D.Disk.view c.args.disk.now) (g.D.Disk.view c.loop-done.disk) (g.D.Disk.view c.write_at.new.self) _ _ c.write_at.result (omega arith)
    (c.loop-done.invariant.front stem other h le all) (c.write_at.ensures.writes (c.loop-done.invariant.honesty.0 h))

pub loop-done-preserved : goal.loop-done-preserved
loop-done-preserved g c =
    record {
      within = search rules;
      honesty = ((λ h. c.write_at.ensures.honesty.0 (c.loop-done.invariant.honesty.0 h)), (λ h. c.loop-done.invariant.honesty.1 (c.write_at.ensures.honesty.1 h)));
      count = c.in_ok-write_at.ensures.counts ∙ c.loop-done.invariant.count;
      front = λ stem other h le all.
          one_more c.args.side stem other (g.D.Disk.view c.args.disk.now) (g.D.Disk.view c.loop-done.disk) (g.D.Disk.view c.write_at.new.self) _ _ c.write_at.result (omega arith)
          (c.loop-done.invariant.front stem other h le all) (c.write_at.ensures.writes (c.loop-done.invariant.honesty.0 h));
      written = λ h at. let w = c.in_ok-write_at.ensures.writes (c.loop-done.invariant.honesty.0 h) in
          piece_written c.args.at c.loop-done.done c.min-n.result (on c.args.side (g.D.Disk.view c.args.disk.now).reads) (on c.args.side (g.D.Disk.view c.loop-done.disk).reads) (on c.args.side (g.D.Disk.view c.write_at.new.self).reads) c.args.bytes.now (search rules) at w.torn.torn w.written (c.loop-done.invariant.written h at);
    }
