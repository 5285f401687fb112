use denote.Param.Always.{mut_next}
use Rattle.std.proofs.Common.{◌≡◌, false, refl, ap, ◌∙◌, arith, subst}
use Rattle.tks_input.specs.declared.input.Input.TheVariants.{Turn}
use Rattle.tks_durable.specs.Machine.{accepts}
use Rattle.tks_durable.specs.Refusing.{PostRefused}
use Rattle.tks_durable.specs.Durable.{is_full}
use Rattle.tks_durable.proofs.Drains.{one_more, all_so_far}
use Rattle.tks_durable.proofs.durable.Durable.run_turns.Goals as goal

pub turns-preserved : goal.turns-preserved
turns-preserved g c =
    let inv = c.turns.invariant in
    let so = c.in-Ok.ensures.ok in
    record {
      callable = λ h. mut_next g.F.FnMut c.turns.tell _ _ c.tell.new.self c.tell.new.self c.tell.ensures refl (inv.callable h);
      within = omega (arith, c.turns-test.true);
      working = ap (λ s. s.journal.failed) so.2 ∙ inv.working;
      machine = ap (λ s. s.machine) so.2 ∙ inv.machine;
      far =
          one_more _ (g.M.Machine.meaning c.args.self.now.machine) c.args.self.now c.turns.self c.post.new.self c.args.tell.now c.turns.tell c.tell.new.self c.turns.done c.in-Ok.reply
          (record {
            working = so.0;
            room = subst (λ x. is_full (g.M.Machine.meaning x).pending c.turns.self.journal c.turns.self.waiting Turn ≡ false) inv.machine so.1;
            accepted = subst (λ x. (g.M.Machine.meaning x).step c.turns.self.world Turn ≡ accepts c.post.new.self.world c.in-Ok.reply) inv.machine c.in-Ok.ensures.accepted;
          })
          so.2 (_, refl, c.tell.ensures) inv.far;
    }

pub returns-in-Err : goal.returns-in-Err
returns-in-Err g c =
    let inv = c.turns.invariant in
    let same = c.in-Err.ensures.unchanged in
    let all = all_so_far _ (g.M.Machine.meaning c.args.self.now.machine) c.args.self.now c.turns.self c.turns.self c.args.tell.now c.turns.tell c.turns.tell c.turns.done inv.far in
    rw same (record {
      replies = all.0;
      count = all.1;
      leads = all.2;
      told_so = all.3;
      stops = (inv.within, λ working. c.turns-test.true, subst (λ x. PostRefused (g.M.Machine.meaning x) c.turns.self _ c.in-Err.why) inv.machine c.in-Err.ensures.refused);
    })

pub returns : goal.returns
returns g c =
    let inv = c.turns.invariant in
    let all = all_so_far _ (g.M.Machine.meaning c.args.self.now.machine) c.args.self.now c.turns.self c.turns.self c.args.tell.now c.turns.tell c.turns.tell c.turns.done inv.far in
    record {
      replies = all.0;
      count = all.1;
      leads = all.2;
      told_so = all.3;
      stops = (omega (arith, inv.within, c.turns-test.false), inv.working);
    }
