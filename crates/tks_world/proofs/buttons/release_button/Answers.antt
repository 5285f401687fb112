use Rattle.std.proofs.Common.{◌≡◌, subst}
use Rattle.std.specs.Prelude.{IfOk}
use Rattle.tks_world.specs.Stepped.{Accepts}
use Rattle.tks_world.specs.Buttons.{release_step}
use Rattle.tks_world.proofs.buttons.release_button.Goals as goal

pub returns-clause-accepted : goal.returns-clause-accepted
returns-clause-accepted c =
    subst (λ w. IfOk c.release_over.result (λ reply. release_step c.args.limits.now c.args.button c.args.x c.args.y w ≡ Accepts c.release_over.new.world reply)) c.lay_out.ensures c.release_over.ensures.accepted
