use Rattle.std.proofs.Common.{◌++◌, List, ℕ, ◌∙◌, ap}
use Rattle.tks_spelling.specs.declared.format.Format.TheVariants.{Two}
use Rattle.tks_codec.specs.World as codec
use Rattle.tks_state.specs.World.{World}
use Rattle.tks_session.specs.Terminals.{spelled}
use Rattle.tks_session.proofs.stepper.bytes_of.Goals as goal

pub returns-clause-value : goal.returns-clause-value
unfolding spelled
returns-clause-value c =
    let world : World = c.args.world.now in
    c.in_ok-write_world.ensures.ok ∙ ap (λ (l : List ℕ). l ++ (codec.world Two world.grid).write world) c.new-bytes.ensures.items
