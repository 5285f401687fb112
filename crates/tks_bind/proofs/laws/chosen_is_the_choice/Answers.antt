use Rattle.tks_bind.specs.Choosing.{chosen}
use Rattle.tks_bind.proofs.Winning.{chosen_so}
use Rattle.tks_bind.proofs.laws.chosen_is_the_choice.Goals as goal

pub returns : goal.returns
unfolding chosen
returns c = λ s. chosen_so s
