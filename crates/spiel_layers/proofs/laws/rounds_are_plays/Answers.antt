use Rattle.spiel_layers.proofs.RepeatedRounds.{has_rounds}
use Rattle.spiel_layers.proofs.laws.rounds_are_plays.Goals as goal

pub returns : goal.returns
returns c = λ stage times laws shot. has_rounds stage times laws shot
