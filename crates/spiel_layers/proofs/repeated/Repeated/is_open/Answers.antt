use Rattle.spiel_layers.proofs.RepeatedSteps.{piece_test}
use Rattle.spiel_layers.proofs.repeated.Repeated.is_open.Goals as goal

pub returns : goal.returns
returns g c = rw (c.items.ensures, c.from.ensures) (piece_test c.requires)
