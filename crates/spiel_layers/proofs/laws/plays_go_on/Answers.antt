use Rattle.spiel_layers.specs.StartAtLaws.{start_play, play_start}
use Rattle.spiel_layers.proofs.laws.plays_go_on.Goals as goal

pub returns : goal.returns
returns c = λ inner prefix before h. (start_play inner prefix h before, play_start inner prefix h)
