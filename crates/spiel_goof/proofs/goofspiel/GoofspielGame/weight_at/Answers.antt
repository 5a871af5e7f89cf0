use Rattle.spiel_goof.specs.Goofspiel.{place_at, points_left}
use Rattle.spiel_goof.specs.GoofspielState.{parts_of}
use Rattle.spiel_goof.proofs.Numbers.{weight_one}
use Rattle.spiel_goof.proofs.goofspiel.GoofspielGame.weight_at.Goals as goal

pub returns : goal.returns
returns c = let g = c.args.self.now in let x = parts_of g c.args._state.now in weight_one (place_at g.cards x) (points_left g.cards x.turns) c.args._index
