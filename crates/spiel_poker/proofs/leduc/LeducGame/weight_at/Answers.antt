use Rattle.spiel_poker.specs.Leduc.{leduc_place, cards_for}
use Rattle.spiel_poker.proofs.Moves.{weight_one}
use Rattle.spiel_poker.proofs.leduc.LeducGame.weight_at.Goals as goal

pub returns : goal.returns
returns c = let h = c.args._state.now.history in weight_one (leduc_place 2 h) (cards_for 2 h) c.args._index
