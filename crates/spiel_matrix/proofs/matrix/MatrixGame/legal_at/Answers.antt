use Rattle.spiel_matrix.proofs.Choosing.{number_at}
use Rattle.spiel_matrix.proofs.matrix.MatrixGame.legal_at.Goals as goal

pub returns : goal.returns
returns c = number_at c.args.self.now.parts c.args._state.now c.args._player c.args.index c.requires.index
