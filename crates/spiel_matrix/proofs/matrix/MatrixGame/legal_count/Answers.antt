use Rattle.spiel_matrix.proofs.Choosing.{number_count}
use Rattle.spiel_matrix.proofs.matrix.MatrixGame.legal_count.Goals as goal

pub returns-then-is_choosing : goal.returns-then-is_choosing
returns-then-is_choosing c = number_count c.args.self.now.parts c.args.state.now c.args.player c.strategies.result.now c.if-is_choosing.ensures c.strategies.ensures.names
