use Rattle.std.proofs.Common.{arith}
use Rattle.spiel_board.specs.TicTacToePlays.{legal_small}
use Rattle.spiel_board.proofs.tic_tac_toe.TicTacToeGame.action_name.Goals as goal

pub overflow_cast-row : goal.overflow_cast-row
overflow_cast-row c = omega (arith, legal_small c.args._state.now.history c.args.player c.args.action c.requires.legal)

pub overflow_add-row : goal.overflow_add-row
overflow_add-row c = omega (arith, legal_small c.args._state.now.history c.args.player c.args.action c.requires.legal)
