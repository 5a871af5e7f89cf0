use Rattle.std.proofs.Common.{◌≡◌, take, ◌++◌}
use Rattle.std.specs.Prelude.{codes, flat_map}
use Rattle.spiel_board.specs.TicTacToe.{move_text}
use Rattle.spiel_board.proofs.tic_tac_toe.TicTacToeGame.info.Given as goal

-- the texts of the moves so far were added
abbrev pub invariant-loop-cell : goal.invariant-loop-cell
invariant-loop-cell l = l.out ≡ l.fn.out ++ codes "moves" ++ flat_map move_text (take l.cell-index l.cell-items)
