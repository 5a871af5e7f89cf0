use Rattle.std.proofs.Common.{◌≡◌, ◌≤◌, length, take, not}
use Rattle.std.specs.List.{filter}
use Rattle.spiel_api.specs.Walks.{is_in}
use Rattle.spiel_board.specs.TicTacToe.{cells}
use Rattle.spiel_board.proofs.tic_tac_toe.TicTacToeState.free_cell.Given as goal

-- the free cells among those that were passed were counted, and they were too few
abbrev pub invariant-loop-cell : goal.invariant-loop-cell
invariant-loop-cell l = record {
  counted : l.before ≡ length (filter (λ cell. not (is_in l.self.history cell)) (take l.cell cells));
  few : l.before ≤ l.index;
}
