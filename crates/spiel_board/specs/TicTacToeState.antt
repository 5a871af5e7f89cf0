-- The state that stands for a play of tic-tac-toe.
use Rattle.std.specs.Prelude.{◌≡◌, ℕ, Bool, List, map}
use Rattle.spiel_api.specs.Plays.{IsPlay}
use Rattle.spiel_api.specs.Walks.{is_in}
use Rattle.spiel_board.specs.declared.tic_tac_toe.TicTacToeState.{TicTacToeState}
use Rattle.spiel_board.specs.TicTacToe.{cells, cells_of, tic_tac_toe_rules}

-- for each cell of the board, whether it is one of these
abbrev pub marks : List ℕ → List Bool
marks xs = map (λ cell. is_in xs cell) cells

-- the history is a play, and both boards tell it
pub record IsTicTacToeAt (state : TicTacToeState) : Type 0 where
  pub play : IsPlay tic_tac_toe_rules state.history
  pub crosses : state.crosses ≡ marks (cells_of 0 state.history)
  pub noughts : state.noughts ≡ marks (cells_of 1 state.history)
