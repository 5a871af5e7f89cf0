use Rattle.std.proofs.Common.{◌∙◌, sym, ap, List, ℕ}
use Rattle.spiel_api.proofs.PlayLemmas.{IsPlay-start}
use Rattle.spiel_board.specs.TicTacToe.{cells_of, tic_tac_toe_rules}
use Rattle.spiel_board.specs.TicTacToeState.{marks}
use Rattle.spiel_board.proofs.Boards.{marks-nil}
use Rattle.spiel_board.proofs.tic_tac_toe.TicTacToeGame.start.Goals as goal

pub returns : goal.returns
returns c = record {
  sound = record {
    play = IsPlay-start tic_tac_toe_rules _ c.new.ensures;
    crosses = sym marks-nil ∙ ap (λ (h : List ℕ). marks (cells_of 0 h)) (sym c.new.ensures);
    noughts = sym marks-nil ∙ ap (λ (h : List ℕ). marks (cells_of 1 h)) (sym c.new.ensures);
  };
  history = c.new.ensures;
}
