use Rattle.std.proofs.Common.{◌≡◌, ◌∙◌, sym, ap, arith}
use Rattle.spiel_board.specs.TicTacToe.{has_line, cells_of}
use Rattle.spiel_board.proofs.Boards.{has_three-marks}
use Rattle.spiel_board.proofs.tic_tac_toe.TicTacToeState.has_line.Goals as goal

pub returns-then-player-eq0 : goal.returns-then-player-eq0
returns-then-player-eq0 c =
    let h = c.args.self.now.history in
    c.has_three.ensures ∙ has_three-marks (cells_of 0 h) c.args.self.now.crosses c.requires.at.crosses ∙ ap (λ p. has_line p h) (sym c.if-player-eq0.true)

pub returns-else-player-eq0 : goal.returns-else-player-eq0
returns-else-player-eq0 c =
    let h = c.args.self.now.history in
    let second : 1 ≡ c.args.player = omega arith in
    c.has_three-else-player-eq0.ensures ∙ has_three-marks (cells_of 1 h) c.args.self.now.noughts c.requires.at.noughts ∙ ap (λ p. has_line p h) second
