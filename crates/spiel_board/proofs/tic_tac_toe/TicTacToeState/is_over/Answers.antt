use Rattle.std.proofs.Common.{true, false, sym, ◌∙◌}
use Rattle.spiel_board.proofs.Lines.{over_as_found}
use Rattle.spiel_board.proofs.tic_tac_toe.TicTacToeState.is_over.Goals as goal

pub returns-then-has_line : goal.returns-then-has_line
returns-then-has_line c =
    c.if-has_line.true ∙ over_as_found c.args.self.now.history c.items-count.result.now true c.requires.play c.items-count.ensures (sym c.if-has_line.true ∙ c.has_line.ensures)

pub returns-else-has_line : goal.returns-else-has_line
returns-else-has_line c =
    over_as_found c.args.self.now.history c.items-count.result.now false c.requires.play c.items-count.ensures (sym c.if-has_line.false ∙ c.has_line.ensures)
