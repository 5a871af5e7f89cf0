use Rattle.std.proofs.Common.{◌∙◌, ◌++◌, List, ℕ, refl, subst, arith}
use Rattle.std.specs.Prelude.{codes, flat_map}
use Rattle.std.proofs.lemmas.Grind.{common_steps}
use Rattle.spiel_frac.specs.Adding.{AddsPart}
use Rattle.spiel_frac.proofs.AddedTexts.{adds_failed, part_behind, part_of_texts}
use Rattle.spiel_board.specs.TicTacToe.{move_text}
use Rattle.spiel_board.proofs.Boards.{cell_at}
use Rattle.spiel_board.proofs.tic_tac_toe.TicTacToeGame.info.Goals as goal

pub overflow_cast-cell : goal.overflow_cast-cell
overflow_cast-cell c =
    omega (arith, cell_at c.args.state.now.history c.items-cell-items.result.now c.loop-cell.cell-index c.requires.at.play c.items-cell-items.ensures c.loop-cell-test.true)

pub overflow_add-cell : goal.overflow_add-cell
overflow_add-cell c =
    omega (arith, cell_at c.args.state.now.history c.items-cell-items.result.now c.loop-cell.cell-index c.requires.at.play c.items-cell-items.ensures c.loop-cell-test.true)

pub returns-in_err-push-2 : goal.returns-in_err-push-2
returns-in_err-push-2 c =
    let moved = c.args.out.now ++ codes "moves" in
    let new = c.push-in-loop-cell.new.self in
    let cells = c.items-cell-items.result.now in
    adds_failed c.from_residual-in_err-push-2.result _ _ _ c.from_residual-in_err-push-2.ensures.0
    (part_behind c.args.out.now moved new (codes "moves") (flat_map move_text c.args.state.now.history) refl
    (subst (λ (xs : List ℕ). AddsPart moved new (flat_map move_text xs)) c.items-cell-items.ensures
    (part_of_texts move_text cells c.loop-cell.cell-index moved new (c.in_err-push-2.ensures.err ∙ c.loop-cell.invariant))))

pub loop-cell-preserved : goal.loop-cell-preserved
loop-cell-preserved c = grind (arith, common_steps)
