use Rattle.std.proofs.Common.{◌≡◌, ◌%◌, length, ap, refl, arith}
use Rattle.spiel_board.specs.TicTacToePlays.{next_small}
use Rattle.spiel_board.proofs.Boards.{last_legal, before_first, before_second}
use Rattle.spiel_board.proofs.tic_tac_toe.TicTacToeGame.undo.Goals as goal

pub bounds-state-cell : goal.bounds-state-cell
bounds-state-cell c =
    let left = c.pop.new.self in
    next_small left c.in-Some.cell (last_legal c.args.state.now.history left c.in-Some.cell c.requires.at.play c.in-Some.ensures.taken)

pub bounds-state-cell-else-items-eq0 : goal.bounds-state-cell-else-items-eq0
bounds-state-cell-else-items-eq0 c =
    let left = c.pop.new.self in
    next_small left c.in-Some.cell (last_legal c.args.state.now.history left c.in-Some.cell c.requires.at.play c.in-Some.ensures.taken)

pub returns-then-items-eq0 : goal.returns-then-items-eq0
returns-then-items-eq0 c h a e =
    let left = c.pop.new.self in
    let first : length left % 2 ≡ 0 = omega (arith, c.if-items-eq0.true, ap length c.items.ensures) in
    record { sound = before_first c.args.state.now _ left c.in-Some.cell c.requires.at c.in-Some.ensures.taken first refl refl refl; history = (c.pop.ensures.last h a e).0 }

pub returns-else-items-eq0 : goal.returns-else-items-eq0
returns-else-items-eq0 c h a e =
    let left = c.pop.new.self in
    let second : length left % 2 ≡ 1 = omega (arith, c.if-items-eq0.false, ap length c.items.ensures) in
    record { sound = before_second c.args.state.now _ left c.in-Some.cell c.requires.at c.in-Some.ensures.taken second refl refl refl; history = (c.pop.ensures.last h a e).0 }
