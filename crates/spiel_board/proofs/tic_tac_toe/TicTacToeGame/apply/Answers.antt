use Rattle.std.proofs.Common.{◌≡◌, ◌%◌, ◌∷◌, [], ◌∙◌, length, ap, refl, arith, length-append}
use Rattle.spiel_board.specs.TicTacToePlays.{next_small}
use Rattle.spiel_board.proofs.Boards.{after_first, after_second}
use Rattle.spiel_board.proofs.tic_tac_toe.TicTacToeGame.apply.Goals as goal

pub bounds-state-action : goal.bounds-state-action
bounds-state-action c = next_small c.args.state.now.history c.args.action c.requires.legal

pub bounds-state-action-else-items-eq1 : goal.bounds-state-action-else-items-eq1
bounds-state-action-else-items-eq1 c = next_small c.args.state.now.history c.args.action c.requires.legal

pub returns-then-items-eq1-clause-ok : goal.returns-then-items-eq1-clause-ok
returns-then-items-eq1-clause-ok c =
    let h = c.args.state.now.history in
    let pushed = c.in_ok-push.ensures.ok in
    let first : length h % 2 ≡ 0 = omega (arith, c.if-items-eq1.true, ap length (c.items.ensures ∙ pushed), length-append h (c.args.action ∷ [])) in
    record { sound = after_first c.args.state.now _ c.args.action c.requires.at c.requires.legal first pushed refl refl; history = pushed }

pub returns-else-items-eq1-clause-ok : goal.returns-else-items-eq1-clause-ok
returns-else-items-eq1-clause-ok c =
    let h = c.args.state.now.history in
    let pushed = c.in_ok-push.ensures.ok in
    let second : length h % 2 ≡ 1 = omega (arith, c.if-items-eq1.false, ap length (c.items.ensures ∙ pushed), length-append h (c.args.action ∷ [])) in
    record { sound = after_second c.args.state.now _ c.args.action c.requires.at c.requires.legal second pushed refl refl; history = pushed }
