use Rattle.std.proofs.Common.{◌≡◌, ◌∙◌, ℕ, sym, ap, not, length, cond, arith}
use Rattle.spiel_api.specs.Walks.{is_in}
use Rattle.spiel_board.proofs.Boards.{free_at, boards_tell, passed_more, passed_all}
use Rattle.spiel_board.proofs.tic_tac_toe.TicTacToeState.free_cell.Goals as goal
use Rattle.spiel_board.proofs.tic_tac_toe.TicTacToeState.free_cell.Goals.{then-not-self-cell+else-before-index, else-not-self-cell}

pub returns-then-before-index : goal.returns-then-before-index
returns-then-before-index c =
    let s = c.args.self.now in
    let k = c.loop-cell.cell in
    let tell = boards_tell s.history s.crosses s.noughts k c.requires.at.crosses c.requires.at.noughts c.loop-cell-test.true in
    sym (free_at s.history k c.args.index c.loop-cell-test.true (sym tell ∙ c.if-not-self-cell.true) (sym c.if-before-index.true ∙ c.loop-cell.invariant.counted))

pub overflow_add-before : goal.overflow_add-before
overflow_add-before c = omega (arith, c.loop-cell.invariant.few)

pub loop-cell-preserved : goal.loop-cell-preserved
loop-cell-preserved c =
    let s = c.args.self.now in
    let k = c.loop-cell.cell in
    let tell = boards_tell s.history s.crosses s.noughts k c.requires.at.crosses c.requires.at.noughts c.loop-cell-test.true in
    let more = passed_more s.history k c.loop-cell-test.true in
    let gain : ℕ = cond (not (is_in s.history k)) 1 0 in
    elim c.if-not-self-cell.branch [
      | then-not-self-cell+else-before-index w ↦
          let free : gain ≡ 1 = ap (λ b. cond (not b) 1 0) (sym tell ∙ w.if-not-self-cell.true) in
          record { counted = omega (arith, w.before-is, c.loop-cell.invariant.counted, more, free); few = omega (arith, w.before-is, w.if-before-index.false, c.loop-cell.invariant.few) }
      | else-not-self-cell w ↦
          let taken : gain ≡ 0 = ap (λ b. cond (not b) 1 0) (sym tell ∙ w.if-not-self-cell.false) in
          record { counted = omega (arith, w.before-is, c.loop-cell.invariant.counted, more, taken); few = omega (arith, w.before-is, c.loop-cell.invariant.few) }
    ]

pub unreachable-requires : goal.unreachable-requires
unreachable-requires c =
    let all = passed_all c.args.self.now.history c.loop-cell.cell c.loop-cell-test.false in
    omega (arith, c.loop-cell.invariant.counted, c.loop-cell.invariant.few, ap length all, c.requires.index)
