use Rattle.std.proofs.Common.{◌≡◌, ◌<◌, arith, length, sym, ◌∙◌, ap, take_all}
use Rattle.std.specs.Prelude.{sum}
use Rattle.std.proofs.lemmas.List.Sums.{sum_by_more_le}
use Rattle.spiel_tree.specs.Flat.{row_at}
use Rattle.spiel_tree.proofs.OfGame.{sound_rows}
use Rattle.spiel_tree.proofs.TreeLaws.{chance_sums}
use Rattle.spiel_response.proofs.factors.chance_total.Goals as goal

pub overflow_add-total : goal.overflow_add-total
overflow_add-total c =
    let tree = c.args.tree.now in
    let weights = (row_at tree.rows c.args.row).here.weights in
    let many : length weights ≡ length (row_at tree.rows c.args.row).here.numbers = (sound_rows tree c.requires.game c.args.row c.requires.within).weighed c.requires.chance in
    let all = chance_sums tree c.requires.game c.args.row c.requires.within c.requires.chance in
    let within : c.loop-index.index < length weights = omega (arith, many, c.loop-index-test.true, c.row_count-index-end.ensures) in
    let next = sum_by_more_le (λ (x : Rattle.std.proofs.Common.ℕ). x) weights c.loop-index.index 0 within in
    omega (arith, next, all.1, c.loop-index.invariant, c.from-total.ensures, c.row_weight.ensures)

pub returns : goal.returns
returns c =
    let tree = c.args.tree.now in
    let weights = (row_at tree.rows c.args.row).here.weights in
    let many : length weights ≡ length (row_at tree.rows c.args.row).here.numbers = (sound_rows tree c.requires.game c.args.row c.requires.within).weighed c.requires.chance in
    c.loop-index.invariant ∙ ap sum (take_all c.loop-index.index weights (omega (arith, many, c.loop-index-test.false, c.row_count-index-end.ensures)))
