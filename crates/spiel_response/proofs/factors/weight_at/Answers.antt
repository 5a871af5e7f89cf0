use Rattle.std.proofs.Common.{◌≡◌, ◌<◌, arith, length, ap}
use Rattle.spiel_tree.specs.Flat.{row_at}
use Rattle.spiel_tree.specs.States.{numbers_of}
use Rattle.spiel_response.proofs.factors.weight_at.Goals as goal

pub weight-requires-clause-state : goal.weight-requires-clause-state
weight-requires-clause-state c = omega (arith, c.mover_state.ensures.within, c.requires.judgeable.fits.states)

pub weight-requires-clause-index : goal.weight-requires-clause-index
weight-requires-clause-index c =
    let fits = c.requires.judgeable.fits in
    let within : c.mover_state.result < length c.args.policy.now = omega (arith, c.mover_state.ensures.within, fits.states) in
    let many = fits.numbers c.mover_state.result within in
    let same : length (numbers_of c.args.tree.now.players c.args.tree.now.rows c.mover_state.result) ≡ length (row_at c.args.tree.now.rows c.args.row).here.numbers = ap length c.mover_state.ensures.same_numbers in
    omega (arith, many, same, c.requires.index)
