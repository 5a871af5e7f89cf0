use Rattle.std.proofs.Common.{length, ◌+◌, ◌*◌, ◌-◌, ◌<◌, arith}
use Rattle.std.specs.Prelude.{slice_index_or}
use Rattle.spiel_matrix.specs.Contingencies.{contingencies}
use Rattle.spiel_matrix.proofs.Choosing.{place_within}
use Rattle.spiel_matrix.proofs.contingencies.contingency_at.Goals as goal

within : (c : goal.After-items) → slice_index_or c.args.choices.now (c.loop-player.player - 1) 0 + length c.items.result.now * c.loop-player.place < contingencies c.args.strategies.now
within c =
    let strategies = c.args.strategies.now in
    let own = c.index-strategies-player.result in
    let step = place_within strategies c.args.choices.now c.loop-player.player own c.requires.choices c.requires.whole c.loop-player-test.true c.loop-player.auto.player c.index-strategies-player.is in
    rw (c.items.ensures, c.loop-player.invariant) step

pub overflow_mul-place : goal.overflow_mul-place
overflow_mul-place c = omega (arith, within c, c.requires.few)

pub overflow_add-place : goal.overflow_add-place
overflow_add-place c = omega (arith, within c, c.requires.few)
