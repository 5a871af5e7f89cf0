use Rattle.std.proofs.Common.{rules, arith, ◌+◌, ◌<◌, length, sym, ◌∙◌, ap, Some, ℕ}
use Rattle.std.specs.Prelude.{slice_index_or}
use Rattle.spiel_tree.proofs.Reading.{no_flat}
use Rattle.spiel_tree.proofs.StateReading.{flat_at, flat_other, flats_within, row_move}
use Rattle.spiel_tree.proofs.states.state_of.Goals as goal

pub bounds-items-row : goal.bounds-items-row
bounds-items-row c = flats_within c.args.rows.now c.args.row c.items.result.now c.requires.built c.requires.row c.items.ensures

pub overflow_cast-result : goal.overflow_cast-result
overflow_cast-result c =
    let m = row_move c.args.rows.now c.args.row c.in-Move.player c.items.result.now c.requires.built c.requires.row c.items.ensures c.in-Move.is in
    let low : c.in-Move.player < length c.args.starts.now = omega (arith, m.low, c.requires.starts.count) in
    search rules

pub offset_bounds-starts-player : goal.offset_bounds-starts-player
offset_bounds-starts-player c =
    let m = row_move c.args.rows.now c.args.row c.in-Move.player c.items.result.now c.requires.built c.requires.row c.items.ensures c.in-Move.is in
    let low : c.in-Move.player < length c.args.starts.now = omega (arith, m.low, c.requires.starts.count) in
    search rules

pub bounds-starts-player : goal.bounds-starts-player
bounds-starts-player c =
    let m = row_move c.args.rows.now c.args.row c.in-Move.player c.items.result.now c.requires.built c.requires.row c.items.ensures c.in-Move.is in
    omega (arith, m.low, c.requires.starts.count)

pub overflow_add-result : goal.overflow_add-result
overflow_add-result c =
    let m = row_move c.args.rows.now c.args.row c.in-Move.player c.items.result.now c.requires.built c.requires.row c.items.ensures c.in-Move.is in
    omega (arith, m.low, m.below, m.few, c.requires.fits, c.requires.starts.each c.in-Move.player)

pub returns-in-Move : goal.returns-in-Move
returns-in-Move c =
    let m = row_move c.args.rows.now c.args.row c.in-Move.player c.items.result.now c.requires.built c.requires.row c.items.ensures c.in-Move.is in
    ap (λ (n : ℕ). Some (n + (slice_index_or c.items.result.now c.args.row no_flat).text)) (c.requires.starts.each c.in-Move.player (omega (arith, m.low))) ∙ sym m.is

pub returns-in_default : goal.returns-in_default
returns-in_default c =
    sym (flat_other c.args.rows.now c.args.row _ (flat_at c.args.rows.now c.args.row c.items.result.now c.requires.built c.requires.row c.items.ensures) c.in_default.not-Move)
