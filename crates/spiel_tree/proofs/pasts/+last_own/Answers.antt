use Rattle.std.proofs.Common.{◌≡◌, ◌∙◌, ℕ, List, length, arith, ap, sym}
use Rattle.std.specs.Prelude.{slice_index}
use Rattle.spiel_tree.specs.Flat.{row_at, rows_of}
use Rattle.spiel_tree.proofs.OwnPasts.{IsUp, last_above, last_there, none_before, up}
use Rattle.spiel_tree.proofs.pasts.+last_own.Goals.{In-Some}
use Rattle.spiel_tree.proofs.pasts.+last_own.Goals as goal

parent : (t : ℕ) (c : In-Some t) → IsUp c.args.rows.now c.args.row c.in-Some.parent c.flat_at-here.result
parent t c = up c.args.rows.now c.args.row c.in-Some.parent c.flat_at-here.result c.requires.built c.requires.steps c.requires.row c.flat_at-here.ensures c.in-Some.is

pub flat_at-above-requires-clause-row : goal.flat_at-above-requires-clause-row
flat_at-above-requires-clause-row t c = (parent t (goal.at.flat_at-above-requires-clause-row t c).In-Some).within

pub numbers_at-requires-clause-row : goal.numbers_at-requires-clause-row
numbers_at-requires-clause-row t c = (parent t (goal.at.numbers_at-requires-clause-row t c).In-Some).within

pub bounds-numbers_at-here : goal.bounds-numbers_at-here
bounds-numbers_at-here t c =
    let same : length c.numbers_at.result.now ≡ length (row_at (rows_of c.args.rows.now) c.in-Some.parent).here.numbers = ap length c.numbers_at.ensures in
    omega (arith, same, (parent t (goal.at.bounds-numbers_at-here t c).In-Some).legal)

pub last_own-requires : goal.last_own-requires
last_own-requires t c =
    let is = parent t (goal.at.last_own-requires t c).In-Some in
    (omega (arith, is.before, c.decreases), (c.requires.built, (c.requires.steps, is.within)))

pub returns-in-None : goal.returns-in-None
returns-in-None t c = none_before c.args.rows.now c.args.player c.args.row c.flat_at-here.result c.requires.built c.requires.row c.flat_at-here.ensures c.in-None.is

pub returns-then-is_move : goal.returns-then-is_move
returns-then-is_move t c =
    last_there c.args.rows.now c.args.player c.args.row c.in-Some.parent (slice_index c.numbers_at.result.now c.flat_at-here.result.step) c.flat_at-here.result c.flat_at-above.result c.requires.built
    (parent t (goal.at.returns-then-is_move t c).In-Some) c.flat_at-above.ensures (sym c.is_move.ensures ∙ c.if-is_move.true) (ap (λ (xs : List ℕ). slice_index xs c.flat_at-here.result.step) c.numbers_at.ensures)

pub returns-else-is_move : goal.returns-else-is_move
returns-else-is_move t c =
    last_above c.args.rows.now c.args.player c.args.row c.in-Some.parent c.flat_at-here.result c.flat_at-above.result c.last_own.result c.requires.built
    (parent t (goal.at.returns-else-is_move t c).In-Some) c.flat_at-above.ensures (sym c.is_move.ensures ∙ c.if-is_move.false) c.last_own.ensures
