use Rattle.std.proofs.Common.{◌≡◌, ◌<◌, ◌+◌, ◌*◌, ap, ◌∙◌, length, arith, List}
use Rattle.std.specs.Prelude.{ℤ}
use Rattle.std.proofs.lemmas.List.{length-map}
use Rattle.spiel_matrix.specs.MatrixPlays.{contingencies_few, end_length, matrix_from, pay_within, play_choices}
use Rattle.spiel_matrix.specs.Pays.{common_unit, in_parts}
use Rattle.spiel_matrix.proofs.matrix.MatrixGame.pay.Goals as goal

pub contingency_at-contingency-requires-clause-choices : goal.contingency_at-contingency-requires-clause-choices
contingency_at-contingency-requires-clause-choices c = rw (c.items.ensures, c.items-2.ensures) (play_choices c.args.self.now.parts c.args.state.now c.requires.at)

pub contingency_at-contingency-requires-clause-whole : goal.contingency_at-contingency-requires-clause-whole
contingency_at-contingency-requires-clause-whole c =
    let game = c.args.self.now in
    let shape = (matrix_from game.parts game.sound).shape in
    rw (c.items.ensures, c.items-2.ensures) (omega (arith, end_length game.parts shape c.args.state.now c.requires.at c.requires.end, shape.lists))

pub contingency_at-contingency-requires-clause-few : goal.contingency_at-contingency-requires-clause-few
contingency_at-contingency-requires-clause-few c =
    let game = c.args.self.now in
    rw c.items.ensures (contingencies_few game.parts (matrix_from game.parts game.sound).shape)

-- the pay stands among the pays
within : (c : goal.After-player_count) → c.player_count.result * c.contingency_at-contingency.result + c.args.player < length c.items-3.result.now
within c =
    let game = c.args.self.now in
    let shape = (matrix_from game.parts game.sound).shape in
    let some = pay_within game.parts shape c.args.state.now c.args.player c.requires.at c.requires.end c.requires.player in
    let many : length c.items-3.result.now ≡ length game.parts.pays =
    ap (λ (xs : List ℤ). length xs) (c.items-3.ensures ∙ game.pays_are) ∙ length-map game.parts.pays (in_parts (common_unit game.parts.pays)) in
    rw (c.player_count.ensures, c.contingency_at-contingency.ensures, c.items.ensures, c.items-2.ensures) (omega (arith, some, many))

pub overflow_mul-result : goal.overflow_mul-result
overflow_mul-result c = omega (arith, within c, c.items-3.type_inv)

pub overflow_add-result : goal.overflow_add-result
overflow_add-result c = omega (arith, within c, c.items-3.type_inv)

pub offset_bounds-items-player_count : goal.offset_bounds-items-player_count
offset_bounds-items-player_count c = omega (arith, within c, c.items-3.type_inv)

pub bounds-items-player_count : goal.bounds-items-player_count
bounds-items-player_count c = within c
