use Rattle.std.proofs.Common.{◌≡◌, ◌+◌, ◌<◌, ◌≤◌, ℕ, List, ◌∷◌, ◌++◌, [], map, take, length, ap, sym, ◌∙◌, arith, rules}
use Rattle.std.proofs.lemmas.List.{take_all}
use Rattle.std.specs.Prelude.{slice_index}
use Rattle.std.specs.List.{flat_map}
use Rattle.spiel_api.specs.Rules.{next_of}
use Rattle.spiel_tree.specs.Histories.{histories_from}
use Rattle.spiel_tree.specs.Rows.{row_of, rows_from}
use Rattle.spiel_tree.proofs.Ways.{rows-unfold, some_row, rows_within}
use Rattle.spiel_tree.proofs.Stops.{taking_stops}
use Rattle.spiel_tree.proofs.counting.+take_each.Goals as goal

-- there is one history more at least
pub returns-then-left-eq0-clause-all : goal.returns-then-left-eq0-clause-all
returns-then-left-eq0-clause-all g t c =
    let laws = g.met.G.Game in
    let game = c.args.game.now in
    let state = c.args.state.now in
    let lawful = laws.lawful game (laws.can_be_played game state c.requires) in
    omega (arith, c.if-left-eq0.true, some_row (g.G.Game.rules game) lawful (g.G.Game.history_of game state) (laws.plays game state c.requires))

-- a child for which too few are left
pub returns-in_err-take_each-clause-all : goal.returns-in_err-take_each-clause-all
returns-in_err-take_each-clause-all g t c =
    let laws = g.met.G.Game in
    let game = c.args.game.now in
    let state = c.args.state.now in
    let r = g.G.Game.rules game in
    let h = g.G.Game.history_of game state in
    let lawful = laws.lawful game (laws.can_be_played game state c.requires) in
    let index = c.loop-index.index in
    let within : index < length (next_of r h) = omega (arith, c.next_count-index-end.ensures, c.loop-index-test.true) in
    let play : g.G.Game.history_of game c.apply.new.state ≡ h ++ slice_index (next_of r h) index ∷ [] = search rules in
    let taken = length (map (row_of r) (h ∷ flat_map (λ a. histories_from r (h ++ a ∷ [])) (take index (next_of r h)))) in
    let child = length (rows_from r (g.G.Game.history_of game c.apply.new.state)) in
    let fits : taken + child ≤ length (rows_from r h) = rw play (omega (arith, rows_within r lawful h (laws.plays game state c.requires) [] index within)) in
    let stops = taking_stops c.in_err-take_each.field-0.0 c.args.left.now c.loop-index.left c.take_each.new.left taken child (length (rows_from r h)) c.loop-index.invariant.taken fits c.in_err-take_each.ensures.all in
    search rules

-- each number was taken
pub returns-clause-all : goal.returns-clause-all
returns-clause-all g t c =
    let laws = g.met.G.Game in
    let game = c.args.game.now in
    let state = c.args.state.now in
    let r = g.G.Game.rules game in
    let h = g.G.Game.history_of game state in
    let lawful = laws.lawful game (laws.can_be_played game state c.requires) in
    let all : take c.loop-index.index (next_of r h) ≡ next_of r h = take_all c.loop-index.index (next_of r h) (omega (arith, c.next_count-index-end.ensures, c.loop-index-test.false)) in
    c.loop-index.invariant.taken
    ∙ ap (λ (xs : List ℕ). c.loop-index.left + length (map (row_of r) (h ∷ flat_map (λ a. histories_from r (h ++ a ∷ [])) xs))) all
    ∙ ap (λ (n : ℕ). c.loop-index.left + n) (sym (ap length (rows-unfold r lawful h (laws.plays game state c.requires))))
