use Rattle.std.proofs.Common.{◌≡◌, ◌+◌, ◌-◌, ◌∷◌, ◌++◌, [], map, take, length}
use Rattle.std.specs.List.{flat_map}
use Rattle.spiel_api.specs.Rules.{next_of}
use Rattle.spiel_api.specs.States.{StandsFor}
use Rattle.spiel_tree.specs.Histories.{histories_from}
use Rattle.spiel_tree.specs.Rows.{row_of}
use Rattle.spiel_tree.proofs.counting.+take_each.Given as goal

-- the numbers that a play may still have
abbrev pub decreases-take_each : goal.decreases-take_each
decreases-take_each g l = 4096 - length (g.G.Game.history_of l.game.now l.state.now)

-- this history and those behind the numbers so far were taken; the state is back
abbrev pub invariant-loop-index : goal.invariant-loop-index
invariant-loop-index g l =
    let rules = g.G.Game.rules l.game in
    let h = g.G.Game.history_of l.game l.fn.state in
    record {
      taken : l.fn.left ≡ l.left + length (map (row_of rules) (h ∷ flat_map (λ a. histories_from rules (h ++ a ∷ [])) (take l.index (next_of rules h))));
      back : StandsFor (g.G.Game.is_at l.game) (g.G.Game.history_of l.game) l.state h;
    }
