use Rattle.std.proofs.Common.{◌≡◌, ◌*◌, ◌^◌, ◌≤◌, take}
use Rattle.std.specs.Prelude.{sum}
use Rattle.spiel_test_games.specs.Node.{weights_in}
use Rattle.spiel_test_games.proofs.node.total.Given as goal

abbrev pub invariant-loop-weight : goal.invariant-loop-weight
invariant-loop-weight l = (l.total ≡ sum (weights_in (take l.weight-index l.outcomes))) × (l.total ≤ 2 ^ 64 * l.weight-index)
