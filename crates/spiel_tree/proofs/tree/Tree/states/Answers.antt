use Rattle.std.proofs.Common.{arith}
use Rattle.spiel_tree.specs.contracts.tree.Tree.{the_view}
use Rattle.spiel_tree.proofs.StateCounts.{states_few}
use Rattle.spiel_tree.proofs.tree.Tree.states.Goals as goal

pub overflow_cast-result : goal.overflow_cast-result
overflow_cast-result c =
    let tree = the_view c.self.inside in
    omega (arith, c.self.invariant.firsts_are.count, states_few tree.players tree.rows, c.self.invariant.game.few)
