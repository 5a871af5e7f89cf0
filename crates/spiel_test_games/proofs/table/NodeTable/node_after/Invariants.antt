use Rattle.std.proofs.Common.{◌≡◌, take}
use Rattle.spiel_test_games.specs.Table.{node_after}
use Rattle.spiel_test_games.proofs.table.NodeTable.node_after.Given as goal

abbrev pub invariant-loop-number : goal.invariant-loop-number
invariant-loop-number l = l.node ≡ node_after l.self.nodes.now (take l.number-index l.history)
