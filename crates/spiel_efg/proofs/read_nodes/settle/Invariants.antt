use Rattle.std.proofs.Common.{◌≡◌, ◌≤◌, length}
use Rattle.spiel_efg.specs.ReadingNodes.{settled}
use Rattle.spiel_efg.proofs.read_nodes.settle.Given as goal

abbrev pub invariant-loop-count : goal.invariant-loop-count
invariant-loop-count l = record {
  so_far : settled l.to_come ≡ settled l.fn.to_come;
  fits : length l.to_come ≤ length l.fn.to_come;
}

abbrev pub decreases-loop-count : goal.decreases-loop-count
decreases-loop-count l = length l.to_come
