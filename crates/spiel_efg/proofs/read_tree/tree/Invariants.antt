use Rattle.std.proofs.Common.{◌≡◌, ◌-◌, ◌≤◌, length}
use Rattle.spiel_efg.specs.Tree.{most_nodes}
use Rattle.spiel_efg.specs.Reading.{seed, tree_at}
use Rattle.spiel_efg.proofs.read_tree.tree.Given as goal

abbrev pub invariant-loop : goal.invariant-loop
invariant-loop l = record {
  so_far : tree_at (most_nodes - l.counter) l.players l.grown l.reader ≡ tree_at most_nodes l.players seed l.fn.reader;
  nodes : length l.grown.nodes ≡ l.counter;
  sets : length l.grown.sets ≤ length l.grown.nodes;
}
