use Rattle.std.proofs.Common.{◌≡◌, ◌+◌, ◌≤◌, drop, length}
use Rattle.spiel_efg.specs.Tree.{is_forest}
use Rattle.spiel_efg.proofs.tree.is_forest.Given as goal

-- the rest decides, as so many trees
abbrev pub invariant-loop-count : goal.invariant-loop-count
invariant-loop-count l = record {
  rest : is_forest l.coming (drop l.count-index l.counts) ≡ is_forest 1 l.counts;
  few : l.coming ≤ length l.counts + 1;
}
