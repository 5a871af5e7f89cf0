use Rattle.std.proofs.Common.{◌≡◌, drop, length, true}
use Rattle.spiel_efg.specs.Tree.{are_shallow, is_forest, is_shallow}
use Rattle.spiel_efg.proofs.tree.is_shallow.Given as goal

-- the rest decides, which is as many trees as wait
abbrev pub invariant-loop-count : goal.invariant-loop-count
invariant-loop-count l = record {
  trees : is_forest (length l.waiting) (drop l.count-index l.counts) ≡ true;
  rest : are_shallow l.waiting (drop l.count-index l.counts) ≡ is_shallow l.counts;
}
