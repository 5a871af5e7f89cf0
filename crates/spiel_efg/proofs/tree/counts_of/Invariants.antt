use Rattle.std.proofs.Common.{◌≡◌, take}
use Rattle.spiel_efg.specs.Tree.{counts_of}
use Rattle.spiel_efg.proofs.tree.counts_of.Given as goal

-- the counts so far
abbrev pub invariant-loop-node : goal.invariant-loop-node
invariant-loop-node l = l.counts ≡ counts_of l.sets (take l.node-index l.nodes)
