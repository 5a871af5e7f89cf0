use Rattle.std.proofs.Common.{◌≡◌, drop, reverse}
use Rattle.spiel_efg.specs.Places.{children_from, roots}
use Rattle.spiel_efg.proofs.tree.children_of.Given as goal

-- the children of the later nodes, and the roots among them
abbrev pub invariant-loop-place : goal.invariant-loop-place
invariant-loop-place l = record {
  trees : l.roots ≡ roots l.place (drop l.place l.counts);
  own : l.lists ≡ reverse (children_from l.place (drop l.place l.counts));
}
