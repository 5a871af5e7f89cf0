use Rattle.std.proofs.Common.{◌≡◌, ◌++◌, take}
use Rattle.std.specs.Prelude.{flat_map}
use Rattle.spiel_efg.specs.Writing.{node_line}
use Rattle.spiel_efg.proofs.write.push_nodes.Given as goal

abbrev pub invariant-loop-place : goal.invariant-loop-place
invariant-loop-place l = l.out ≡ l.fn.out ++ flat_map (node_line l.efg.parts) (take l.place l.efg.parts.nodes)
