use Rattle.std.proofs.Common.{◌≡◌, drop}
use Rattle.spiel_efg.specs.ReadingNodes.{are_same_actions}
use Rattle.spiel_efg.proofs.read_sets.are_same_actions.Given as goal

abbrev pub invariant-loop-index : goal.invariant-loop-index
invariant-loop-index l = are_same_actions (drop l.index l.a) (drop l.index l.b) ≡ are_same_actions l.a l.b
