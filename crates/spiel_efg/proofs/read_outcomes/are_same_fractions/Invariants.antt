use Rattle.std.proofs.Common.{◌≡◌, drop}
use Rattle.spiel_efg.specs.ReadingNodes.{are_same_fractions}
use Rattle.spiel_efg.proofs.read_outcomes.are_same_fractions.Given as goal

abbrev pub invariant-loop-index : goal.invariant-loop-index
invariant-loop-index l = are_same_fractions (drop l.index l.a) (drop l.index l.b) ≡ are_same_fractions l.a l.b
