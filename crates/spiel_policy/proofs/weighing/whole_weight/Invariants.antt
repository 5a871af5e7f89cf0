use Rattle.std.proofs.Common.{◌≡◌, ◌≤◌, take}
use Rattle.spiel_frac.specs.Fraction.{most}
use Rattle.spiel_policy.specs.Weighing.{whole_weight}
use Rattle.spiel_policy.proofs.weighing.whole_weight.Given as goal

abbrev pub invariant-loop-pair : goal.invariant-loop-pair
invariant-loop-pair l = record {
  is : l.whole ≡ whole_weight (take l.pair-index l.pairs);
  low : 1 ≤ l.whole;
  high : l.whole ≤ most;
}
