use Rattle.std.proofs.Common.{◌≡◌, ◌≤◌}
use Rattle.spiel_frac.specs.Fraction.{most}
use Rattle.spiel_response.specs.Values.{size_below, values_below}
use Rattle.spiel_response.proofs.sums.values.Given as goal

abbrev pub invariant-loop-player : goal.invariant-loop-player
invariant-loop-player l = record {
  values_are : l.values ≡ values_below l.weighed l.player;
  size_is : l.size ≡ size_below l.weighed l.player;
  small : l.size ≤ most;
}
