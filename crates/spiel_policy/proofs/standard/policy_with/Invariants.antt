use Rattle.std.proofs.Common.{◌≡◌, map}
use Rattle.std.specs.Prelude.{sum, All}
use Rattle.spiel_policy.specs.Profiles.{AreReduced, by_counts}
use Rattle.spiel_policy.specs.Kept.{weights_with}
use Rattle.spiel_policy.proofs.standard.policy_with.Given as goal

abbrev pub invariant-loop-state : goal.invariant-loop-state
invariant-loop-state l = record {
  weights_are : l.weights ≡ by_counts (λ count. weights_with count l.other) l.tree l.state;
  totals_are : l.totals ≡ map sum l.weights;
  reduced : All AreReduced l.weights;
}
