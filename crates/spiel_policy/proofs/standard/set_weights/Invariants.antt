use Rattle.std.proofs.Common.{◌≡◌, ◌≤◌}
use Rattle.spiel_policy.specs.Kept.{weights_with}
use Rattle.spiel_policy.proofs.standard.set_weights.Given as goal

abbrev pub invariant-loop : goal.invariant-loop
invariant-loop l = (1 ≤ l.counter) × (l.weights ≡ weights_with l.counter l.other)
