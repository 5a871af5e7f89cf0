use Rattle.std.proofs.Common.{◌≡◌, ◌+◌, take, map}
use Rattle.std.specs.Prelude.{sum}
use Rattle.spiel_policy.specs.Weighing.{parts_of}
use Rattle.spiel_policy.proofs.weighing.weights_of_whole.Given as goal

abbrev pub invariant-loop-choice : goal.invariant-loop-choice
invariant-loop-choice l = record {
  so_far : l.weights ≡ map (parts_of l.whole) (take l.choice-index l.choices);
  rest : l.rest + sum (map (parts_of l.whole) (take l.choice-index l.choices)) ≡ l.whole;
}
