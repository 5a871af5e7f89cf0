use Rattle.std.proofs.Common.{◌≡◌, ◌++◌, drop, map, Ok}
use Rattle.std.specs.Prelude.{All, sum}
use Rattle.spiel_policy.specs.Reading.{go_on, profile_from}
use Rattle.spiel_policy.specs.Profiles.{AreReduced, Profile}
use Rattle.spiel_policy.proofs.partial.PartialPolicy.policy.Given as goal

abbrev pub invariant-loop-place : goal.invariant-loop-place
invariant-loop-place l = record {
  so_far : go_on (λ (more : Profile). Ok (l.weights ++ more)) (profile_from l.tree l.state (drop l.place-index l.self)) ≡ profile_from l.tree 0 l.self;
  at : l.state ≡ l.place-index;
  totals_are : l.totals ≡ map sum l.weights;
  reduced : All AreReduced l.weights;
}
