use Rattle.std.proofs.Common.{pos}
use Rattle.std.specs.Prelude.{slice_index_or}
use Rattle.spiel_response.specs.Greatest.{IsBestSoFar}
use Rattle.spiel_response.proofs.responding.first_greatest.Given as goal

abbrev pub invariant-loop-at : goal.invariant-loop-at
invariant-loop-at l = IsBestSoFar (λ a. slice_index_or l.sums a (pos 0)) l.at l.best (slice_index_or l.sums l.best (pos 0))
