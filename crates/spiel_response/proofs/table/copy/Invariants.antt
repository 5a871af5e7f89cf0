use Rattle.std.proofs.Common.{◌≡◌, ◌<◌, ℕ, pos}
use Rattle.std.specs.Prelude.{slice_index_or}
use Rattle.spiel_response.proofs.table.copy.Given as goal

abbrev pub invariant-loop-at : goal.invariant-loop-at
invariant-loop-at l = (k : ℕ) → k < l.at → slice_index_or l.to k (pos 0) ≡ slice_index_or l.from k (pos 0)
