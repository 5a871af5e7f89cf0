use Rattle.std.proofs.Common.{◌≡◌, take, true}
use Rattle.spiel_response.specs.BestResponses.{all_sum_to}
use Rattle.spiel_response.specs.Reach.{leaves}
use Rattle.spiel_response.proofs.constant_sums.has_constant_sum.Given as goal

abbrev pub invariant-loop-row : goal.invariant-loop-row
invariant-loop-row l = all_sum_to l.total (leaves (take l.row l.tree.rows)) ≡ true
