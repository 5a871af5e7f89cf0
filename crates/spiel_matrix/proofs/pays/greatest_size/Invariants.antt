use Rattle.std.proofs.Common.{◌≡◌, map, take, nat_abs}
use Rattle.spiel_matrix.specs.Pays.{greatest}
use Rattle.spiel_matrix.proofs.pays.greatest_size.Given as goal

-- the greatest of the sizes so far
abbrev pub invariant-loop-pay : goal.invariant-loop-pay
invariant-loop-pay l = l.greatest ≡ greatest (map nat_abs (take l.pay-index l.pays))
