use Rattle.std.proofs.Common.{◌≡◌, map, take}
use Rattle.spiel_matrix.specs.Named.{whole}
use Rattle.spiel_matrix.proofs.named.whole_pays.Given as goal

-- the numbers so far
abbrev pub invariant-loop-pay : goal.invariant-loop-pay
invariant-loop-pay l = l.list ≡ map whole (take l.pay-index l.pays)
