use Rattle.std.proofs.Common.{◌≡◌, map, take, true}
use Rattle.spiel_matrix.specs.Pays.{are_small, in_parts}
use Rattle.spiel_matrix.proofs.pays.pays_in.Given as goal

-- the pays so far
abbrev pub invariant-loop-pay : goal.invariant-loop-pay
invariant-loop-pay l = record {
  is : l.parts ≡ map (in_parts l.unit) (take l.pay-index l.pays);
  small : are_small l.unit (take l.pay-index l.pays) ≡ true;
}
