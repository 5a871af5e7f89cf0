use Rattle.std.proofs.Common.{◌≡◌, map, take}
use Rattle.spiel_frac.specs.Fraction.{Fraction}
use Rattle.spiel_frac.specs.Multiples.{ArePositive}
use Rattle.spiel_matrix.specs.Pays.{common_unit, small_unit}
use Rattle.spiel_matrix.proofs.pays.common_unit.Given as goal

-- the common denominator of the pays so far
abbrev pub invariant-loop-pay : goal.invariant-loop-pay
invariant-loop-pay l = record {
  is : l.unit ≡ small_unit (common_unit (take l.pay-index l.pays));
  positive : ArePositive (map (λ (pay : Fraction). pay.den) (take l.pay-index l.pays));
}
