-- What the faults of a number say.
use Rattle.std.specs.Prelude.{ℕ, List, codes}
use Rattle.spiel_frac.specs.declared.fault.BadNumber.{BadNumber}
use Rattle.spiel_frac.specs.declared.fault.BadNumber.TheVariants.{Shape, Digits, ZeroDenominator}

abbrev pub fault_text : BadNumber → List ℕ
fault_text Shape = codes "no number"
fault_text Digits = codes "number with too many digits"
fault_text ZeroDenominator = codes "number with a denominator of 0"
