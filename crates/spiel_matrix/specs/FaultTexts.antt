-- What the faults of the parts of a matrix game say.
use Rattle.std.specs.Prelude.{ℕ, List, codes}
use Rattle.spiel_matrix.specs.declared.fault.MatrixFault.{MatrixFault}
use Rattle.spiel_matrix.specs.declared.fault.MatrixFault.TheVariants.{Shape, PayTooFine, NoMemory}

abbrev pub fault_text : MatrixFault → List ℕ
fault_text Shape = codes "wrong shape"
fault_text PayTooFine = codes "payoffs too fine"
fault_text NoMemory = codes "no memory"
