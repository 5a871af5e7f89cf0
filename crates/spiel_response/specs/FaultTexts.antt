-- What the faults of judging say.
use Rattle.std.specs.Prelude.{ℕ, List, codes}
use Rattle.spiel_response.specs.declared.fault.JudgeFault.{JudgeFault}
use Rattle.spiel_response.specs.declared.fault.JudgeFault.TheVariants.{Overflow, NoMemory}

abbrev pub fault_text : JudgeFault → List ℕ
fault_text Overflow = codes "numbers pass 127 bits"
fault_text NoMemory = codes "no memory"
