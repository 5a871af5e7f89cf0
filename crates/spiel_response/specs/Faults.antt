-- What the faults of judging say.
use Rattle.std.specs.Prelude.{⊤}
use Rattle.spiel_response.specs.declared.fault.JudgeFault.{JudgeFault}
use Rattle.spiel_response.specs.declared.fault.JudgeFault.TheVariants.{Overflow, NoMemory}

-- the numbers are too large only where this holds; memory may run out at any time
abbrev pub OverflowsOnlyIf : Type 0 → JudgeFault → Type 0
OverflowsOnlyIf large Overflow = large
OverflowsOnlyIf large NoMemory = ⊤
