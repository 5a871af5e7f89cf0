-- What the faults of a walk say.
use Rattle.std.specs.Prelude.{ℕ, List, codes, ◌++◌}
use Rattle.std.specs.Fmt.{decimal}
use Rattle.spiel_api.specs.declared.walking.WalkFault.{WalkFault}
use Rattle.spiel_api.specs.declared.walking.WalkFault.TheVariants.{Illegal, Unfinished, NoMemory}

abbrev pub fault_text : WalkFault → List ℕ
fault_text (Illegal at) = codes "illegal action at " ++ decimal at
fault_text (Unfinished at) = codes "unfinished joint step at " ++ decimal at
fault_text NoMemory = codes "no memory"
