-- What the faults of fetching a file say.
use Rattle.std.specs.Prelude.{ℕ, List, codes}
use Rattle.spiel_io.specs.declared.calls.FetchFault.{FetchFault}
use Rattle.spiel_io.specs.declared.calls.FetchFault.TheVariants.{Read, TooLong, NoMemory}

abbrev pub fault_text : FetchFault → List ℕ
fault_text Read = codes "read fault"
fault_text TooLong = codes "file too long"
fault_text NoMemory = codes "no memory"
