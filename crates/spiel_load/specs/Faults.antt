-- What the faults of naming a game say, and of what kind they are.
use Rattle.std.specs.Prelude.{ℕ, List, codes, ◌++◌}
use Rattle.spiel_io.specs.FaultTexts as of_files
use Rattle.spiel_io.specs.Plan.{Kind, IsMemory, IsRead, IsRefusal}
use Rattle.spiel_io.specs.declared.calls.FetchFault.TheVariants.{Read}
use Rattle.spiel_api.specs.FaultTexts as of_walks
use Rattle.spiel_efg.specs.Faults as of_efg
use Rattle.spiel_layers.specs.FaultTexts as of_repeats
use Rattle.spiel_load.specs.declared.fault.LoadFault.{LoadFault}
use Rattle.spiel_load.specs.declared.fault.LoadFault.TheVariants.{UnknownGame, TooDeep, UnknownParam, BadParam, File, Efg, Repeat, Start, NoMemory}

abbrev pub fault_text : LoadFault → List ℕ
fault_text (UnknownGame name) = codes "unknown game " ++ name
fault_text TooDeep = codes "more than three transforms"
fault_text (UnknownParam name key) = codes "unknown parameter " ++ key ++ codes " of " ++ name
fault_text (BadParam name key) = codes "bad parameter " ++ key ++ codes " of " ++ name
fault_text (File fault) = of_files.fault_text fault
fault_text (Efg fault) = of_efg.fault_text fault
fault_text (Repeat fault) = of_repeats.fault_text fault
fault_text (Start fault) = codes "start: " ++ of_walks.fault_text fault
fault_text NoMemory = codes "no memory"

-- a fault of reading, want of memory, or a fault that the string and the files decide
abbrev pub load_kind : LoadFault → Kind
load_kind (File Read) = IsRead
load_kind NoMemory = IsMemory
load_kind fault = IsRefusal
