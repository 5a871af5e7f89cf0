-- What a fault of a saved file says, and which one a fault of a game string is.
use Rattle.std.specs.Prelude.{ℕ, List, ◌++◌, codes}
use Rattle.std.specs.Fmt.{decimal}
use Rattle.spiel_string.specs.Faults as game_string
use Rattle.spiel_string.specs.declared.fault.StringFault.{StringFault}
use Rattle.spiel_string.specs.declared.fault.StringFault.TheVariants.{TooLong, Syntax, TooDeep, Repeated, NoMemory}
use Rattle.spiel_save.specs.declared.fault.SavedFault.{SavedFault}
use Rattle.spiel_save.specs.declared.fault.SavedFault.TheVariants as fault

abbrev pub fault_text : SavedFault → List ℕ
fault_text fault.Header = codes "saved file: bad header"
fault_text (fault.Game of_game) = game_string.fault_text of_game
fault_text (fault.Number line) = codes "saved file: bad number on line " ++ decimal line
fault_text fault.NoMemory = codes "no memory"

-- the fault of a game string as one of a saved file: want of memory is the same in both
abbrev pub in_game : StringFault → SavedFault
in_game TooLong = fault.Game TooLong
in_game (Syntax at) = fault.Game (Syntax at)
in_game TooDeep = fault.Game TooDeep
in_game (Repeated at) = fault.Game (Repeated at)
in_game NoMemory = fault.NoMemory
