-- Games in files of Gambit's extensive form.
use Rattle.std.specs.Prelude.{ℕ, List}
use Rattle.std.specs.Result.{result_map_both}
use Rattle.spiel_io.specs.Plan.{Plan, ◌>>=◌, whole_file}
use Rattle.spiel_io.specs.declared.calls.FetchFault.TheVariants.{TooLong}
use Rattle.spiel_io.specs.declared.outside.Slot.TheVariants.{Side}
use Rattle.spiel_api.specs.Rules.{Rules}
use Rattle.spiel_string.specs.Tokens.{most_file_bytes}
use Rattle.spiel_efg.specs.Efg.{efg_rules}
use Rattle.spiel_efg.specs.Reading.{game_of_file}
use Rattle.spiel_load.specs.Given.{Asked, Read, planned}
use Rattle.spiel_load.specs.Params.{file_taken}
use Rattle.spiel_load.specs.declared.fault.LoadFault.{LoadFault}
use Rattle.spiel_load.specs.declared.fault.LoadFault.TheVariants.{Efg, File}

-- all bytes of a file that a game string names
abbrev pub side_file : List ℕ → Plan (List ℕ) LoadFault
side_file name = whole_file Side name most_file_bytes (File TooLong)

-- the rules of the game in a file of these bytes
unfoldable pub efg_in : List ℕ → Read Rules
efg_in bytes = result_map_both efg_rules Efg (game_of_file bytes)

-- the game in the file that is named
unfoldable pub efg_game : Asked → Plan Rules LoadFault
efg_game asked = planned (file_taken asked) >>= λ name. side_file name >>= λ bytes. planned (efg_in bytes)
