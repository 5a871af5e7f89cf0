-- The files that the words name.
use Rattle.std.specs.Prelude.{ℕ, List}
use Rattle.spiel_io.specs.Plan.{Plan, whole_file}
use Rattle.spiel_io.specs.declared.calls.FetchFault.TheVariants.{TooLong}
use Rattle.spiel_io.specs.declared.outside.Slot.TheVariants.{Main}
use Rattle.spiel_cli.specs.declared.refusal.Refusal.{Refusal}
use Rattle.spiel_cli.specs.declared.refusal.Refusal.TheVariants.{File}

-- how many bytes a file may have
abbrev pub file_limit : ℕ
file_limit = 67108864

-- all bytes of a file that the words name
abbrev pub named_file : List ℕ → Plan (List ℕ) Refusal
named_file name = whole_file Main name file_limit (File TooLong)
