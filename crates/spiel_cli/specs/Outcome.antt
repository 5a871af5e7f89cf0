-- What the words come to, over the files: it knows nothing of faults, of memory or of loops.
use Rattle.std.specs.Prelude.{ℕ, List, [], Option, Some, None, Result, Ok, Err}
use Rattle.spiel_io.specs.Outside.{Files}
use Rattle.spiel_io.specs.Plan.{Plan, Refuse, decided}
use Rattle.spiel_io.specs.declared.calls.FetchFault.TheVariants.{Read}
use Rattle.spiel_cli.specs.Refusal.{message_of, status_of}
use Rattle.spiel_cli.specs.Policies.{files_in}
use Rattle.spiel_cli.specs.Policy.{policy_plan}
use Rattle.spiel_cli.specs.Legal.{legal_plan}
use Rattle.spiel_cli.specs.Reports.{judge_plan}
use Rattle.spiel_cli.specs.Restore.{restore_plan}
use Rattle.spiel_cli.specs.Save.{save_plan}
use Rattle.spiel_cli.specs.Show.{show_plan}
use Rattle.spiel_cli.specs.Tidy.{tidy_plan}
use Rattle.spiel_cli.specs.Value.{value_plan}
use Rattle.spiel_words.specs.Verbs.{command_of}
use Rattle.spiel_words.specs.declared.command.Command.{Command}
use Rattle.spiel_words.specs.declared.fault.WordsFault.TheVariants.{Usage}
use Rattle.spiel_words.specs.declared.command.Command.TheVariants.{Judge, Legal, Policy, Restore, Save, Show, Tidy, Value}
use Rattle.spiel_cli.specs.declared.refusal.Refusal.{Refusal}
use Rattle.spiel_cli.specs.declared.refusal.Refusal.TheVariants.{Words, File}

-- what a command decides
abbrev pub command_plan : Command → Plan (List ℕ) Refusal
command_plan (Restore file) = restore_plan file
command_plan (Save game list) = save_plan game list
command_plan (Legal game list) = legal_plan game list
command_plan (Show game) = show_plan game
command_plan (Tidy file) = tidy_plan file
command_plan (Value game policy) = value_plan game policy
command_plan (Policy game policy) = policy_plan game policy
command_plan (Judge game policy brief) = judge_plan game policy brief

abbrev pub plan_by : Option Command → Plan (List ℕ) Refusal
plan_by None = Refuse (Words Usage)
plan_by (Some command) = command_plan command

-- what the words ask for, in which order, and what is decided by it
abbrev pub plan_of : List (List ℕ) → Plan (List ℕ) Refusal
plan_of words = plan_by (command_of words)

-- how many names of files a command has
abbrev pub command_names : Command → ℕ
command_names (Restore file) = 1
command_names (Save game list) = 0
command_names (Legal game list) = 0
command_names (Show game) = 0
command_names (Tidy file) = 1
command_names (Value game policy) = files_in policy
command_names (Policy game policy) = files_in policy
command_names (Judge game policy brief) = files_in policy

abbrev pub names_by : Option Command → ℕ
names_by None = 0
names_by (Some command) = command_names command

-- how many names the words have in the place of a file; none where the words are no command
abbrev pub names_in : List (List ℕ) → ℕ
names_in words = names_by (command_of words)

-- the bytes for the output, the bytes for the messages, and the exit status
pub record Outcome : Type 0 where
  pub out : List ℕ
  pub err : List ℕ
  pub status : ℕ

-- a refusal writes its message alone
abbrev pub refused : Refusal → Outcome
refused refusal = record { out = []; err = message_of refusal; status = status_of refusal }

-- the outcome of what was decided; nothing is decided where a name that is asked for isn't there
abbrev pub outcome_of : Option (Result (List ℕ) Refusal) → Outcome
outcome_of None = refused (File Read)
outcome_of (Some (Ok text)) = record { out = text; err = []; status = 0 }
outcome_of (Some (Err refusal)) = refused refusal

abbrev pub outcome : List (List ℕ) → Files → Outcome
outcome words files = outcome_of (decided (plan_of words) files)
