-- The statuses and messages of refusals.
use Rattle.std.specs.Prelude.{ℕ, List, [], ◌∷◌, ◌++◌, ◌==◌, codes, if◌then◌else◌}
use Rattle.spiel_words.specs.FaultTexts as of_words
use Rattle.spiel_words.specs.declared.fault.WordsFault.TheVariants as words
use Rattle.spiel_io.specs.FaultTexts as of_files
use Rattle.spiel_io.specs.Plan.{Kind, IsRead, IsMemory, IsRefusal}
use Rattle.spiel_io.specs.declared.calls.FetchFault.TheVariants as file
use Rattle.spiel_efg.specs.Faults as of_efg
use Rattle.spiel_efg.specs.declared.read_fault.EfgFault.TheVariants as efg
use Rattle.spiel_string.specs.Faults as of_strings
use Rattle.spiel_string.specs.declared.fault.StringFault.TheVariants as string
use Rattle.spiel_load.specs.Faults as of_loading
use Rattle.spiel_load.specs.declared.fault.LoadFault.TheVariants as load
use Rattle.spiel_save.specs.Faults as of_saved_files
use Rattle.spiel_save.specs.declared.fault.SavedFault.TheVariants as saved
use Rattle.spiel_api.specs.FaultTexts as of_walks
use Rattle.spiel_api.specs.declared.walking.WalkFault.TheVariants as walk
use Rattle.spiel_tree.specs.FaultTexts as of_trees
use Rattle.spiel_tree.specs.declared.tree.TreeFault.TheVariants as tree
use Rattle.spiel_policy.specs.FaultTexts as of_policies
use Rattle.spiel_policy.specs.declared.fault.PolicyFault.TheVariants as policy
use Rattle.spiel_response.specs.FaultTexts as of_judging
use Rattle.spiel_response.specs.declared.fault.JudgeFault.TheVariants as judging
use Rattle.spiel_cli.specs.declared.refusal.Refusal.{Refusal}
use Rattle.spiel_cli.specs.declared.refusal.Refusal.TheVariants.{Words, BadList, File, GameString, Loading, Efg, SavedFile, Walk, Tree, PolicyFile, Judging, NoMemory}

-- the exit status: want of memory has one of its own, whichever call tells it
abbrev pub status_of : Refusal → ℕ
status_of (Words words.Usage) = 2
status_of (Words words.NoMemory) = 8
status_of BadList = 4
status_of (File file.Read) = 3
status_of (File file.TooLong) = 4
status_of (File file.NoMemory) = 8
status_of (GameString string.NoMemory) = 8
status_of (GameString fault) = 4
status_of (Loading load.NoMemory) = 8
status_of (Loading (load.File file.Read)) = 3
status_of (Loading fault) = 4
status_of (Efg efg.NoMemory) = 8
status_of (Efg fault) = 4
status_of (SavedFile saved.NoMemory) = 8
status_of (SavedFile fault) = 4
status_of (Walk walk.NoMemory) = 8
status_of (Walk fault) = 4
status_of (Tree tree.NoMemory) = 8
status_of (Tree fault) = 5
status_of (PolicyFile policy.NoMemory) = 8
status_of (PolicyFile policy.Json) = 4
status_of (PolicyFile policy.Head) = 4
status_of (PolicyFile (policy.Shape entry)) = 4
status_of (PolicyFile (policy.Overflow entry)) = 6
status_of (PolicyFile fault) = 5
status_of (Judging judging.Overflow) = 6
status_of (Judging judging.NoMemory) = 8
status_of NoMemory = 8

-- a fault of reading, want of memory, or a refusal that the input decides
abbrev pub kind_at : ℕ → Kind
kind_at status = if status == 8 then IsMemory else if status == 3 then IsRead else IsRefusal

abbrev pub kind_of : Refusal → Kind
kind_of refusal = kind_at (status_of refusal)

-- what is said of a refusal: the text of its fault
abbrev pub reason_of : Refusal → List ℕ
reason_of (Words fault) = of_words.fault_text fault
reason_of BadList = codes "bad list"
reason_of (File fault) = of_files.fault_text fault
reason_of (GameString fault) = of_strings.fault_text fault
reason_of (Loading fault) = of_loading.fault_text fault
reason_of (Efg fault) = of_efg.fault_text fault
reason_of (SavedFile fault) = of_saved_files.fault_text fault
reason_of (Walk fault) = of_walks.fault_text fault
reason_of (Tree fault) = of_trees.fault_text fault
reason_of (PolicyFile fault) = of_policies.fault_text fault
reason_of (Judging fault) = of_judging.fault_text fault
reason_of NoMemory = codes "no memory"

-- a line that the program says
abbrev pub line : List ℕ → List ℕ
line text = codes "spiel: " ++ text ++ 10 ∷ []

-- what the program says of a refusal
abbrev pub message_of : Refusal → List ℕ
message_of refusal = line (reason_of refusal)
