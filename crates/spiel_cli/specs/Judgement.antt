-- What holds of a report on a policy: that it speaks of the game and the policy of the words, and that its numbers
-- and responses are what they are called.
use Rattle.std.specs.Prelude.{◌≡◌, ℕ, ◌<◌, ◌≤◌, Bool, List, Option, Some, None, Ok, length, pos, ◌≤ℤ◌, ◌<ℤ◌, ⊤}
use Rattle.std.specs.Io.KnownBytes.{append_known}
use Rattle.spiel_io.specs.Outside.{Files, SinkState, held}
use Rattle.spiel_io.specs.Plan.{Reaches}
use Rattle.spiel_api.specs.Rules.{Rules}
use Rattle.spiel_string.specs.Answer.{reading}
use Rattle.spiel_load.specs.Named.{named_game}
use Rattle.spiel_tree.specs.PerfectRecall.{HasPerfectRecall}
use Rattle.spiel_tree.specs.Trees.{Whole, tree_fault, tree_of}
use Rattle.spiel_policy.specs.Profiles.{Fits, Profile}
use Rattle.spiel_policy.specs.Reading.{policy_of}
use Rattle.spiel_response.specs.BestResponses.{IsBest, IsOnlyResponse, IsResponse, nash_conv_of, response}
use Rattle.spiel_response.specs.Values.{Judged, NumbersFit, denominator_of}
use Rattle.spiel_words.specs.declared.command.Command.{Command}
use Rattle.spiel_words.specs.declared.command.Command.TheVariants.{Judge}
use Rattle.spiel_cli.specs.Case.{Case, case_plan, history_limit}
use Rattle.spiel_cli.specs.Files.{file_limit}
use Rattle.spiel_cli.specs.Policies.{name_of, profile_of}
use Rattle.spiel_cli.specs.Reports.{report_text}
use Rattle.spiel_cli.specs.declared.policies.NamedPolicy.{NamedPolicy}

-- ---- of which game and policy
-- The word is a game string that names a game, by a file of these if the string names one. The game has no more histories than
-- the limit, perfect recall, one list of numbers for each information state, and nobody who chooses at once with others. The
-- case has its tree.
pub record IsOfGame (word : List ℕ) (told : Option Files) (case : Case) : Type 0 where
  pub rules : Rules
  pub reads : reading word ≡ Ok case.text
  pub named : Reaches (named_game case.text) told (Ok rules)
  pub judgeable : tree_fault rules history_limit ≡ None
  pub tree : case.judged.tree ≡ tree_of rules

-- the file of this name is there, is not too long, and gives the profile
pub record IsInFile (word : List ℕ) (files : Files) (tree : Whole) (profile : Profile) : Type 0 where
  pub bytes : List ℕ
  pub there : held files word ≡ Some bytes
  pub short : length bytes ≤ file_limit
  pub gives : policy_of tree bytes ≡ Ok profile

-- what a word says by its name, or by its file
abbrev pub IsSaidBy : Option NamedPolicy → List ℕ → Files → Whole → Profile → Type 0
IsSaidBy (Some name) word files tree profile = profile ≡ profile_of name tree
IsSaidBy None word files tree profile = IsInFile word files tree profile

-- the word says this policy for the tree: it gives each information state weights
abbrev pub IsSaid : List ℕ → Files → Whole → Profile → Type 0
IsSaid word = IsSaidBy (name_of word) word

-- two words, over these files: a game that can be judged, and a complete policy for it
pub record AreOfCase (game policy : List ℕ) (files : Files) (case : Case) : Type 0 where
  pub of_game : IsOfGame game (Some files) case
  pub of_policy : IsSaid policy files case.judged.tree case.judged.profile

-- ---- what the numbers are
-- The response of a player takes the first of the best numbers at each of the player's information states, and no other
-- does. No policy of the player whose probabilities are fractions earns more against the others, no other response, and not
-- what the policy has the player do.
pub record IsAnswered (j : Judged) (p : ℕ) : Type 0 where
  pub rule : IsResponse j p (response j p)
  pub only : IsOnlyResponse j p
  pub best : IsBest j p (response j p)

-- the game has perfect recall, the numbers fit and stand over one above 0, each player is answered, and in all the players
-- don't lose by their responses
pub record IsRight (j : Judged) : Type 0 where
  pub recall : HasPerfectRecall j.tree.rows
  pub fits : NumbersFit j
  pub denominator : pos 0 <ℤ denominator_of j
  pub answered : (p : ℕ) → p < j.tree.players → IsAnswered j p
  pub gap : pos 0 ≤ℤ nash_conv_of j

-- ---- what is given
-- What `judge` gives: the report on a game that can be judged and a complete policy for it. Over the files that are told both
-- are those of the words; a game that stands in no file is so in any case.
pub record IsReport (game policy : List ℕ) (brief : Bool) (told : Option Files) (text : List ℕ) : Type 0 where
  pub case : Case
  pub of_game : IsOfGame game told case
  pub comes : Reaches (case_plan game policy) told (Ok case)
  pub complete : Fits case.judged.tree case.judged.profile
  pub is : text ≡ report_text brief case
  pub right : IsRight case.judged

-- what a command gives, where it is `judge`
abbrev pub IsReportBy : Command → Option Files → List ℕ → Type 0
IsReportBy (Judge game policy brief) told text = IsReport game policy brief told text
IsReportBy command told text = ⊤

-- ---- what a run leaves
-- the report on this case was printed, with nothing else and no message; and it is right
pub record Judges (brief : Bool) (case : Case) (out out' err err' : SinkState) : Type 0 where
  pub printed : out'.taken ≡ append_known out.taken (report_text brief case)
  pub silent : err'.taken ≡ err.taken
  pub right : IsRight case.judged

-- The report on some case was printed. The policy is complete, and over the files that are told game and policy are those of
-- the words; a game that stands in no file is so in any case.
pub record HasJudged (game policy : List ℕ) (brief : Bool) (told : Option Files) (out out' err err' : SinkState) : Type 0 where
  pub case : Case
  pub of_game : IsOfGame game told case
  pub comes : Reaches (case_plan game policy) told (Ok case)
  pub complete : Fits case.judged.tree case.judged.profile
  pub judges : Judges brief case out out' err err'
