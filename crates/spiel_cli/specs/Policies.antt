-- The policy that a word says: `uniform`, `first`, or the name of a file.
use Rattle.std.specs.Prelude.{ℕ, List, codes, Option, Some, None, if◌then◌else◌}
use Rattle.std.specs.Str.{bytes_eq}
use Rattle.spiel_io.specs.Plan.{Plan, Give, ◌>>=◌, decide}
use Rattle.spiel_tree.specs.Trees.{Whole}
use Rattle.spiel_policy.specs.Profiles.{Profile, first_profile, uniform_profile}
use Rattle.spiel_policy.specs.Reading.{policy_of}
use Rattle.spiel_cli.specs.Files.{named_file}
use Rattle.spiel_cli.specs.declared.policies.NamedPolicy.{NamedPolicy}
use Rattle.spiel_cli.specs.declared.policies.NamedPolicy.TheVariants.{First, Uniform}
use Rattle.spiel_cli.specs.declared.refusal.Refusal.{Refusal}
use Rattle.spiel_cli.specs.declared.refusal.Refusal.TheVariants.{PolicyFile}

-- the policy of a name
unfoldable pub name_of : List ℕ → Option NamedPolicy
name_of word =
    if bytes_eq word (codes "uniform") then Some Uniform
    else if bytes_eq word (codes "first") then Some First
    else None

-- the profile of a name, for a tree
abbrev pub profile_of : NamedPolicy → Whole → Profile
profile_of Uniform tree = uniform_profile tree
profile_of First tree = first_profile tree

-- the profile that a policy file gives for a tree
abbrev pub file_profile : Whole → List ℕ → Plan Profile Refusal
file_profile tree bytes = decide PolicyFile (policy_of tree bytes)

-- the profile of a file of this name
abbrev pub from_file : List ℕ → Whole → Plan Profile Refusal
from_file word tree = named_file word >>= file_profile tree

abbrev pub chosen_by : Option NamedPolicy → List ℕ → Whole → Plan Profile Refusal
chosen_by (Some name) word tree = Give (profile_of name tree)
chosen_by None word tree = from_file word tree

-- the profile of what a word says, for a tree
abbrev pub chosen : List ℕ → Whole → Plan Profile Refusal
chosen word tree = chosen_by (name_of word) word tree

abbrev pub files_by : Option NamedPolicy → ℕ
files_by (Some name) = 0
files_by None = 1

-- how many files a word names
abbrev pub files_in : List ℕ → ℕ
files_in word = files_by (name_of word)
