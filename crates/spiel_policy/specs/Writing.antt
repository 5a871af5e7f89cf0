-- What is written of a profile: the JSON value of a policy file, and its text.
use Rattle.std.specs.Prelude.{ℕ, ◌^◌, ◌<◌, List, [], ◌∷◌, ◌++◌, length, map, sum, codes, All}
use Rattle.std.specs.List.{range_with_len}
use Rattle.serde_json.specs.Data.{Data, number, unsigned, string, array, object, no_items, item, no_members, member}
use Rattle.serde_json.specs.View.{items_of}
use Rattle.json.specs.Token.{Token}
use Rattle.json.specs.Tree.{json_tokens}
use Rattle.serde_json.specs.Written.{compact_text, outline}
use Rattle.spiel_frac.specs.Fraction.{ratio_text}
use Rattle.spiel_tree.specs.States.{InfoState, numbers_of, state_at, states_below}
use Rattle.spiel_tree.specs.Trees.{Whole}
use Rattle.spiel_policy.specs.Profiles.{Profile, weights_of}

abbrev pub whole_data : ℕ → Data
whole_data n = number (unsigned n)

-- a number and its weight, as a fraction of the total in lowest terms
abbrev pub pair_data : ℕ → ℕ → ℕ → Data
pair_data total n weight = array (item (whole_data n) (item (string (ratio_text weight total)) no_items))

abbrev pub pairs_data : ℕ → List ℕ → List ℕ → List Data
pairs_data total [] weights = []
pairs_data total (n ∷ numbers) [] = []
pairs_data total (n ∷ numbers) (weight ∷ weights) = pair_data total n weight ∷ pairs_data total numbers weights

-- the entry of an information state, all of whose numbers are named; the members stand in the order
-- of their keys
abbrev pub entry_data : InfoState → List ℕ → List ℕ → Data
entry_data state numbers weights = object
    (member (codes "actions") (array (items_of (pairs_data (sum weights) numbers weights)))
    (member (codes "player") (whole_data state.player)
    (member (codes "state") (string state.text) no_members)))

abbrev pub entry_data_at : Whole → Profile → ℕ → Data
entry_data_at tree profile s = entry_data (state_at tree.players tree.rows s) (numbers_of tree.players tree.rows s) (weights_of profile s)

-- the entries of all information states, in their order
abbrev pub entries_data : Whole → Profile → List Data
entries_data tree profile = map (entry_data_at tree profile) (range_with_len 0 (length (states_below tree.players tree.rows)))

abbrev pub file_data : Whole → Profile → Data
file_data tree profile = object
    (member (codes "policy") (whole_data 1)
    (member (codes "states") (array (items_of (entries_data tree profile))) no_members))

-- the value as compact JSON, then a line feed
unfoldable pub policy_text : Whole → Profile → List ℕ
policy_text tree profile = compact_text (file_data tree profile) ++ 10 ∷ []

-- no total has more than 18 digits, and so no weight has
abbrev pub HasShortWeights : Profile → Type 0
HasShortWeights profile = All (λ weights. sum weights < 10 ^ 18) profile

-- the tokens of a value, and those of values one after another
abbrev pub data_tokens : Data → List Token
data_tokens d = json_tokens (outline d)

abbrev pub pairs_tokens : List Data → List Token
pairs_tokens [] = []
pairs_tokens (d ∷ ds) = data_tokens d ++ pairs_tokens ds
