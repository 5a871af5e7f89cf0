-- The profile that a policy file gives for a tree, or the first thing that is wrong with the file.
use Rattle.std.specs.Prelude.{◌≡◌, ℕ, suc, ◌==◌, ◌&&◌, Bool, nat_lt, if◌then◌else◌, List, [], ◌∷◌, length, replicate, slice_index_or, slice_set, Option, Some, None, is_some, Result, Ok, Err, ⊤}
use Rattle.std.specs.Option.{ok_or}
use Rattle.std.specs.List.{position}
use Rattle.std.specs.Str.{bytes_eq}
use Rattle.serde_json.specs.Data.{Data, Items, no_items, item}
use Rattle.spiel_frac.specs.Fraction.{most}
use Rattle.spiel_tree.specs.States.{InfoState, numbers_of, state_at, states_below}
use Rattle.spiel_tree.specs.Trees.{Whole}
use Rattle.spiel_policy.specs.Entries.{entry_of}
use Rattle.spiel_policy.specs.Heads.{entries_of, json_of}
use Rattle.spiel_policy.specs.Profiles.{Profile}
use Rattle.spiel_policy.specs.Weighing.{choices_of, weights_of_whole, whole_weight}
use Rattle.spiel_policy.specs.declared.entries.Entry.{Entry}
use Rattle.spiel_policy.specs.declared.entries.Pair.{Pair}
use Rattle.spiel_policy.specs.declared.fault.PolicyFault.{PolicyFault}
use Rattle.spiel_policy.specs.declared.fault.PolicyFault.TheVariants.{Json, Head, Shape, UnknownState, Repeated, Action, Overflow, Sum, Missing, NoMemory}

-- goes on where nothing was wrong
abbrev pub go_on : {A B : Type 0} → (A → Result B PolicyFault) → Result A PolicyFault → Result B PolicyFault
go_on next (Ok a) = next a
go_on next (Err fault) = Err fault

-- ---- what the entries give
-- for each information state of a tree its weights, if an entry gave some
abbrev pub Partial : Type 0
Partial = List (Option (List ℕ))

-- no information state has weights yet
abbrev pub none_given : Whole → Partial
none_given tree = replicate (length (states_below tree.players tree.rows)) None

abbrev pub weights_given : Partial → ℕ → Option (List ℕ)
weights_given given s = slice_index_or given s None

abbrev pub is_state : ℕ → List ℕ → InfoState → Bool
is_state player text state = state.player == player && bytes_eq state.text text

-- the number of a player's information state with this text, if there is one
abbrev pub state_named : Whole → ℕ → List ℕ → Option ℕ
state_named tree player text = position (is_state player text) (states_below tree.players tree.rows)

-- the whole, if it isn't too large
abbrev pub small_whole : List Pair → Option ℕ
small_whole pairs = if nat_lt most (whole_weight pairs) then None else Some (whole_weight pairs)

-- the weights that the pairs of an entry give these numbers
abbrev pub weights_at : List ℕ → ℕ → List Pair → Result (List ℕ) PolicyFault
weights_at numbers n pairs =
    go_on (λ choices. go_on (λ whole. ok_or (weights_of_whole choices whole) (Sum n)) (ok_or (small_whole pairs) (Overflow n)))
    (ok_or (choices_of numbers pairs) (Action n))

-- what is given after an entry for this information state
abbrev pub with_state : Whole → Partial → ℕ → List Pair → ℕ → Result Partial PolicyFault
with_state tree given n pairs s =
    if is_some (weights_given given s)
    then Err (Repeated n)
    else go_on (λ weights. Ok (slice_set given s (Some weights))) (weights_at (numbers_of tree.players tree.rows s) n pairs)

abbrev pub with_entry : Whole → Partial → ℕ → Entry → Result Partial PolicyFault
with_entry tree given n entry = go_on (with_state tree given n entry.pairs) (ok_or (state_named tree entry.player entry.text) (UnknownState n))

-- what is given after the entry with the number n, if it has the shape of one
abbrev pub with_data : Whole → Partial → ℕ → Data → Result Partial PolicyFault
with_data tree given n d = go_on (with_entry tree given n) (ok_or (entry_of d) (Shape n))

-- what is given after these entries, the first of which has the number n: the first with a fault
-- decides
abbrev pub with_entries : Whole → Partial → ℕ → Items → Result Partial PolicyFault
with_entries tree given n no_items = Ok given
with_entries tree given n (item d ds) = go_on (λ more. with_entries tree more (suc n) ds) (with_data tree given n d)

-- ---- the profile
-- no entry is for an information state
abbrev pub missing : Whole → ℕ → PolicyFault
missing tree s = Missing (state_at tree.players tree.rows s).player (state_at tree.players tree.rows s).text

-- the weights of all information states from the n-th on, or the first that has none
abbrev pub profile_from : Whole → ℕ → Partial → Result Profile PolicyFault
profile_from tree n [] = Ok []
profile_from tree n (None ∷ given) = Err (missing tree n)
profile_from tree n (Some weights ∷ given) = go_on (λ profile. Ok (weights ∷ profile)) (profile_from tree (suc n) given)

abbrev pub profile_of_entries : Whole → Items → Result Profile PolicyFault
profile_of_entries tree entries = go_on (profile_from tree 0) (with_entries tree (none_given tree) 0 entries)

abbrev pub profile_of_data : Whole → Data → Result Profile PolicyFault
profile_of_data tree d = go_on (profile_of_entries tree) (ok_or (entries_of d) Head)

-- the profile that a policy file gives for a tree, or the first thing that is wrong with it
unfoldable pub policy_of : Whole → List ℕ → Result Profile PolicyFault
policy_of tree bytes = go_on (profile_of_data tree) (ok_or (json_of bytes) Json)

-- the fault is the one that was computed, unless memory ran out
abbrev pub IsComputed : {A : Type 0} → Result A PolicyFault → PolicyFault → Type 0
IsComputed computed NoMemory = ⊤
IsComputed computed fault = computed ≡ Err fault
