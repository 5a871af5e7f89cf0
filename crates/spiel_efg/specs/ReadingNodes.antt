-- What the nodes of a file come to, one after the other: the sets and outcomes in the order of first
-- mention, the nodes, and the subtrees that are still to come. A node's mentions are tested behind its
-- last token.
use Rattle.std.specs.Prelude.{ℕ, zero, suc, ◌==◌, ◌&&◌, Bool, true, false, if◌then◌else◌, List, [], ◌∷◌, ◌++◌, length, map, sum, pos, not, slice_index_or, Option, Some, None, Result, Ok, Err}
use Rattle.std.specs.List.{list_all, position}
use Rattle.std.specs.Ordering.{int_eq}
use Rattle.std.specs.Str.{bytes_eq}
use Rattle.spiel_frac.specs.Fraction.{Fraction}
use Rattle.spiel_matrix.specs.Pays.{common_unit}
use Rattle.spiel_efg.specs.Sets.{is_negative, is_same_key, is_unit, key_of, probabilities, set_at, whole_weights}
use Rattle.spiel_efg.specs.declared.parts.EfgAction.{EfgAction}
use Rattle.spiel_efg.specs.declared.parts.EfgOutcome.{EfgOutcome}
use Rattle.spiel_efg.specs.declared.parts.EfgSet.{EfgSet}
use Rattle.spiel_efg.specs.declared.parts.NodeKind.{NodeKind}
use Rattle.spiel_efg.specs.declared.parts.NodeKind.TheVariants.{Chance, Personal, Terminal}
use Rattle.spiel_efg.specs.declared.read_fault.EfgFault.{EfgFault}
use Rattle.spiel_efg.specs.declared.read_fault.EfgFault.TheVariants.{SetClash, ChanceSum, ChanceTooFine, OutcomeClash}
use Rattle.spiel_efg.specs.declared.read_mentions.NodeMention.{NodeMention}
use Rattle.spiel_efg.specs.declared.read_mentions.OutcomeMention.{OutcomeMention}
use Rattle.spiel_efg.specs.declared.read_mentions.SetMention.{SetMention}
use Rattle.spiel_efg.specs.declared.read_nodes.Grown.{Grown}
use Rattle.spiel_efg.specs.declared.read_nodes.Placed.{Placed}

-- goes on where nothing was wrong
abbrev pub go_on : {A B : Type 0} → (A → Result B EfgFault) → Result A EfgFault → Result B EfgFault
go_on next (Ok a) = next a
go_on next (Err fault) = Err fault

-- ---- probabilities
-- first none is negative, then they aren't too fine, then their sum is 1
unfoldable pub tested_weights : ℕ → List Fraction → Result (Unit {0}) EfgFault
tested_weights node weights =
    if list_all (λ weight. not (is_negative weight)) weights
    then (if is_unit (common_unit weights)
    then (if sum (whole_weights weights) == common_unit weights then Ok tt else Err (ChanceSum node))
    else Err (ChanceTooFine node))
    else Err (ChanceSum node)

-- the actions of a set's first mention: those of a player are sound as they are
abbrev pub tested_actions : ℕ → Option ℕ → List EfgAction → Result (Unit {0}) EfgFault
tested_actions node None actions = tested_weights node (probabilities actions)
tested_actions node (Some player) actions = Ok tt

-- ---- sets
-- the place of a set among those that were mentioned: chance sets are named by their number, those of
-- players by player and number
abbrev pub place_of_set : List EfgSet → Option ℕ → ℕ → Option ℕ
place_of_set sets player number = position (is_same_key (player, number)) (map key_of sets)

abbrev pub is_same_fraction : Fraction → Fraction → Bool
is_same_fraction f g = int_eq f.num g.num && int_eq (pos f.den) (pos g.den)

abbrev pub is_same_action : EfgAction → EfgAction → Bool
is_same_action a b = bytes_eq a.name b.name && is_same_fraction a.weight b.weight

-- as many items, and the same in their order
abbrev pub are_same_by : {A : Type 0} → (A → A → Bool) → List A → List A → Bool
are_same_by same [] [] = true
are_same_by same [] (b ∷ bs) = false
are_same_by same (a ∷ more) [] = false
are_same_by same (a ∷ more) (b ∷ bs) = same a b && are_same_by same more bs

-- as many actions, with the same names and probabilities
abbrev pub are_same_actions : List EfgAction → List EfgAction → Bool
are_same_actions again first = are_same_by is_same_action again first

-- an action list of a later mention, if there is one, is that of the first
abbrev pub repeats_actions : List EfgAction → Option (List EfgAction) → Bool
repeats_actions actions None = true
repeats_actions actions (Some again) = are_same_actions again actions

abbrev pub first_set : SetMention → List EfgAction → EfgSet
first_set mention actions = record { player = mention.player; number = mention.number; name = mention.name; actions = actions }

-- the sets after a first mention
abbrev pub with_first : ℕ → List EfgSet → SetMention → Option (List EfgAction) → Result (List EfgSet) EfgFault
with_first node sets mention None = Err (SetClash node)
with_first node sets mention (Some actions) = go_on (λ fine. Ok (sets ++ first_set mention actions ∷ [])) (tested_actions node mention.player actions)

-- the sets after a mention of a set that stands at this place, if it was mentioned before
abbrev pub with_found : ℕ → List EfgSet → SetMention → Option ℕ → Result (List EfgSet) EfgFault
with_found node sets mention (Some place) = if repeats_actions (set_at sets place).actions mention.actions then Ok sets else Err (SetClash node)
with_found node sets mention None = with_first node sets mention mention.actions

-- the place of a set after its mention: a new one goes last
abbrev pub place_or_last : List EfgSet → Option ℕ → ℕ
place_or_last sets None = length sets
place_or_last sets (Some place) = place

abbrev pub place_of_mention : List EfgSet → SetMention → ℕ
place_of_mention sets mention = place_or_last sets (place_of_set sets mention.player mention.number)

-- the sets after a node's mention of one, and the place of that
unfoldable pub with_set : ℕ → List EfgSet → SetMention → Result (ℕ × List EfgSet) EfgFault
with_set node sets mention =
    go_on (λ more. Ok (place_of_mention sets mention, more)) (with_found node sets mention (place_of_set sets mention.player mention.number))

-- ---- outcomes
-- the place of an outcome among those that were mentioned
abbrev pub place_of_outcome : List EfgOutcome → ℕ → Option ℕ
place_of_outcome outcomes number = position (λ known. number == known) (map (λ outcome. outcome.number) outcomes)

abbrev pub are_same_fractions : List Fraction → List Fraction → Bool
are_same_fractions again first = are_same_by is_same_fraction again first

abbrev pub no_outcome : EfgOutcome
no_outcome = record { number = 0; name = []; pays = [] }

abbrev pub outcome_in : List EfgOutcome → ℕ → EfgOutcome
outcome_in outcomes place = slice_index_or outcomes place no_outcome

-- payoffs of a later mention, if there are any, are those of the first
abbrev pub repeats_pays : List Fraction → Option (List Fraction) → Bool
repeats_pays pays None = true
repeats_pays pays (Some again) = are_same_fractions again pays

abbrev pub first_outcome : OutcomeMention → List Fraction → EfgOutcome
first_outcome mention pays = record { number = mention.number; name = mention.name; pays = pays }

abbrev pub with_first_pays : ℕ → List EfgOutcome → OutcomeMention → Option (List Fraction) → Result (List EfgOutcome) EfgFault
with_first_pays node outcomes mention None = Err (OutcomeClash node)
with_first_pays node outcomes mention (Some pays) = Ok (outcomes ++ first_outcome mention pays ∷ [])

abbrev pub with_known : ℕ → List EfgOutcome → OutcomeMention → Option ℕ → Result (List EfgOutcome) EfgFault
with_known node outcomes mention (Some place) = if repeats_pays (outcome_in outcomes place).pays mention.pays then Ok outcomes else Err (OutcomeClash node)
with_known node outcomes mention None = with_first_pays node outcomes mention mention.pays

-- outcome 0 is none, and has no payoffs
abbrev pub without_pays : ℕ → List EfgOutcome → Option (List Fraction) → Result (List EfgOutcome) EfgFault
without_pays node outcomes None = Ok outcomes
without_pays node outcomes (Some pays) = Err (OutcomeClash node)

-- the outcomes after a node's mention of one
unfoldable pub with_outcome : ℕ → List EfgOutcome → OutcomeMention → Result (List EfgOutcome) EfgFault
with_outcome node outcomes mention =
    if mention.number == 0 then without_pays node outcomes mention.pays
    else with_known node outcomes mention (place_of_outcome outcomes mention.number)

-- ---- the subtrees that are still to come
-- How many they are at each node above, the nearest first, and behind them at the root of all: there is
-- one tree to come. The nearest has some; where it would have none, it is left.
abbrev pub settled : List ℕ → List ℕ
settled [] = []
settled (zero ∷ to_come) = settled to_come
settled (suc count ∷ to_come) = suc count ∷ to_come

-- a node has come
abbrev pub taken : List ℕ → List ℕ
taken [] = []
taken (zero ∷ to_come) = zero ∷ to_come
taken (suc count ∷ to_come) = count ∷ to_come

-- a node with so many subtrees has come
abbrev pub grown_by : ℕ → List ℕ → List ℕ
grown_by count to_come = settled (count ∷ taken to_come)

-- before the root, which has no moves above it
abbrev pub one_tree : List ℕ
one_tree = 1 ∷ []

-- ---- a node
abbrev pub kind_at : Option ℕ → ℕ → NodeKind
kind_at None place = Chance place
kind_at (Some player) place = Personal place

abbrev pub placed_at : SetMention → ℕ → List EfgSet → Placed
placed_at mention place sets = record { kind = kind_at mention.player place; count = length (set_at sets place).actions; sets = sets }

-- where a node is placed by its mention of a set; it is terminal where it has none
abbrev pub placed : ℕ → List EfgSet → Option SetMention → Result Placed EfgFault
placed node sets None = Ok (record { kind = Terminal; count = 0; sets = sets })
placed node sets (Some mention) = go_on (λ found. Ok (placed_at mention found.0 found.1)) (with_set node sets mention)

-- what has grown with a node more
abbrev pub grown_with : Grown → NodeMention → Placed → List EfgOutcome → Grown
grown_with grown mention at outcomes = record {
  sets = at.sets;
  outcomes = outcomes;
  nodes = grown.nodes ++ (record { name = mention.name; kind = at.kind; outcome = mention.outcome.number }) ∷ [];
  to_come = grown_by at.count grown.to_come;
}

-- what has grown after a node, or what is wrong with the node: its set comes before its outcome
unfoldable pub with_node : Grown → NodeMention → Result Grown EfgFault
with_node grown mention =
    go_on (λ at. go_on (λ outcomes. Ok (grown_with grown mention at outcomes)) (with_outcome (length grown.nodes) grown.outcomes mention.outcome))
    (placed (length grown.nodes) grown.sets mention.set)
