-- Information sets: who moves there, with which actions, and what chance weighs.
use Rattle.std.specs.Prelude.{ℕ, ◌^◌, pos, nat_abs, int_le, Bool, true, false, ◌&&◌, not, ◌==◌, nat_le, nat_lt, List, [], ◌∷◌, ◌++◌, length, map, sum, slice_index_or, Option, Some, None}
use Rattle.std.specs.List.{list_all, list_any}
use Rattle.spiel_frac.specs.Fraction.{Fraction}
use Rattle.spiel_efg.specs.declared.parts.EfgAction.{EfgAction}
use Rattle.spiel_efg.specs.declared.parts.EfgSet.{EfgSet}
use Rattle.spiel_efg.specs.declared.parts.NodeKind.{NodeKind}
use Rattle.spiel_efg.specs.declared.parts.NodeKind.TheVariants.{Chance, Personal, Terminal}
use Rattle.spiel_matrix.specs.Pays.{common_unit, in_parts}

-- ---- a set by its place
-- what stands where no set is
abbrev pub no_set : EfgSet
no_set = record { player = None; number = 0; name = []; actions = [] }

abbrev pub set_at : List EfgSet → ℕ → EfgSet
set_at sets place = slice_index_or sets place no_set

-- how many actions there are at a node of this kind
abbrev pub action_count : List EfgSet → NodeKind → ℕ
action_count sets (Chance place) = length (set_at sets place).actions
action_count sets (Personal place) = length (set_at sets place).actions
action_count sets Terminal = 0

-- ---- what chance weighs
-- the probabilities of a chance set's actions
abbrev pub probabilities : List EfgAction → List Fraction
probabilities actions = map (λ action. action.weight) actions

-- the probabilities over their least common denominator, as whole numbers
abbrev pub whole_weights : List Fraction → List ℕ
whole_weights weights = map (λ weight. nat_abs (in_parts (common_unit weights) weight)) weights

-- the whole weights of a chance set; a player's set has none
abbrev pub weights_by : Option ℕ → List Fraction → List ℕ
weights_by None weights = whole_weights weights
weights_by (Some player) weights = []

abbrev pub kept_weights : EfgSet → List ℕ
kept_weights one = weights_by one.player (probabilities one.actions)

abbrev pub is_negative : Fraction → Bool
is_negative weight = not (int_le (pos 0) weight.num)

abbrev pub is_zero : Fraction → Bool
is_zero weight = nat_abs weight.num == 0

-- a common denominator that isn't too large; no fraction has the denominator 0
abbrev pub is_unit : ℕ → Bool
is_unit unit = nat_le 1 unit && nat_le unit (2 ^ 62)

-- no probability is negative, their common denominator isn't too large, and they sum to 1
abbrev pub are_probabilities : List Fraction → Bool
are_probabilities weights =
    list_all (λ weight. not (is_negative weight)) weights
    && (is_unit (common_unit weights) && (sum (whole_weights weights) == common_unit weights))

-- ---- which sets a game may have
-- chance has probabilities, and a player's actions weigh nothing
abbrev pub are_weights : Option ℕ → List Fraction → Bool
are_weights None weights = are_probabilities weights
are_weights (Some player) weights = list_all is_zero weights

-- a set has a number of 32 bits and an action, and its weights are right
abbrev pub is_set : EfgSet → Bool
is_set one = nat_lt one.number (2 ^ 32) && (nat_lt 0 (length one.actions) && are_weights one.player (probabilities one.actions))

-- ---- by what sets are known
-- chance or a player, and a number
abbrev pub Key : Type 0
Key = Option ℕ × ℕ

abbrev pub key_of : EfgSet → Key
key_of one = (one.player, one.number)

abbrev pub is_same_mover : Option ℕ → Option ℕ → Bool
is_same_mover None None = true
is_same_mover None (Some q) = false
is_same_mover (Some p) None = false
is_same_mover (Some p) (Some q) = p == q

abbrev pub is_same_key : Key → Key → Bool
is_same_key a b = is_same_mover a.0 b.0 && (a.1 == b.1)

-- no key was seen before, neither among these nor further ahead in the list
abbrev pub are_new : List Key → List Key → Bool
are_new seen [] = true
are_new seen (key ∷ keys) = not (list_any (is_same_key key) seen) && are_new (seen ++ key ∷ []) keys

-- no two chance sets and no two sets of one player have the same number
abbrev pub have_own_numbers : List EfgSet → Bool
have_own_numbers sets = are_new [] (map key_of sets)
