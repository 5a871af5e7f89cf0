-- Payoffs of an extensive game as whole numbers, and what a player gets along a path.
use Rattle.std.specs.Prelude.{ℕ, zero, suc, ◌^◌, max, ℤ, pos, ◌+ℤ◌, nat_abs, Bool, ◌&&◌, ◌==◌, nat_le, if◌then◌else◌, List, [], ◌∷◌, ◌++◌, length, map, replicate, slice_index_or, flat_map, Option, Some, None}
use Rattle.std.specs.List.{list_all, range_with_len}
use Rattle.spiel_frac.specs.Fraction.{Fraction}
use Rattle.spiel_matrix.specs.Pays.{are_small, common_unit, greatest, in_parts}
use Rattle.spiel_efg.specs.declared.parts.EfgNode.{EfgNode}
use Rattle.spiel_efg.specs.declared.parts.EfgOutcome.{EfgOutcome}
use Rattle.spiel_efg.specs.declared.parts.EfgParts.{EfgParts}
use Rattle.spiel_efg.specs.Mentions.{place_of}
use Rattle.spiel_efg.specs.Sets.{is_unit}
use Rattle.spiel_efg.specs.Tree.{behind, subtrees}

-- ---- the unit
-- all payoffs of all outcomes
abbrev pub all_pays : List EfgOutcome → List Fraction
all_pays outcomes = flat_map (λ outcome. outcome.pays) outcomes

-- the least common denominator of all payoffs
abbrev pub efg_unit : EfgParts → ℕ
efg_unit parts = common_unit (all_pays parts.outcomes)

-- ---- what a node pays
-- the payoffs of the outcome with a number
abbrev pub pays_among : List EfgOutcome → ℕ → List Fraction
pays_among [] number = []
pays_among (outcome ∷ others) number = if number == outcome.number then outcome.pays else pays_among others number

-- the same for the number that a node has, where 0 is no outcome
abbrev pub pays_of : List EfgOutcome → ℕ → List Fraction
pays_of outcomes number = if number == 0 then [] else pays_among outcomes number

-- what a player gets at a node, in parts of the unit
abbrev pub own_pay : EfgParts → ℕ → EfgNode → ℤ
own_pay parts p node = in_parts (efg_unit parts) (slice_index_or (pays_of parts.outcomes node.outcome) p (record { num = pos 0; den = 1 }))

-- ---- sums along paths, where `own` says what is got at a node
-- what is got on the path from the first node along a history
abbrev pub pay_along : (EfgNode → ℕ) → (EfgNode → ℤ) → List EfgNode → List ℕ → ℤ
pay_along count own [] h = pos 0
pay_along count own (node ∷ nodes) [] = own node
pay_along count own (node ∷ nodes) (a ∷ h) = own node +ℤ pay_along count own (behind count a nodes) h

-- a leaf's return, put in front
abbrev pub with_leaf : ℕ → ℤ → List ℤ → List ℤ
with_leaf zero here later = here ∷ later
with_leaf (suc count) here later = later

-- what was got on the path to each leaf, given what was got above each tree that is still to come
abbrev pub leaf_pays : (EfgNode → ℕ) → (EfgNode → ℤ) → List ℤ → List EfgNode → List ℤ
leaf_pays count own [] nodes = []
leaf_pays count own (above ∷ others) [] = []
leaf_pays count own (above ∷ others) (node ∷ nodes) =
    let here = above +ℤ own node in with_leaf (count node) here (leaf_pays count own (replicate (count node) here ++ others) nodes)

-- ---- the returns
-- the returns of a player at all leaves
abbrev pub returns_of : EfgParts → ℕ → List ℤ
returns_of parts p = leaf_pays (subtrees parts.sets) (own_pay parts p) (pos 0 ∷ []) parts.nodes

-- the greatest size of a player's return at a leaf, and 1 at least
abbrev pub cap_for : EfgParts → ℕ → ℕ
cap_for parts p = greatest (map nat_abs (returns_of parts p))

-- the same of all players
abbrev pub efg_cap : EfgParts → ℕ
efg_cap parts = greatest (flat_map (λ p. map nat_abs (returns_of parts p)) (range_with_len 0 (length parts.players)))

-- neither the common denominator, nor the size of a payoff or of a return at a leaf in that unit, passes 2^62
abbrev pub are_pays_fine : EfgParts → Bool
are_pays_fine parts = is_unit (efg_unit parts) && (are_small (efg_unit parts) (all_pays parts.outcomes) && nat_le (efg_cap parts) (2 ^ 62))

-- ---- on the way there
-- a number, unless it passes 2^62
abbrev pub small : ℕ → Option ℕ
small number = if nat_le number (2 ^ 62) then Some number else None

-- all payoffs in parts of the unit, outcome by outcome
abbrev pub pay_lists : ℕ → List EfgOutcome → List (List ℤ)
pay_lists unit outcomes = map (λ outcome. map (in_parts unit) outcome.pays) outcomes

-- each of these payoffs is small
abbrev pub are_lists_small : ℕ → List EfgOutcome → Bool
are_lists_small unit outcomes = list_all (λ outcome. are_small unit outcome.pays) outcomes

-- what a player gets in a row, where row 0 is that of no outcome
abbrev pub pay_in : List (List ℤ) → ℕ → ℕ → ℤ
pay_in lists zero p = pos 0
pay_in lists (suc k) p = slice_index_or (slice_index_or lists k []) p (pos 0)

-- the row of each node's outcome
abbrev pub outcome_rows : EfgParts → List ℕ
outcome_rows parts = map (λ node. place_of (0 ∷ map (λ outcome. outcome.number) parts.outcomes) node.outcome) parts.nodes

-- a cap with the return of a leaf more, unless that passes 2^62
abbrev pub cap_with : ℕ → ℕ → ℤ → Option ℕ
cap_with cap zero here = if nat_le (nat_abs here) (2 ^ 62) then Some (max cap (nat_abs here)) else None
cap_with cap (suc count) here = Some cap
