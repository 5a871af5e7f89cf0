-- Sets and outcomes in the order in which nodes first mention them.
use Rattle.std.specs.Prelude.{ℕ, ◌+◌, Bool, true, false, ◌&&◌, ◌==◌, nat_lt, if◌then◌else◌, List, [], ◌∷◌, ◌++◌, length, map, fold}
use Rattle.std.specs.List.{filter_map, list_any, position_or_len, range_with_len}
use Rattle.std.specs.declared.option.Option.{Option}
use Rattle.std.specs.declared.option.Option.TheVariants.{Some, None}
use Rattle.spiel_efg.specs.declared.parts.EfgSet.{EfgSet}
use Rattle.spiel_efg.specs.declared.parts.EfgNode.{EfgNode}
use Rattle.spiel_efg.specs.declared.parts.EfgOutcome.{EfgOutcome}
use Rattle.spiel_efg.specs.declared.parts.NodeKind.{NodeKind}
use Rattle.spiel_efg.specs.declared.parts.NodeKind.TheVariants.{Chance, Personal, Terminal}

abbrev pub are_equal : List ℕ → List ℕ → Bool
are_equal [] [] = true
are_equal [] (y ∷ ys) = false
are_equal (x ∷ xs) [] = false
are_equal (x ∷ xs) (y ∷ ys) = (x == y) && are_equal xs ys

-- a number goes last if it wasn't seen
abbrev pub with_number : List ℕ → ℕ → List ℕ
with_number seen number = if list_any (λ x. number == x) seen then seen else (seen ++ number ∷ [])

-- the numbers that were seen, and behind them those that come, each once
abbrev pub first_mentions : List ℕ → List ℕ → List ℕ
first_mentions seen numbers = fold with_number seen numbers

-- the first place of a number, which is the length where it isn't there
abbrev pub place_of : List ℕ → ℕ → ℕ
place_of numbers number = position_or_len (λ x. number == x) numbers

-- ---- sets
-- the place of the set that a node of this kind mentions
abbrev pub set_of : NodeKind → Option ℕ
set_of (Chance place) = Some place
set_of (Personal place) = Some place
set_of Terminal = None

-- the places that nodes mention, in order
abbrev pub sets_in : List EfgNode → List ℕ
sets_in nodes = filter_map (λ node. set_of node.kind) nodes

-- every set is mentioned, and they stand in the order of first mention
abbrev pub are_sets_in_order : List EfgSet → List EfgNode → Bool
are_sets_in_order sets nodes = are_equal (first_mentions [] (sets_in nodes)) (range_with_len 0 (length sets))

-- ---- outcomes
-- every outcome is mentioned, and they stand in the order of first mention; 0, which is no outcome, counts as seen.
-- So no two have the same number, none has the number 0, and a node's outcome is 0 or one of them.
abbrev pub are_outcomes_in_order : List EfgOutcome → List EfgNode → Bool
are_outcomes_in_order outcomes nodes =
    are_equal (first_mentions (0 ∷ []) (map (λ node. node.outcome) nodes)) (0 ∷ map (λ outcome. outcome.number) outcomes)

-- ---- on the way there
-- so many sets were seen, and then a place is mentioned: it is one of theirs, or the next
abbrev pub place_after : ℕ → ℕ → Option ℕ
place_after seen place = if nat_lt place seen then Some seen else (if place == seen then Some (seen + 1) else None)

abbrev pub seen_after : ℕ → NodeKind → Option ℕ
seen_after seen (Chance place) = place_after seen place
seen_after seen (Personal place) = place_after seen place
seen_after seen Terminal = Some seen

-- the first of these numbers is this one
abbrev pub begins_with : List ℕ → ℕ → Bool
begins_with [] number = false
begins_with (first ∷ rest) number = first == number
