-- Which parts make an extensive game.
use Rattle.std.specs.Prelude.{ℕ, ◌^◌, Bool, true, false, ◌&&◌, ◌==◌, nat_le, nat_lt, List, length, is_none, Option, Some, None}
use Rattle.std.specs.List.{list_all}
use Rattle.spiel_efg.specs.declared.parts.EfgSet.{EfgSet}
use Rattle.spiel_efg.specs.declared.parts.EfgNode.{EfgNode}
use Rattle.spiel_efg.specs.declared.parts.EfgOutcome.{EfgOutcome}
use Rattle.spiel_efg.specs.declared.parts.EfgParts.{EfgParts}
use Rattle.spiel_efg.specs.declared.parts.NodeKind.{NodeKind}
use Rattle.spiel_efg.specs.declared.parts.NodeKind.TheVariants.{Chance, Personal, Terminal}
use Rattle.spiel_efg.specs.Sets.{have_own_numbers, is_set, set_at}
use Rattle.spiel_efg.specs.Tree.{counts_of, is_tree}
use Rattle.spiel_efg.specs.Mentions.{are_outcomes_in_order, are_sets_in_order}
use Rattle.spiel_efg.specs.EfgPays.{are_pays_fine}

-- there are 1 to 64 players
abbrev pub is_player_count : ℕ → Bool
is_player_count players = nat_le 1 players && nat_le players 64

-- a mover is one of so many players
abbrev pub is_among : ℕ → Option ℕ → Bool
is_among players None = false
is_among players (Some player) = nat_lt player players

-- a node's set is there, and it is one of chance, or of a player, as the node is
abbrev pub is_kind : ℕ → List EfgSet → NodeKind → Bool
is_kind players sets (Chance place) = nat_lt place (length sets) && is_none (set_at sets place).player
is_kind players sets (Personal place) = nat_lt place (length sets) && is_among players (set_at sets place).player
is_kind players sets Terminal = true

-- the sets have actions, weights and numbers that are right, and nodes mention them in order
abbrev pub are_sets : ℕ → List EfgSet → List EfgNode → Bool
are_sets players sets nodes =
    list_all is_set sets
    && (have_own_numbers sets && (list_all (λ node. is_kind players sets node.kind) nodes && are_sets_in_order sets nodes))

-- an outcome has a number of 32 bits, and a payoff for each player
abbrev pub is_outcome : ℕ → EfgOutcome → Bool
is_outcome players outcome = nat_lt outcome.number (2 ^ 32) && (length outcome.pays == players)

-- outcomes have numbers and payoffs that are right, and nodes mention them in order
abbrev pub are_outcomes : ℕ → List EfgOutcome → List EfgNode → Bool
are_outcomes players outcomes nodes = list_all (is_outcome players) outcomes && are_outcomes_in_order outcomes nodes

-- all but the sizes of payoffs is right
abbrev pub has_form : EfgParts → Bool
has_form parts =
    is_player_count (length parts.players)
    && (are_sets (length parts.players) parts.sets parts.nodes
    && (is_tree (counts_of parts.sets parts.nodes) && are_outcomes (length parts.players) parts.outcomes parts.nodes))

-- the parts are those of a game
abbrev pub is_sound : EfgParts → Bool
is_sound parts = has_form parts && are_pays_fine parts
