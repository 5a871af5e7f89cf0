-- Trees in preorder: behind a node stand its subtrees, one for each of its actions, in order.
use Rattle.std.specs.Prelude.{ℕ, zero, suc, ◌+◌, Bool, true, false, ◌&&◌, nat_le, List, [], ◌∷◌, ◌++◌, length, map, replicate}
use Rattle.std.specs.List.{list_all}
use Rattle.spiel_efg.specs.declared.parts.EfgSet.{EfgSet}
use Rattle.spiel_efg.specs.declared.parts.EfgNode.{EfgNode}
use Rattle.spiel_efg.specs.Sets.{action_count}

-- how many subtrees stand behind a node
abbrev pub subtrees : List EfgSet → EfgNode → ℕ
subtrees sets node = action_count sets node.kind

-- the same of each node
abbrev pub counts_of : List EfgSet → List EfgNode → List ℕ
counts_of sets nodes = map (subtrees sets) nodes

-- ---- which lists of nodes are trees
-- the nodes are exactly so many trees, one behind another
abbrev pub is_forest : ℕ → List ℕ → Bool
is_forest zero [] = true
is_forest zero (count ∷ counts) = false
is_forest (suc k) [] = false
is_forest (suc k) (count ∷ counts) = is_forest (count + k) counts

-- how many moves there are above each node, given how many there are above each tree that is still to come
abbrev pub depths : List ℕ → List ℕ → List ℕ
depths [] counts = []
depths (depth ∷ others) [] = []
depths (depth ∷ others) (count ∷ counts) = depth ∷ depths (replicate count (depth + 1) ++ others) counts

-- the most nodes, and the most moves on a path
abbrev pub most_nodes : ℕ
most_nodes = 1048576

abbrev pub most_moves : ℕ
most_moves = 1024

-- not too many moves on any path, given how many there are above each tree that is still to come
abbrev pub are_shallow : List ℕ → List ℕ → Bool
are_shallow waiting counts = list_all (λ depth. nat_le depth most_moves) (depths waiting counts)

abbrev pub is_shallow : List ℕ → Bool
is_shallow counts = are_shallow (0 ∷ []) counts

-- not too many nodes, which are exactly one tree, with not too many moves on any path
abbrev pub is_tree : List ℕ → Bool
is_tree counts = nat_le (length counts) most_nodes && (is_forest 1 counts && is_shallow counts)

-- ---- where a history leads
-- what is left of the nodes behind so many trees
abbrev pub behind : (EfgNode → ℕ) → ℕ → List EfgNode → List EfgNode
behind count zero nodes = nodes
behind count (suc k) [] = []
behind count (suc k) (node ∷ nodes) = behind count (count node + k) nodes

-- the nodes from the one on to which a history leads: action a leads over the first a subtrees
abbrev pub nodes_after : (EfgNode → ℕ) → List EfgNode → List ℕ → List EfgNode
nodes_after count nodes [] = nodes
nodes_after count [] (a ∷ h) = []
nodes_after count (node ∷ nodes) (a ∷ h) = nodes_after count (behind count a nodes) h
