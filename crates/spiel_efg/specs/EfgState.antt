-- When a state of an extensive game is sound.
use Rattle.std.specs.Prelude.{◌≡◌, ℕ, ◌-◌, List, [], ◌∷◌, length, drop}
use Rattle.spiel_api.specs.Plays.{IsPlay}
use Rattle.spiel_efg.specs.declared.efg.EfgState.{EfgState}
use Rattle.spiel_efg.specs.declared.parts.EfgNode.{EfgNode}
use Rattle.spiel_efg.specs.declared.parts.EfgParts.{EfgParts}
use Rattle.spiel_efg.specs.declared.parts.NodeKind.TheVariants.{Terminal}
use Rattle.spiel_efg.specs.Efg.{efg_rules}
use Rattle.spiel_efg.specs.Tree.{nodes_after, subtrees}

-- what stands where no node is
abbrev pub no_node : EfgNode
no_node = record { name = []; kind = Terminal; outcome = 0 }

-- the places of the nodes above the one to which a history leads, where so many nodes stand in all
abbrev pub places_above : (EfgNode → ℕ) → ℕ → List EfgNode → List ℕ → List ℕ
places_above count total nodes [] = []
places_above count total nodes (a ∷ h) = (total - length nodes) ∷ places_above count total (nodes_after count nodes (a ∷ [])) h

-- the history is a play, and leads to the node at the place, with the places of the others above it
pub record IsEfgAt (parts : EfgParts) (state : EfgState) : Type 0 where
  pub play : IsPlay (efg_rules parts) state.history
  pub node : drop state.place parts.nodes ≡ nodes_after (subtrees parts.sets) parts.nodes state.history
  pub above : state.above ≡ places_above (subtrees parts.sets) (length parts.nodes) parts.nodes state.history
