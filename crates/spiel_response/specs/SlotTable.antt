-- The leaves of a tree, summed by the last own step of each player.
use Rattle.std.specs.Prelude.{◌≡◌, ℕ, zero, suc, ◌+◌, ◌<◌, ◌≤◌, true, List, length, map, take, slice_index, slice_index_or, ℤ, pos, ◌+ℤ◌}
use Rattle.spiel_tree.specs.Rows.{Row}
use Rattle.spiel_tree.specs.Flat.{moves, row_at}
use Rattle.spiel_tree.specs.States.{state_number, states_below}
use Rattle.spiel_response.specs.Reach.{leaves}
use Rattle.spiel_response.specs.Values.{Judged, NumbersFit}
use Rattle.spiel_response.specs.Weighed.{IsJudgeable}
use Rattle.spiel_response.specs.Responses.{sum_below}
use Rattle.spiel_response.specs.BestResponses.{count_at, own_leaf, own_steps, player_leaves}
use Rattle.spiel_response.specs.Slots.{last_slot, last_sum}

-- how many information states there are
abbrev pub state_count : Judged → ℕ
state_count j = length (states_below j.tree.players j.tree.rows)

-- Slots: one for each player, and behind them one for each index at each information state, in order.
-- This is the slot of a state's first index.
abbrev pub slot_start : Judged → ℕ → ℕ
slot_start j i = j.tree.players + sum_below (count_at j) i

abbrev pub slot_count : Judged → ℕ
slot_count j = slot_start j (state_count j)

-- the slot of a player's last own step on the way to a row, or the player's where there is none
abbrev pub own_slot : Judged → ℕ → Row → ℕ
own_slot j p row = last_slot (slot_start j) p (own_steps j.tree.rows p row.way)

-- the sum over the leaves of a player with this slot
abbrev pub collected : Judged → ℕ → ℕ → ℤ
collected j p k = last_sum p (slot_start j) k (player_leaves j p)

-- the same for the players below n
abbrev pub collected_below : Judged → ℕ → ℕ → ℤ
collected_below j zero k = pos 0
collected_below j (suc n) k = collected_below j n k +ℤ collected j n k

-- what the leaves before the history at n bring to a slot
abbrev pub collected_before : Judged → ℕ → ℕ → ℕ → ℤ
collected_before j p k n = last_sum p (slot_start j) k (map (own_leaf j p) (leaves (take n j.tree.rows)))

-- where the slots of each state begin, and last how many there are
pub record AreSlotStarts (j : Judged) (starts : List ℕ) : Type 0 where
  pub count : length starts ≡ suc (state_count j)
  pub each : (i : ℕ) → i ≤ state_count j → slice_index starts i ≡ slot_start j i

-- the sums of the players below n
pub record AreCollected (j : Judged) (n : ℕ) (sums : List ℤ) : Type 0 where
  pub count : length sums ≡ slot_count j
  pub each : (k : ℕ) → k < slot_count j → slice_index_or sums k (pos 0) ≡ collected_below j n k

-- the sums of the players below p, and of p those of the leaves before the history at n
abbrev pub AreCollectedBefore : Judged → ℕ → ℕ → List ℤ → Type 0
AreCollectedBefore j p n sums = (k : ℕ) → k < slot_count j → slice_index_or sums k (pos 0) ≡ collected_below j p k +ℤ collected_before j p k n

-- a slot is that before an information state of a player: that of each row of the state
abbrev pub IsParentSlot : Judged → ℕ → ℕ → ℕ → Type 0
IsParentSlot j p i slot = (k : ℕ) → k < length j.tree.rows → moves p (row_at j.tree.rows k).here.place ≡ true
    → state_number j.tree.rows p (row_at j.tree.rows k).here.info ≡ i → slot ≡ own_slot j p (row_at j.tree.rows k)

-- those before the information states of the players below n
pub record AreParentSlots (j : Judged) (n : ℕ) (parents : List ℕ) : Type 0 where
  pub count : length parents ≡ state_count j
  pub each : (p i : ℕ) → p < n → IsParentSlot j p i (slice_index parents i)

-- and of the player n those at the rows before the history at m
pub record AreParentSlotsBefore (j : Judged) (n m : ℕ) (parents : List ℕ) : Type 0 where
  pub others : AreParentSlots j n parents
  pub own : (k : ℕ) → k < m → k < length j.tree.rows → moves n (row_at j.tree.rows k).here.place ≡ true
      → slice_index parents (state_number j.tree.rows n (row_at j.tree.rows k).here.info) ≡ own_slot j n (row_at j.tree.rows k)

-- what the responses of the players below n are made from
pub record AreSlotSums (j : Judged) (n : ℕ) (starts : List ℕ) (sums : List ℤ) (parents : List ℕ) : Type 0 where
  pub starts_are : AreSlotStarts j starts
  pub sums_are : AreCollected j n sums
  pub parents_are : AreParentSlots j n parents

-- what those of all players are
pub record IsSlotTable (j : Judged) (starts : List ℕ) (sums : List ℤ) (parents : List ℕ) : Type 0 where
  pub judgeable : IsJudgeable j
  pub fit : NumbersFit j
  pub all : AreSlotSums j j.tree.players starts sums parents
