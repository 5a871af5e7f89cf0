-- Responses while they are made, and when they are made.
use Rattle.std.specs.Prelude.{◌≡◌, ℕ, suc, ◌<◌, ◌≤◌, Bool, true, false, List, length, slice_index, slice_index_or, ℤ, pos}
use Rattle.spiel_response.specs.Values.{Judged}
use Rattle.spiel_response.specs.Weighed.{IsWork}
use Rattle.spiel_response.specs.Responses.{IsFirstBest}
use Rattle.spiel_response.specs.BestResponses.{best_value, count_at, first_state, player_leaves, response}
use Rattle.spiel_response.specs.Slots.{IsOwnSlot, gathered, index_of}
use Rattle.spiel_response.specs.SlotTable.{slot_count, slot_start, state_count}

-- A player's response is made at the information states from b on, and what it earns there has gone to
-- the slots before them.
pub record IsPassed (j : Judged) (p b : ℕ) (sums : List ℤ) (answers : List ℕ) : Type 0 where
  pub sums_are : (k : ℕ) → IsOwnSlot p (slot_start j) (first_state j p) k → k < slot_start j b
      → slice_index_or sums k (pos 0) ≡ gathered p (slot_start j) (index_of answers) b k (player_leaves j p)
  pub rule : (i : ℕ) → b ≤ i → i < first_state j (suc p) → IsFirstBest (index_of answers) (player_leaves j p) i (count_at j i)

-- there is room for each slot and each information state
pub record HasRoom (j : Judged) (sums : List ℤ) (answers : List ℕ) : Type 0 where
  pub sums_count : length sums ≡ slot_count j
  pub answers_count : length answers ≡ state_count j

-- the answers to a player's information states are those of the response
abbrev pub AreAnswers : Judged → ℕ → List ℕ → Type 0
AreAnswers j p answers = (i : ℕ) → first_state j p ≤ i → i < first_state j (suc p) → slice_index answers i ≡ response j p i

-- the answers to all other information states stayed
abbrev pub OthersStay : Judged → ℕ → List ℕ → List ℕ → Type 0
OthersStay j p old new = (i : ℕ) → (first_state j p ≤ i → i < first_state j (suc p) → ⊥) → slice_index new i ≡ slice_index old i

-- A tree and a profile, with the players whose response is made.
pub record Solving : Type 0 where
  pub judged : Judged
  pub made : List Bool

-- is the response of a player made?
abbrev pub is_made : Solving → ℕ → Bool
is_made s p = slice_index_or s.made p false

-- what is kept of each response that is made
pub record IsAnswered (s : Solving) (earned : List ℤ) (answers : List ℕ) (sums : List ℤ) : Type 0 where
  pub made_count : length s.made ≡ s.judged.tree.players
  pub earned_count : length earned ≡ s.judged.tree.players
  pub room : HasRoom s.judged sums answers
  pub earned_is : (p : ℕ) → p < s.judged.tree.players → is_made s p ≡ true → slice_index_or earned p (pos 0) ≡ best_value s.judged p
  pub answers_are : (p : ℕ) → p < s.judged.tree.players → is_made s p ≡ true → AreAnswers s.judged p answers

-- what a work keeps
pub record IsSolving (s : Solving) (total : ℤ) (values earned : List ℤ) (answers : List ℕ) (sums : List ℤ) : Type 0 where
  pub work : IsWork s.judged total values
  pub answered : IsAnswered s earned answers sums
