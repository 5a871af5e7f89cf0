-- Sums by the last own step. There is a slot for each player, for the leaves to which the player takes no
-- step, and one for each index at each information state.
use Rattle.std.specs.Prelude.{◌≡◌, ℕ, suc, ◌+◌, ◌<◌, ◌≤◌, cond, ◌&&◌, List, [], ◌∷◌, ℤ, pos, ◌==◌, nat_lt, slice_index, ◌⊎◌}
use Rattle.spiel_response.specs.Values.{sum_over}
use Rattle.spiel_response.specs.Responses.{Leaf, OwnStep, follows}

-- the slot of a step, where `start` gives the slot of the first index at each state
abbrev pub key : (ℕ → ℕ) → OwnStep → ℕ
key start s = start s.state + s.index

-- the slot of the last of the steps before the state b, or `last` where there is none
abbrev pub slot_from : (ℕ → ℕ) → ℕ → ℕ → List OwnStep → ℕ
slot_from start b last [] = last
slot_from start b last (s ∷ rest) = cond (nat_lt s.state b) (slot_from start b (key start s) rest) last

-- the slot of the last step of all
abbrev pub last_slot : (ℕ → ℕ) → ℕ → List OwnStep → ℕ
last_slot start last [] = last
last_slot start last (s ∷ rest) = last_slot start (key start s) rest

-- the steps from the state b on
abbrev pub beyond : ℕ → List OwnStep → List OwnStep
beyond b [] = []
beyond b (s ∷ rest) = cond (nat_lt s.state b) (beyond b rest) (s ∷ rest)

-- the sum over the leaves whose last step before b has the slot k, and whose steps from b on follow d
abbrev pub gathered : ℕ → (ℕ → ℕ) → (ℕ → ℕ) → ℕ → ℕ → List Leaf → ℤ
gathered root start d b k leaves = sum_over (λ z. cond ((slot_from start b root z.steps == k) && follows d (beyond b z.steps)) z.pay (pos 0)) leaves

-- the sum over the leaves whose last step has the slot k
abbrev pub last_sum : ℕ → (ℕ → ℕ) → ℕ → List Leaf → ℤ
last_sum root start k leaves = sum_over (λ z. cond (last_slot start root z.steps == k) z.pay (pos 0)) leaves

-- the slots of each state follow those of the state before it, behind the player's
pub record AreStarts (root : ℕ) (start count : ℕ → ℕ) (low high : ℕ) : Type 0 where
  pub first : root < start low
  pub next : (i : ℕ) → low ≤ i → i < high → start (suc i) ≡ start i + count i

-- a slot of the player: that of no step, or one of the player's information states on
abbrev pub IsOwnSlot : ℕ → (ℕ → ℕ) → ℕ → ℕ → Type 0
IsOwnSlot root start low k = (k ≡ root) ⊎ (start low ≤ k)

-- the index that a list gives each state
abbrev pub index_of : List ℕ → ℕ → ℕ
index_of answers i = slice_index answers i
