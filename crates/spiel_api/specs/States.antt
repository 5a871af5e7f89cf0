-- What a state stands for, and what a joint step takes.
use Rattle.std.specs.Prelude.{◌≡◌, ℕ, ◌<◌, List, length, slice_index}
use Rattle.std.specs.List.{Contains}
use Rattle.spiel_api.specs.Rules.{Rules}

-- the state is sound, and stands for this history
pub record StandsFor {State : Type 0} (is_at : State → Type 0) (history_of : State → List ℕ) (state : State) (h : List ℕ) : Type 0 where
  pub sound : is_at state
  pub history : history_of state ≡ h

-- one legal number for each player, in player order
pub record IsJointChoice (rules : Rules) (h actions : List ℕ) : Type 0 where
  pub count : length actions ≡ rules.players
  pub each : (p : ℕ) → p < rules.players → Contains (rules.legal h p) (slice_index actions p)
