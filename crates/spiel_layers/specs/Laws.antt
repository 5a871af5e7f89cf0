-- What is proved of games that are made of others, beside that they keep the laws.
use Rattle.std.specs.Prelude.{◌≡◌, ℕ, ◌+◌, ◌*◌, ◌<◌, ◌≤◌, ◌+ℤ◌, List, ◌++◌, length, take, drop, ◌↔◌}
use Rattle.spiel_api.specs.declared.place.Place.TheVariants.{End, Move, Joint}
use Rattle.spiel_api.specs.Rules.{Rules}
use Rattle.spiel_api.specs.Plays.{IsPlay}
use Rattle.spiel_layers.specs.StartAt.{start_at_rules}
use Rattle.spiel_layers.specs.TurnBased.{turn_based_rules}
use Rattle.spiel_layers.specs.Repeated.{repeated_rules}

-- the plays behind a prefix are what follows it in plays of the inner game
abbrev pub GoesOnBehind : Rules → List ℕ → Type 0
GoesOnBehind inner prefix = (h : List ℕ) → (IsPlay (start_at_rules prefix inner) h ↔ IsPlay inner (prefix ++ h))

-- the numbers of round j, where each round has n numbers
abbrev pub round_of : ℕ → ℕ → List ℕ → List ℕ
round_of n j h = take n (drop (j * n) h)

-- a repeated game is its stage, one round behind another
pub record HasRounds (stage : Rules) (times : ℕ) : Type 0 where
  -- each whole round of a play is a whole play of the stage
  pub split : (h : List ℕ) (j : ℕ) → IsPlay (repeated_rules times stage) h → j < times → j * stage.players + stage.players ≤ length h → IsPlay stage (round_of stage.players j h) × (stage.place (round_of stage.players j h) ≡ End)
  -- behind whole rounds, while there is another, each play of the stage may follow
  pub joined : (h piece : List ℕ) (j : ℕ) → IsPlay (repeated_rules times stage) h → length h ≡ j * stage.players → j < times → IsPlay stage piece → IsPlay (repeated_rules times stage) (h ++ piece)
  -- a play is over exactly where it has all rounds
  pub over : (h : List ℕ) → IsPlay (repeated_rules times stage) h → (((repeated_rules times stage).place h ≡ End) ↔ (length h ≡ times * stage.players))
  -- a round more adds its return
  pub paid : (h piece : List ℕ) (p : ℕ) → length h ≡ times * stage.players → length piece ≡ stage.players → (repeated_rules (times + 1) stage).pay (h ++ piece) p ≡ (repeated_rules times stage).pay h p +ℤ stage.pay piece p

-- who moves in what was a joint step knows none of its choices
pub record HidesChoices (inner : Rules) : Type 0 where
  -- the plays are those of the inner game
  pub plays : (h : List ℕ) → (IsPlay (turn_based_rules inner) h ↔ IsPlay inner h)
  -- behind some choices of the step the next player moves
  pub moves : (h step : List ℕ) → IsPlay inner (h ++ step) → inner.place h ≡ Joint 0 → length step < inner.players → (turn_based_rules inner).place (h ++ step) ≡ Move (length step)
  -- and sees what was seen before the step
  pub hides : (h step : List ℕ) → IsPlay inner (h ++ step) → inner.place h ≡ Joint 0 → length step < inner.players → (turn_based_rules inner).info (h ++ step) (length step) ≡ inner.info h (length step)
