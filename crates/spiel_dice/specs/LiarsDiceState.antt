-- The game of some dice and sides, and the state that stands for a play of it.
use Rattle.std.specs.Prelude.{ℕ, ◌≤◌}
use Rattle.spiel_api.specs.Plays.{IsPlay}
use Rattle.spiel_dice.specs.declared.liars_dice.LiarsDice.{LiarsDice}
use Rattle.spiel_dice.specs.declared.liars_dice.LiarsDiceState.{LiarsDiceState}
use Rattle.spiel_dice.specs.LiarsDice.{liars_dice_rules}

-- each player has 1 to 5 dice of 2 to 20 sides
pub record IsWithinRange (dice sides : ℕ) : Type 0 where
  pub dice_low : 1 ≤ dice
  pub dice_high : dice ≤ 5
  pub sides_low : 2 ≤ sides
  pub sides_high : sides ≤ 20

-- the history is a play
pub record IsLiarsDiceAt (game : LiarsDice) (state : LiarsDiceState) : Type 0 where
  pub range : IsWithinRange game.dice game.sides
  pub play : IsPlay (liars_dice_rules game.dice game.sides) state.history
