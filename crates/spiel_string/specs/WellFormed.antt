-- Which values are well formed: those that a text of the grammar has, if it is no longer than a text
-- may be.
use Rattle.std.specs.Prelude.{◌≡◌, ◌<◌, ◌≤◌, ◌^◌, ℕ, suc, max, true, false, List, None, unsigned_abs}
use Rattle.std.specs.Ordering.{nat_cmp}
use Rattle.std.specs.Cmp.Lexicographic.{slice_cmp}
use Rattle.std.specs.declared.cmp.Ordering.TheVariants.{Less}
use Rattle.spiel_string.specs.Game.{Game, game, Params, no_params, param, Value, int, flag, word, inner}
use Rattle.spiel_string.specs.Alphabet.{is_name, is_word}
use Rattle.spiel_string.specs.Values.{whole_of, is_true, is_false}
use Rattle.spiel_string.specs.Reading.{most_brackets}

-- the keys rise strictly in byte order, and the first is above this one
abbrev pub RisesFrom : List ℕ → Params → Type 0
RisesFrom key no_params = Unit {0}
RisesFrom key (param next value params) = (slice_cmp nat_cmp key next ≡ Less) × RisesFrom next params

-- the keys rise strictly in byte order
abbrev pub Rises : Params → Type 0
Rises no_params = Unit {0}
Rises (param key value params) = RisesFrom key params

-- names are names, keys are names in order, whole numbers have at most 18 digits, and a word reads
-- neither as a number nor as a flag
abbrev mutual
  pub IsWellValue : Value → Type 0
  IsWellValue (int n) = unsigned_abs n < 10 ^ 18
  IsWellValue (flag b) = Unit {0}
  IsWellValue (word text) = (is_word text ≡ true) × (whole_of text ≡ None) × (is_true text ≡ false) × (is_false text ≡ false)
  IsWellValue (inner g) = IsWell g

  pub IsWell : Game → Type 0
  IsWell (game name params) = (is_name name ≡ true) × Rises params × AreWell params

  pub AreWell : Params → Type 0
  AreWell no_params = Unit {0}
  AreWell (param key value params) = (is_name key ≡ true) × IsWellValue value × AreWell params

-- how deep the brackets of the canonical text nest
abbrev mutual
  pub value_depth : Value → ℕ
  value_depth (int n) = 0
  value_depth (flag b) = 0
  value_depth (word text) = 0
  value_depth (inner g) = game_depth g

  pub game_depth : Game → ℕ
  game_depth (game name params) = suc (params_depth params)

  pub params_depth : Params → ℕ
  params_depth no_params = 0
  params_depth (param key value params) = max (value_depth value) (params_depth params)

pub record IsWellFormed (g : Game) : Type 0 where
  pub well : IsWell g
  pub shallow : game_depth g ≤ most_brackets

-- a fact of a game and of each game inside it
abbrev mutual
  pub EachGame : (Game → Type 0) → Game → Type 0
  EachGame P (game name params) = P (game name params) × EachGameIn P params

  pub EachGameIn : (Game → Type 0) → Params → Type 0
  EachGameIn P no_params = Unit {0}
  EachGameIn P (param key value params) = EachGameOf P value × EachGameIn P params

  pub EachGameOf : (Game → Type 0) → Value → Type 0
  EachGameOf P (inner g) = EachGame P g
  EachGameOf P value = Unit {0}
