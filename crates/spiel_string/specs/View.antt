-- The plain data that a `GameText` and a `ParamValue` stand for.
use Rattle.std.specs.Prelude.{ℕ, List, [], ◌∷◌, map}
use Rattle.spiel_string.specs.Game.{Game, game, Params, no_params, param, Value, int, flag, word, inner}
use Rattle.spiel_string.specs.declared.value.GameText.{GameText}
use Rattle.spiel_string.specs.declared.value.ParamValue.{ParamValue, fold-ParamValue}
use Rattle.spiel_string.specs.declared.value.ParamValue.TheOpen.{ParamValue-F, GameText-F}

abbrev pub params_of : List (List ℕ × Value) → Params
params_of [] = no_params
params_of (p ∷ ps) = param p.0 p.1 (params_of ps)

abbrev pub value_step : ParamValue-F Value Game → Value
value_step (ParamValue-F.Int n) = int n
value_step (ParamValue-F.Flag b) = flag b
value_step (ParamValue-F.Word w) = word w
value_step (ParamValue-F.Game g) = inner g.value

abbrev pub game_step : GameText-F Value Game → Game
game_step g = game g.name (params_of g.params)

-- what a parameter's value is
abbrev pub value_view : ParamValue → Value
value_view = fold-ParamValue Value Game value_step game_step

abbrev pub pair_view : List ℕ × ParamValue → List ℕ × Value
pair_view p = (p.0, value_view p.1)

-- what a list of parameters is
abbrev pub params_view : List (List ℕ × ParamValue) → Params
params_view ps = params_of (map pair_view ps)

-- what a game string's value is
abbrev pub view : GameText → Game
view g = game g.name (params_view g.params)
