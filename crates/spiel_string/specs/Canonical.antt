-- The canonical text of a game string's value.
use Rattle.std.specs.Prelude.{ℕ, zero, suc, true, false, List, [], ◌∷◌, ◌++◌, codes}
use Rattle.std.specs.Fmt.{signed_decimal}
use Rattle.spiel_string.specs.Game.{Game, game, Params, no_params, param, Value, int, flag, word, inner}
use Rattle.spiel_string.specs.Sorted.{sorted}

-- a key and the canonical text of its value
abbrev pub Entry : Type 0
Entry = List ℕ × List ℕ

-- the entries with `=` in each and a comma between two
abbrev pub joined : List Entry → List ℕ
joined [] = []
joined (entry ∷ []) = entry.0 ++ 61 ∷ entry.1
joined (entry ∷ next ∷ entries) = entry.0 ++ 61 ∷ (entry.1 ++ 44 ∷ joined (next ∷ entries))

-- the comma before the entry at a place
abbrev pub comma_at : ℕ → List ℕ
comma_at zero = []
comma_at (suc n) = 44 ∷ []

-- the name, and the entries between brackets in byte order of their keys
abbrev pub bracketed : List ℕ → List Entry → List ℕ
bracketed name entries = name ++ 40 ∷ (joined (sorted entries) ++ 41 ∷ [])

abbrev mutual
  pub value_text : Value → List ℕ
  value_text (int n) = signed_decimal n
  value_text (flag true) = codes "True"
  value_text (flag false) = codes "False"
  value_text (word text) = text
  value_text (inner g) = game_text g

  pub game_text : Game → List ℕ
  game_text (game name params) = bracketed name (params_entries params)

  pub params_entries : Params → List Entry
  params_entries no_params = []
  params_entries (param key value params) = (key, value_text value) ∷ params_entries params
