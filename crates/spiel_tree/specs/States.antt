-- The information states of rows, and their numbers.
use Rattle.std.specs.Prelude.{◌≡◌, ℕ, zero, suc, ◌+◌, ◌<◌, ◌≤◌, Bool, false, cond, List, [], ◌∷◌, ◌++◌, length, map, slice_index, slice_index_or, slice_set, Option, Some, None}
use Rattle.std.specs.Str.{bytes_eq}
use Rattle.spiel_api.specs.declared.place.Place.{Place}
use Rattle.spiel_api.specs.declared.place.Place.TheVariants.{End, Chance, Move, Joint}
use Rattle.spiel_tree.specs.FirstSeen.{first_seen, place_of_text}
use Rattle.spiel_tree.specs.Rows.{Row}
use Rattle.spiel_tree.specs.Flat.{moves, infos, row_at}

-- an information state: a player, and what that player sees
pub record InfoState : Type 0 where
  pub player : ℕ
  pub text : List ℕ

-- what a player sees at the player's moves, each once, in the order in which it is first seen
abbrev pub texts_seen : ℕ → List Row → List (List ℕ)
texts_seen p rows = first_seen [] (infos p rows)

-- the information states of the players below n: by player, and within a player as first seen
abbrev pub states_below : ℕ → List Row → List InfoState
states_below zero rows = []
states_below (suc n) rows = states_below n rows ++ map (λ text. record { player = n; text = text }) (texts_seen n rows)

-- the number of an information state among all
abbrev pub state_number : List Row → ℕ → List ℕ → ℕ
state_number rows p text = length (states_below p rows) + place_of_text (texts_seen p rows) text

-- the number at a place, where somebody moves
abbrev pub number_at : List Row → Place → List ℕ → Option ℕ
number_at rows End text = None
number_at rows Chance text = None
number_at rows (Move p) text = Some (state_number rows p text)
number_at rows (Joint p) text = None

-- the number of a row's information state
abbrev pub state_of : List Row → Row → Option ℕ
state_of rows row = number_at rows row.here.place row.here.info

-- does a player move at a row, and see this text?
abbrev pub decides : ℕ → List ℕ → Row → Bool
decides p text row = cond (moves p row.here.place) (bytes_eq text row.here.info) false

-- the first row of an information state, or the length where there is none
abbrev pub first_row : ℕ → List ℕ → List Row → ℕ
first_row p text [] = 0
first_row p text (row ∷ rest) = cond (decides p text row) 0 (suc (first_row p text rest))

abbrev pub no_state : InfoState
no_state = record { player = 0; text = [] }

-- the information state with a number, of so many players
abbrev pub state_at : ℕ → List Row → ℕ → InfoState
state_at players rows s = slice_index_or (states_below players rows) s no_state

-- where the numbers of each player begin, and last how many there are
pub record AreStarts (players : ℕ) (rows : List Row) (starts : List ℕ) : Type 0 where
  pub count : length starts ≡ suc players
  pub each : (p : ℕ) → p ≤ players → slice_index starts p ≡ length (states_below p rows)

-- the first row of each information state
pub record AreFirsts (players : ℕ) (rows : List Row) (firsts : List ℕ) : Type 0 where
  pub count : length firsts ≡ length (states_below players rows)
  pub each : (s : ℕ) → s < length (states_below players rows) → slice_index firsts s ≡ first_row (state_at players rows s).player (state_at players rows s).text rows

-- a table of rows by information state, after a row is noted at its own
abbrev pub noted : List ℕ → Option ℕ → ℕ → List ℕ
noted firsts None row = firsts
noted firsts (Some s) row = slice_set firsts s row

-- the numbers of the mover at an information state: those of its first row
abbrev pub numbers_of : ℕ → List Row → ℕ → List ℕ
numbers_of players rows s = (row_at rows (first_row (state_at players rows s).player (state_at players rows s).text rows)).here.numbers
