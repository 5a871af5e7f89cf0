-- The rows of a game: what stands at each history, and the way that leads to it. Above the rows no
-- definition speaks of a game.
use Rattle.std.specs.Prelude.{ℕ, zero, suc, ◌==◌, List, [], ◌∷◌, ◌++◌, map, slice_index, ℤ, if◌then◌else◌}
use Rattle.spiel_api.specs.declared.place.Place.{Place}
use Rattle.spiel_api.specs.declared.place.Place.TheVariants.{End, Chance, Move, Joint}
use Rattle.spiel_api.specs.Rules.{Rules, next_of}
use Rattle.spiel_tree.specs.Histories.{histories_from}

-- what stands at a history
pub record Node : Type 0 where
  -- whose number is next
  pub place : Place
  -- at a move, the mover's information text
  pub info : List ℕ
  -- the numbers that are legal for whoever is next
  pub numbers : List ℕ
  -- at a chance node, the weight of each
  pub weights : List ℕ
  -- at the end, the return of each player
  pub pays : List ℤ

-- a step of a way: where a number was taken, and its place among those that were legal
pub record Step : Type 0 where
  pub at : Node
  pub index : ℕ

-- a history: the way to it, and what stands there
pub record Row : Type 0 where
  pub way : List Step
  pub here : Node

-- the numbers that were taken on a way
abbrev pub taken : Step → ℕ
taken step = slice_index step.at.numbers step.index

abbrev pub history_of : Row → List ℕ
history_of row = map taken row.way

-- the way to what follows a row by the number at an index
abbrev pub way_on : Row → ℕ → List Step
way_on row index = row.way ++ record { at = row.here; index = index } ∷ []

-- the returns of the players below n
abbrev pub pays_below : (ℕ → ℤ) → ℕ → List ℤ
pays_below pay zero = []
pays_below pay (suc n) = pays_below pay n ++ pay n ∷ []

abbrev pub info_at : Place → (ℕ → List ℕ) → List ℕ
info_at End info = []
info_at Chance info = []
info_at (Move p) info = info p
info_at (Joint p) info = []

abbrev pub weights_at : Place → List ℕ → List ℕ
weights_at End weights = []
weights_at Chance weights = weights
weights_at (Move p) weights = []
weights_at (Joint p) weights = []

abbrev pub pays_at : Place → List ℤ → List ℤ
pays_at End pays = pays
pays_at Chance pays = []
pays_at (Move p) pays = []
pays_at (Joint p) pays = []

-- what stands at a history of a game
abbrev pub node_of : Rules → List ℕ → Node
node_of rules h = record {
  place = rules.place h;
  info = info_at (rules.place h) (rules.info h);
  numbers = next_of rules h;
  weights = weights_at (rules.place h) (rules.weights h);
  pays = pays_at (rules.place h) (pays_below (rules.pay h) rules.players);
}

-- the first place of a number in a list
abbrev pub place_of_number : List ℕ → ℕ → ℕ
place_of_number [] a = 0
place_of_number (x ∷ xs) a = if x == a then 0 else suc (place_of_number xs a)

-- the way that the numbers of a list take, after the history h
abbrev pub way_from : Rules → List ℕ → List ℕ → List Step
way_from rules h [] = []
way_from rules h (a ∷ rest) = record { at = node_of rules h; index = place_of_number (next_of rules h) a } ∷ way_from rules (h ++ a ∷ []) rest

-- the row of a history
abbrev pub row_of : Rules → List ℕ → Row
row_of rules h = record { way = way_from rules [] h; here = node_of rules h }

-- the rows of all histories that go on from h
abbrev pub rows_from : Rules → List ℕ → List Row
rows_from rules h = map (row_of rules) (histories_from rules h)

-- the rows of a game, in preorder
abbrev pub rows : Rules → List Row
rows rules = rows_from rules []
