-- Tic-tac-toe: two players mark the cells of a board of three by three in turn, and three cells in a line win.
-- The cells are numbered by rows, from 0 to 8. A history is the list of cells in the order in which they were marked.
use Rattle.std.specs.Prelude.{ℕ, zero, suc, ◌+◌, ◌-◌, ◌/◌, ◌%◌, ℤ, pos, negsuc, Bool, not, ◌||◌, List, [], ◌∷◌, ◌++◌, length, flat_map, codes, if◌then◌else◌, ◌==◌}
use Rattle.std.specs.List.{filter, list_any, list_all}
use Rattle.spiel_api.specs.Rules.{Rules}
use Rattle.spiel_api.specs.Turns.{Turns, turn_of, turn_rules}
use Rattle.spiel_api.specs.Walks.{is_in}

-- the cells of the board
unfoldable pub cells : List ℕ
cells = 0 ∷ 1 ∷ 2 ∷ 3 ∷ 4 ∷ 5 ∷ 6 ∷ 7 ∷ 8 ∷ []

-- the rows, the columns and the diagonals
abbrev pub lines : List (List ℕ)
lines =
    (0 ∷ 1 ∷ 2 ∷ []) ∷ (3 ∷ 4 ∷ 5 ∷ []) ∷ (6 ∷ 7 ∷ 8 ∷ [])
    ∷ (0 ∷ 3 ∷ 6 ∷ []) ∷ (1 ∷ 4 ∷ 7 ∷ []) ∷ (2 ∷ 5 ∷ 8 ∷ [])
    ∷ (0 ∷ 4 ∷ 8 ∷ []) ∷ (2 ∷ 4 ∷ 6 ∷ []) ∷ []

-- the cells that a player has marked: player 0 marks the first cell, and takes the part of player 1 in what follows
abbrev pub cells_of : ℕ → List ℕ → List ℕ
cells_of p [] = []
cells_of zero (cell ∷ rest) = cell ∷ cells_of 1 rest
cells_of (suc p) (cell ∷ rest) = cells_of p rest

-- all cells of some line are marked
unfoldable pub has_three : (ℕ → Bool) → Bool
has_three marked = list_any (λ line. list_all marked line) lines

-- a player has marked all cells of some line
abbrev pub has_line : ℕ → List ℕ → Bool
has_line p h = has_three (λ cell. is_in (cells_of p h) cell)

-- the cells that nobody has marked
abbrev pub free_cells : List ℕ → List ℕ
free_cells h = filter (λ cell. not (is_in h cell)) cells

-- somebody has a line, or the board is full
abbrev pub is_over : List ℕ → Bool
is_over h = has_line 0 h || has_line 1 h || length h == 9

-- a space, and the cell as a digit
abbrev pub move_text : ℕ → List ℕ
move_text cell = 32 ∷ (48 + cell) ∷ []

-- both players know all moves
abbrev pub tic_tac_toe_info : List ℕ → ℕ → List ℕ
tic_tac_toe_info h p = codes "moves" ++ flat_map move_text h

-- `x` for player 0 and `o` for player 1
abbrev pub mark : ℕ → ℕ
mark zero = 120
mark (suc p) = 111

-- the mark of the player, the row and the column, as `o(0,1)`
abbrev pub tic_tac_toe_name : List ℕ → ℕ → ℕ → List ℕ
tic_tac_toe_name h p cell = mark p ∷ codes "(" ++ (48 + cell / 3) ∷ codes "," ++ (48 + cell % 3) ∷ codes ")"

-- whoever has a line gets 1 from the other
abbrev pub tic_tac_toe_pay : List ℕ → ℕ → ℤ
tic_tac_toe_pay h p = if has_line p h then pos 1 else if has_line (1 - p) h then negsuc 0 else pos 0

-- player 0 begins, and the players mark free cells in turn until the play is over
abbrev pub tic_tac_toe_turns : Turns
tic_tac_toe_turns = record {
  players = 2;
  unit = 1;
  cap = 1;
  place = λ h. turn_of 2 (is_over h) h;
  numbers = free_cells;
  weights = λ h. [];
  info = tic_tac_toe_info;
  name = tic_tac_toe_name;
  pay = tic_tac_toe_pay;
}

abbrev pub tic_tac_toe_rules : Rules
tic_tac_toe_rules = turn_rules tic_tac_toe_turns
