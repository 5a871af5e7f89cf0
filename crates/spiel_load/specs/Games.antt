-- The games that have names. A game that joins them is a line in this table.
pub mod Dice
pub mod Gambit
pub mod Goofspiel
use Rattle.std.specs.Prelude.{ℕ, List, [], ◌∷◌, codes, Option, Some, None, Ok, Err, if◌then◌else◌}
use Rattle.std.specs.Str.{bytes_eq}
use Rattle.spiel_api.specs.Rules.{Rules}
use Rattle.spiel_board.specs.TicTacToe.{tic_tac_toe_rules}
use Rattle.spiel_matrix.specs.Matrix.{matrix_rules}
use Rattle.spiel_matrix.specs.Named.{named_parts}
use Rattle.spiel_matrix.specs.declared.named.Kind.TheVariants.{Pennies, Rps, Dilemma, Sexes}
use Rattle.spiel_poker.specs.Kuhn.{kuhn_rules}
use Rattle.spiel_poker.specs.Leduc.{leduc_rules}
use Rattle.spiel_io.specs.Plan.{Plan}
use Rattle.spiel_load.specs.Given.{Asked, Read, ◌>>=◌, only_keys, planned}
use Rattle.spiel_load.specs.Games.Dice.{liars_dice}
use Rattle.spiel_load.specs.Games.Gambit.{efg_game}
use Rattle.spiel_load.specs.Games.Goofspiel.{goofspiel}
use Rattle.spiel_load.specs.Params.{number_at}
use Rattle.spiel_load.specs.declared.fault.LoadFault.{LoadFault}
use Rattle.spiel_load.specs.declared.fault.LoadFault.TheVariants.{UnknownGame}

-- a game with no parameter, and one that says how many players it has, which are always 2
unfoldable pub alone : Rules → Asked → Read Rules
alone rules asked = only_keys asked [] >>= λ fine. Ok rules

unfoldable pub of_two : Rules → Asked → Read Rules
of_two rules asked = only_keys asked (codes "players" ∷ []) >>= λ fine. number_at asked (codes "players") 2 2 2 >>= λ players. Ok rules

-- names, and the rules of the game of each by what is given
abbrev pub Table : Type 0
Table = List (List ℕ × (Asked → Read Rules))

-- the games by their names
abbrev pub games : Table
games =
    (codes "goofspiel", goofspiel) ∷ (codes "kuhn_poker", of_two kuhn_rules) ∷ (codes "leduc_poker", of_two leduc_rules) ∷ (codes "liars_dice", liars_dice)
    ∷ (codes "matrix_bos", alone (matrix_rules (named_parts Sexes))) ∷ (codes "matrix_mp", alone (matrix_rules (named_parts Pennies)))
    ∷ (codes "matrix_pd", alone (matrix_rules (named_parts Dilemma))) ∷ (codes "matrix_rps", alone (matrix_rules (named_parts Rps)))
    ∷ (codes "tic_tac_toe", alone tic_tac_toe_rules) ∷ []

-- the rules of the game of these that has the name, by what is given, if one of them has it
unfoldable pub rules_among : Table → Asked → Read (Option Rules)
rules_among [] asked = Ok None
rules_among (entry ∷ entries) asked = if bytes_eq asked.name entry.0 then (entry.1 asked >>= λ rules. Ok (Some rules)) else rules_among entries asked

abbrev pub or_unknown : Asked → Option Rules → Read Rules
or_unknown asked None = Err (UnknownGame asked.name)
or_unknown asked (Some rules) = Ok rules

-- the rules of the game of these that has the name, by what is given
unfoldable pub rules_named : Table → Asked → Read Rules
rules_named entries asked = rules_among entries asked >>= or_unknown asked

-- the rules of the game that has the name, which stands in a file or is one of these
abbrev pub base_rules : Table → Asked → Plan Rules LoadFault
base_rules entries asked = if bytes_eq asked.name (codes "efg_game") then efg_game asked else planned (rules_named entries asked)
