-- The game that a game string names, or the first that is wrong with the string or with the file of the game.
use Rattle.std.specs.Prelude.{ℕ, zero, suc, List, Option, Some, None, Ok, Err}
use Rattle.std.specs.Option.{option_map}
use Rattle.spiel_io.specs.Plan.{Plan, Refuse, ◌>>=◌}
use Rattle.spiel_api.specs.Rules.{Rules}
use Rattle.spiel_api.specs.Walks.{walk_fault}
use Rattle.spiel_layers.specs.Misere.{misere_rules}
use Rattle.spiel_layers.specs.Repeated.{repeat_fault, repeated_rules}
use Rattle.spiel_layers.specs.StartAt.{start_at_rules}
use Rattle.spiel_layers.specs.TurnBased.{turn_based_rules}
use Rattle.spiel_string.specs.Game.{Game}
use Rattle.spiel_load.specs.Games.{base_rules, games}
use Rattle.spiel_load.specs.Given.{Asked, Read, asked_by, planned}
use Rattle.spiel_load.specs.Transforms.{taken_by, transform_of}
use Rattle.spiel_load.specs.declared.fault.LoadFault.{LoadFault}
use Rattle.spiel_load.specs.declared.fault.LoadFault.TheVariants.{TooDeep, Repeat, Start}
use Rattle.spiel_load.specs.declared.transforms.Layering.{Layering}
use Rattle.spiel_load.specs.declared.transforms.Layering.TheVariants.{Misere, Repeated, StartAt, TurnBased}
use Rattle.spiel_load.specs.declared.transforms.Transform.{Transform}

-- the rules, unless there is a fault
abbrev pub unless_fault : Rules → Option LoadFault → Read Rules
unless_fault rules None = Ok rules
unless_fault rules (Some fault) = Err fault

-- rounds of a stage, and the game behind some first numbers, or why there is none
abbrev pub repeated_or : ℕ → Rules → Read Rules
repeated_or times stage = unless_fault (repeated_rules times stage) (option_map Repeat (repeat_fault stage times))

abbrev pub start_at_or : List ℕ → Rules → Read Rules
start_at_or prefix rules = unless_fault (start_at_rules prefix rules) (option_map Start (walk_fault rules prefix))

-- what a transform makes of a game, or its fault
abbrev pub layered : Layering → Rules → Read Rules
layered Misere rules = Ok (misere_rules rules)
layered (Repeated times) rules = repeated_or times rules
layered (StartAt prefix) rules = start_at_or prefix rules
layered TurnBased rules = Ok (turn_based_rules rules)

-- a transform looks at what is given to itself, then at the inner game, and then whether that can be transformed
unfoldable pub transformed : (Asked → Plan Rules LoadFault) → Asked → Transform → Plan Rules LoadFault
transformed inner_rules asked transform =
    planned (taken_by transform asked) >>= λ taken. inner_rules taken.1 >>= λ rules. planned (layered taken.0 rules)

-- what a name says: a transform, or else a game of the table or of a file
abbrev pub named_by : (Transform → Plan Rules LoadFault) → Asked → Option Transform → Plan Rules LoadFault
named_by under asked None = base_rules games asked
named_by under asked (Some transform) = under transform

-- The rules of the game that is asked for, where there is room for so many transforms. The checks come in this order: the
-- name, whether there is room for the transform, a key that the game hasn't, a value out of its range, a parameter that is
-- missing, the inner game with all its checks, the file, the transform's own fault.
unfoldable pub named_within : ℕ → Asked → Plan Rules LoadFault
named_within zero asked = named_by (λ transform. Refuse TooDeep) asked (transform_of asked.name)
named_within (suc room) asked = named_by (transformed (named_within room) asked) asked (transform_of asked.name)

-- the rules of the game that a string names, under at most three transforms
abbrev pub named_game : Game → Plan Rules LoadFault
named_game text = named_within 3 (asked_by text)
