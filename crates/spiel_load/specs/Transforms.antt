-- The transforms by their names, what they take, and what they make.
use Rattle.std.specs.Prelude.{ℕ, List, [], ◌∷◌, codes, Option, Some, None, Ok, if◌then◌else◌}
use Rattle.std.specs.Str.{bytes_eq}
use Rattle.spiel_load.specs.Given.{Asked, Read, ◌>>=◌, only_keys, optional, required}
use Rattle.spiel_load.specs.Params.{game_in, history_at, number_in}
use Rattle.spiel_load.specs.declared.transforms.Layering.{Layering}
use Rattle.spiel_load.specs.declared.transforms.Layering.TheVariants as with
use Rattle.spiel_load.specs.declared.transforms.Transform.{Transform}
use Rattle.spiel_load.specs.declared.transforms.Transform.TheVariants.{Misere, Repeated, StartAt, TurnBased}

-- the transform of a name
unfoldable pub transform_of : List ℕ → Option Transform
transform_of name =
    if bytes_eq name (codes "misere") then Some Misere
    else if bytes_eq name (codes "repeated_game") then Some Repeated
    else if bytes_eq name (codes "start_at") then Some StartAt
    else if bytes_eq name (codes "turn_based_simultaneous_game") then Some TurnBased
    else None

-- the inner game of a transform that takes nothing else
unfoldable pub game_taken : Layering → Asked → Read (Layering × Asked)
game_taken layering asked =
    only_keys asked (codes "game" ∷ []) >>= λ fine.
    optional game_in asked (codes "game") >>= λ inner.
    required asked (codes "game") inner >>= λ inner.
    Ok (layering, inner)

-- the number of rounds, and the stage
unfoldable pub rounds_taken : Asked → Read (Layering × Asked)
rounds_taken asked =
    only_keys asked (codes "num_repetitions" ∷ codes "stage_game" ∷ []) >>= λ fine.
    optional (number_in 0 4294967295) asked (codes "num_repetitions") >>= λ times.
    optional game_in asked (codes "stage_game") >>= λ stage.
    required asked (codes "num_repetitions") times >>= λ times.
    required asked (codes "stage_game") stage >>= λ stage.
    Ok (with.Repeated times, stage)

-- the first numbers, and the inner game
unfoldable pub start_taken : Asked → Read (Layering × Asked)
start_taken asked =
    only_keys asked (codes "game" ∷ codes "history" ∷ []) >>= λ fine.
    optional game_in asked (codes "game") >>= λ inner.
    history_at asked (codes "history") >>= λ prefix.
    required asked (codes "game") inner >>= λ inner.
    Ok (with.StartAt prefix, inner)

-- what a transform takes, and the inner game
abbrev pub taken_by : Transform → Asked → Read (Layering × Asked)
taken_by Misere asked = game_taken with.Misere asked
taken_by Repeated asked = rounds_taken asked
taken_by StartAt asked = start_taken asked
taken_by TurnBased asked = game_taken with.TurnBased asked
