-- The verbs, and the command that the words are.
use Rattle.std.specs.Prelude.{List, [], ◌∷◌, Option, None, option_and_then, option_map, if◌then◌else◌, codes}
use Rattle.std.specs.Str.{bytes_eq}
use Rattle.spiel_words.specs.Line.{Line, Shape, Text, is_given, read_line, value_of}
use Rattle.spiel_words.specs.declared.command.Command.{Command}
use Rattle.spiel_words.specs.declared.command.Command.TheVariants.{Judge, Legal, Policy, Restore, Save, Show, Tidy, Value}

-- ---- shapes

-- FILE
abbrev pub file_shape : Shape
file_shape = record { places = codes "file" ∷ []; flags = []; options = [] }

-- GAME
abbrev pub game_shape : Shape
game_shape = record { places = codes "game" ∷ []; flags = []; options = [] }

-- GAME LIST
abbrev pub list_shape : Shape
list_shape = record { places = codes "game" ∷ codes "list" ∷ []; flags = []; options = [] }

-- GAME POLICY
abbrev pub policy_shape : Shape
policy_shape = record { places = codes "game" ∷ codes "policy" ∷ []; flags = []; options = [] }

-- GAME POLICY [--brief]
abbrev pub judge_shape : Shape
judge_shape = record { places = codes "game" ∷ codes "policy" ∷ []; flags = codes "brief" ∷ []; options = [] }

-- ---- verbs

-- the word for a place, where the words have this shape
abbrev pub one_of : Shape → Text → List Text → Option Text
one_of shape name words = option_and_then (value_of name) (read_line shape words)

-- the words for GAME and for another place of a line
abbrev pub game_and : Text → Line → Option (Text × Text)
game_and other line = option_and_then (λ game. option_map (λ word. (game, word)) (value_of other line)) (value_of (codes "game") line)

-- the same, where the words have this shape
abbrev pub two_of : Shape → Text → List Text → Option (Text × Text)
two_of shape other words = option_and_then (game_and other) (read_line shape words)

-- the commands of the words behind each verb
abbrev pub restore_of : List Text → Option Command
restore_of words = option_map (λ file. Restore file) (one_of file_shape (codes "file") words)

abbrev pub save_of : List Text → Option Command
save_of words = option_map (λ two. Save two.0 two.1) (two_of list_shape (codes "list") words)

abbrev pub legal_of : List Text → Option Command
legal_of words = option_map (λ two. Legal two.0 two.1) (two_of list_shape (codes "list") words)

abbrev pub show_of : List Text → Option Command
show_of words = option_map (λ game. Show game) (one_of game_shape (codes "game") words)

abbrev pub value_command_of : List Text → Option Command
value_command_of words = option_map (λ two. Value two.0 two.1) (two_of policy_shape (codes "policy") words)

abbrev pub policy_of : List Text → Option Command
policy_of words = option_map (λ two. Policy two.0 two.1) (two_of policy_shape (codes "policy") words)

abbrev pub tidy_of : List Text → Option Command
tidy_of words = option_map (λ file. Tidy file) (one_of file_shape (codes "file") words)

abbrev pub judge_line : Line → Option Command
judge_line line = option_map (λ two. Judge two.0 two.1 (is_given (codes "brief") line)) (game_and (codes "policy") line)

abbrev pub judge_of : List Text → Option Command
judge_of words = option_and_then judge_line (read_line judge_shape words)

-- the command that the words are; none where they are no command
abbrev pub command_of : List Text → Option Command
command_of [] = None
command_of (verb ∷ words) =
    if bytes_eq verb (codes "restore") then restore_of words
    else if bytes_eq verb (codes "save") then save_of words
    else if bytes_eq verb (codes "legal") then legal_of words
    else if bytes_eq verb (codes "show") then show_of words
    else if bytes_eq verb (codes "value") then value_command_of words
    else if bytes_eq verb (codes "policy") then policy_of words
    else if bytes_eq verb (codes "judge") then judge_of words
    else if bytes_eq verb (codes "tidy") then tidy_of words
    else None
