-- Lines by the rule, computed.
use Rattle.std.proofs.Common.{◌≡◌, refl, codes, List, [], ◌∷◌, map, Option, Some, None}
use Prim.Native.String.{String}
use Rattle.spiel_words.specs.Line.{Line, Shape, Text, Used, read_line, with_value, without_value}
use Rattle.spiel_words.specs.Verbs.{file_shape, judge_shape}

abbrev words : List String → List Text
words = map codes

abbrev given : String → String → Used
given name value = with_value (codes name) (codes value)

abbrev flagged : String → Used
flagged name = without_value (codes name)

-- a shape with options: GAME [--actions LIST] [--seed N]
abbrev play_shape : Shape
play_shape = record { places = codes "game" ∷ []; flags = []; options = codes "actions" ∷ codes "seed" ∷ [] }

abbrev played : List String → Option Line
played line = read_line play_shape (words line)

abbrev judged : List String → Option Line
judged line = read_line judge_shape (words line)

abbrev restored : List String → Option Line
restored line = read_line file_shape (words line)

-- ---- places

one_place : restored ("saved" ∷ []) ≡ Some (given "file" "saved" ∷ [])
one_place = refl

dash_alone : restored ("-" ∷ []) ≡ Some (given "file" "-" ∷ [])
dash_alone = refl

empty_place : restored ("" ∷ []) ≡ Some (given "file" "" ∷ [])
empty_place = refl

behind_dashes : restored ("--" ∷ "-x" ∷ []) ≡ Some (given "file" "-x" ∷ [])
behind_dashes = refl

dashes_behind_dashes : restored ("--" ∷ "--" ∷ []) ≡ Some (given "file" "--" ∷ [])
dashes_behind_dashes = refl

no_place : restored [] ≡ None
no_place = refl

two_places : restored ("a" ∷ "b" ∷ []) ≡ None
two_places = refl

dashed_place : restored ("-x" ∷ []) ≡ None
dashed_place = refl

three_dashes : restored ("---" ∷ []) ≡ None
three_dashes = refl

place_by_name : restored ("--file=saved" ∷ []) ≡ None
place_by_name = refl

-- ---- flags

flag_first : judged ("--brief" ∷ "g" ∷ "p" ∷ []) ≡ Some (flagged "brief" ∷ given "game" "g" ∷ given "policy" "p" ∷ [])
flag_first = refl

flag_between : judged ("g" ∷ "--brief" ∷ "p" ∷ []) ≡ Some (given "game" "g" ∷ flagged "brief" ∷ given "policy" "p" ∷ [])
flag_between = refl

flag_is_a_place : judged ("g" ∷ "--" ∷ "--brief" ∷ []) ≡ Some (given "game" "g" ∷ given "policy" "--brief" ∷ [])
flag_is_a_place = refl

flag_twice : judged ("--brief" ∷ "g" ∷ "p" ∷ "--brief" ∷ []) ≡ None
flag_twice = refl

flag_with_value : judged ("g" ∷ "p" ∷ "--brief=1" ∷ []) ≡ None
flag_with_value = refl

flag_with_empty_value : judged ("g" ∷ "p" ∷ "--brief=" ∷ []) ≡ None
flag_with_empty_value = refl

flag_cut_short : judged ("g" ∷ "p" ∷ "--brie" ∷ []) ≡ None
flag_cut_short = refl

-- ---- options

no_option : played ("g" ∷ []) ≡ Some (given "game" "g" ∷ [])
no_option = refl

option_and_word : played ("g" ∷ "--seed" ∷ "7" ∷ []) ≡ Some (given "game" "g" ∷ given "seed" "7" ∷ [])
option_and_word = refl

option_with_equals : played ("--actions=-1" ∷ "g" ∷ []) ≡ Some (given "actions" "-1" ∷ given "game" "g" ∷ [])
option_with_equals = refl

two_equals : played ("--actions=a=b" ∷ "g" ∷ []) ≡ Some (given "actions" "a=b" ∷ given "game" "g" ∷ [])
two_equals = refl

dash_for_a_value : played ("g" ∷ "--seed" ∷ "-" ∷ []) ≡ Some (given "game" "g" ∷ given "seed" "-" ∷ [])
dash_for_a_value = refl

both_options : played ("--seed" ∷ "1" ∷ "g" ∷ "--actions" ∷ "0,1" ∷ []) ≡ Some (given "seed" "1" ∷ given "game" "g" ∷ given "actions" "0,1" ∷ [])
both_options = refl

dashed_value : played ("g" ∷ "--actions" ∷ "-1" ∷ []) ≡ None
dashed_value = refl

dashes_for_a_value : played ("g" ∷ "--seed" ∷ "--" ∷ []) ≡ None
dashes_for_a_value = refl

option_for_a_value : played ("g" ∷ "--seed" ∷ "--actions=1" ∷ []) ≡ None
option_for_a_value = refl

no_value : played ("g" ∷ "--seed" ∷ []) ≡ None
no_value = refl

empty_value : played ("g" ∷ "--seed=" ∷ []) ≡ None
empty_value = refl

empty_word_for_a_value : played ("g" ∷ "--seed" ∷ "" ∷ []) ≡ None
empty_word_for_a_value = refl

option_twice : played ("g" ∷ "--seed" ∷ "1" ∷ "--seed=2" ∷ []) ≡ None
option_twice = refl

name_of_an_option_for_a_value : played ("--seed=--" ∷ "--" ∷ "--seed" ∷ []) ≡ Some (given "seed" "--" ∷ given "game" "--seed" ∷ [])
name_of_an_option_for_a_value = refl

option_before_dashes : played ("--seed" ∷ "1" ∷ "--" ∷ "-g" ∷ []) ≡ Some (given "seed" "1" ∷ given "game" "-g" ∷ [])
option_before_dashes = refl

dashes_and_a_word_for_a_value : played ("g" ∷ "--seed" ∷ "--" ∷ "1" ∷ []) ≡ None
dashes_and_a_word_for_a_value = refl

option_cut_short : played ("g" ∷ "--sed" ∷ "1" ∷ []) ≡ None
option_cut_short = refl

option_takes_the_place : played ("--seed" ∷ "g" ∷ []) ≡ None
option_takes_the_place = refl

place_too_many : played ("g" ∷ "1" ∷ "--seed=1" ∷ []) ≡ None
place_too_many = refl
