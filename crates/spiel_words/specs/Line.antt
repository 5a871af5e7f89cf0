-- How the words behind a verb are read: the project's rule for command lines.
use Rattle.std.specs.Prelude.{ℕ, ◌==◌, Bool, true, false, not, ◌&&◌, List, [], ◌∷◌, ◌++◌, map, length, nat_lt, Option, Some, None, is_some, option_map, option_and_then, find, if◌then◌else◌, codes}
use Rattle.std.specs.List.{list_all, list_any, before_first, after_first}
use Rattle.std.specs.Str.{bytes_eq}

-- the bytes of a word or of a name
abbrev pub Text : Type 0
Text = List ℕ

-- what may stand behind a verb: positional words, of which each place has a name; flags `--name`;
-- and options `--name VALUE`
pub record Shape : Type 0 where
  pub places : List Text
  pub flags : List Text
  pub options : List Text

-- the name is one of these
abbrev pub is_among : Text → List Text → Bool
is_among name names = list_any (λ other. bytes_eq other name) names

-- no name stands twice
abbrev pub are_distinct : List Text → Bool
are_distinct [] = true
are_distinct (name ∷ names) = not (is_among name names) && are_distinct names

-- its names differ, and its places are few enough to be counted
abbrev pub is_sound : Shape → Bool
is_sound shape = are_distinct (shape.places ++ (shape.flags ++ shape.options)) && nat_lt (length shape.places) 100

-- ---- one word

-- the word begins with a dash (45) and isn't a dash alone
abbrev pub is_dashed : Text → Bool
is_dashed [] = false
is_dashed (byte ∷ []) = false
is_dashed (byte ∷ next ∷ bytes) = byte == 45

abbrev pub is_equals : ℕ → Bool
is_equals byte = byte == 61

-- what stands behind the first `=`, where there is one
abbrev pub value_in : Text → Option Text
value_in text = if list_any is_equals text then Some (after_first is_equals text) else None

-- of a word that begins with a dash: the name in `--name` or `--name=VALUE`, and the value
abbrev pub named : Text → Option (Text × Option Text)
named [] = None
named (byte ∷ []) = None
named (byte ∷ next ∷ text) = if next == 45 then Some (before_first is_equals text, value_in text) else None

-- what a word before `--` is
pub data Kind : Type 0 where
  -- `--`: each word behind it is positional
  dashes : Kind
  -- a positional word
  place : Kind
  -- the flag of this name
  flag : Text → Kind
  -- the option of this name, whose value is the next word
  option : Text → Kind
  -- the option of this name, with its value
  valued : Text → Text → Kind
  -- no word of the verb
  unknown : Kind

-- a flag has no value
abbrev pub flag_kind : Text → Option Text → Kind
flag_kind name None = flag name
flag_kind name (Some value) = unknown

-- an option's value isn't empty
abbrev pub option_kind : Text → Option Text → Kind
option_kind name None = option name
option_kind name (Some []) = unknown
option_kind name (Some (byte ∷ bytes)) = valued name (byte ∷ bytes)

abbrev pub named_kind : Shape → Option (Text × Option Text) → Kind
named_kind shape None = unknown
named_kind shape (Some pair) =
    if is_among pair.0 shape.flags then flag_kind pair.0 pair.1
    else if is_among pair.0 shape.options then option_kind pair.0 pair.1
    else unknown

abbrev pub kind_of : Shape → Text → Kind
kind_of shape word =
    if bytes_eq word (codes "--") then dashes
    else if is_dashed word then named_kind shape (named word)
    else place

-- ---- a line

-- a name that is used: a place or an option with its value, or a flag, which has none
pub record Used : Type 0 where
  pub name : Text
  pub value : Option Text

abbrev pub with_value : Text → Text → Used
with_value name value = record { name = name; value = Some value }

abbrev pub without_value : Text → Used
without_value name = record { name = name; value = None }

-- what a line uses, in the order in which it stands there
abbrev pub Line : Type 0
Line = List Used

abbrev pub first : Used → Option Line → Option Line
first used = option_map (λ line. used ∷ line)

-- each place has one of the words
abbrev pub placed : List Text → List Text → Option Line
placed [] [] = Some []
placed [] (word ∷ words) = None
placed (name ∷ names) [] = None
placed (name ∷ names) (word ∷ words) = first (with_value name word) (placed names words)

-- a positional word is that of the next place
abbrev pub place_first : List Text → Text → (List Text → Option Line) → Option Line
place_first [] word behind = None
place_first (name ∷ names) word behind = first (with_value name word) (behind names)

-- the value of an option is a word that doesn't begin with a dash, but for a dash alone, and isn't
-- empty
abbrev pub is_value : Text → Bool
is_value word = not (is_dashed word) && nat_lt 0 (length word)

-- the places that have no word yet, and the option whose value comes next, to what is used
abbrev pub Reader : Type 0
Reader = List Text → Option Text → Option Line

-- a word of this kind, and then those behind it
abbrev pub kind_first : Kind → Text → List Text → List Text → Reader → Option Line
kind_first dashes word words left behind = placed left words
kind_first place word words left behind = place_first left word (λ names. behind names None)
kind_first (flag name) word words left behind = first (without_value name) (behind left None)
kind_first (option name) word words left behind = behind left (Some name)
kind_first (valued name value) word words left behind = first (with_value name value) (behind left None)
kind_first unknown word words left behind = None

-- the words are read from left to right
abbrev pub uses_of : Shape → List Text → Reader
uses_of shape [] [] None = Some []
uses_of shape [] [] (Some name) = None
uses_of shape [] (name ∷ names) awaited = None
uses_of shape (word ∷ words) left None = kind_first (kind_of shape word) word words left (uses_of shape words)
uses_of shape (word ∷ words) left (Some name) =
    if is_value word then first (with_value name word) (uses_of shape words left None) else None

-- no name is used twice
abbrev pub once_each : Line → Option Line
once_each line = if are_distinct (map (λ used. used.name) line) then Some line else None

-- what the words use; none where they are no line of this shape
abbrev pub read_line : Shape → List Text → Option Line
read_line shape words = option_and_then once_each (uses_of shape words shape.places None)

-- ---- what a line says

abbrev pub use_of : Text → Line → Option Used
use_of name line = find (λ used. bytes_eq used.name name) line

-- the flag is given
abbrev pub is_given : Text → Line → Bool
is_given name line = is_some (use_of name line)

-- the value of a place or of an option, where it has one
abbrev pub value_of : Text → Line → Option Text
value_of name line = option_and_then (λ used. used.value) (use_of name line)

-- each of these names has a value
abbrev pub is_filled : List Text → Line → Bool
is_filled names line = list_all (λ name. is_some (value_of name line)) names
