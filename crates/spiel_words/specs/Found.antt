-- What `clap` has found, where the words are a line of the shape.
use Rattle.std.specs.Prelude.{◌≡◌, Bool, true, false, List, map, Some, codes, if◌then◌else◌}
use Rattle.std.specs.Borrow.{Bor}
use Rattle.clap.specs.Matches.{first_value, one_text}
use Rattle.clap.specs.declared.parser.matches.Found.{Found}
use Rattle.spiel_words.specs.Line.{Line, Shape, Text, is_among, is_given, read_line, value_of}
use Rattle.spiel_words.specs.declared.shape.Shape.{Shape as ShapeNames}

-- the names of a shape in the code
abbrev pub texts : List (Bor Text) → List Text
texts = map (λ text. text.now)

abbrev pub shape_of : ShapeNames → Shape
shape_of shape = record { places = texts shape.places.now; flags = texts shape.flags.now; options = texts shape.options.now }

-- how `clap` writes whether a flag is given
abbrev pub flag_text : Bool → Text
flag_text given = if given then codes "true" else codes "false"

-- the words are a line, and that is what was found: a value for each place and option that has one,
-- and for each flag whether it is given
pub record Says (shape : Shape) (words : List Text) (found : Found) : Type 0 where
  pub line : Line
  pub read : read_line shape words ≡ Some line
  pub values : (name : Text) → is_among name shape.flags ≡ false → first_value found name ≡ value_of name line
  pub flags : (name : Text) → is_among name shape.flags ≡ true → one_text found name ≡ Some (flag_text (is_given name line))
