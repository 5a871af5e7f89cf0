-- The grammar of numbers, as trees and what they spell: `-3/4`, `12`, `.5`, `1.5e-3`.
use Rattle.std.specs.Prelude.{◌≡◌, ℕ, ◌+◌, ◌&&◌, Bool, true, List, [], ◌∷◌, ◌++◌, length, nat_lt, if◌then◌else◌}
use Rattle.std.specs.List.{list_all}
use Rattle.std.specs.Char.{is_ascii_digit}

pub data Sign : Type 0 where
  absent : Sign
  plus : Sign
  minus : Sign

-- digits, or digits with a point before them, behind them or among them
pub data Mantissa : Type 0 where
  whole : List ℕ → Mantissa
  pointed : List ℕ → List ℕ → Mantissa

-- none, or a letter `e`, capital or not, a sign and digits
pub data Exponent : Type 0 where
  without : Exponent
  power : Bool → Sign → List ℕ → Exponent

-- digits over digits, or a mantissa times a power of ten
pub data Size : Type 0 where
  ratio : List ℕ → List ℕ → Size
  scaled : Mantissa → Exponent → Size

pub record Number : Type 0 where
  pub sign : Sign
  pub size : Size

-- ---- what a number spells, in front of further bytes

abbrev pub spell_sign : Sign → List ℕ → List ℕ
spell_sign absent rest = rest
spell_sign plus rest = 43 ∷ rest
spell_sign minus rest = 45 ∷ rest

abbrev pub spell_mantissa : Mantissa → List ℕ → List ℕ
spell_mantissa (whole digits) rest = digits ++ rest
spell_mantissa (pointed digits places) rest = digits ++ 46 ∷ (places ++ rest)

abbrev pub spell_exponent : Exponent → List ℕ
spell_exponent without = []
spell_exponent (power capital sign digits) = (if capital then 69 else 101) ∷ spell_sign sign digits

abbrev pub spell_size : Size → List ℕ
spell_size (ratio above below) = above ++ 47 ∷ below
spell_size (scaled mantissa exponent) = spell_mantissa mantissa (spell_exponent exponent)

abbrev pub spell : Number → List ℕ
spell n = spell_sign n.sign (spell_size n.size)

-- ---- where only digits may stand

-- one digit or more
abbrev pub are_digits : List ℕ → Bool
are_digits bytes = nat_lt 0 (length bytes) && list_all is_ascii_digit bytes

-- the digits before the point, which are all where there is none, and those behind it
abbrev pub before_point : Mantissa → List ℕ
before_point (whole digits) = digits
before_point (pointed digits places) = digits

abbrev pub behind_point : Mantissa → List ℕ
behind_point (whole digits) = []
behind_point (pointed digits places) = places

-- digits, of which one side of a point may have none
abbrev pub are_sides : List ℕ → List ℕ → Bool
are_sides digits places = nat_lt 0 (length digits + length places) && (list_all is_ascii_digit digits && list_all is_ascii_digit places)

abbrev pub is_mantissa : Mantissa → Bool
is_mantissa mantissa = are_sides (before_point mantissa) (behind_point mantissa)

abbrev pub is_exponent : Exponent → Bool
is_exponent without = true
is_exponent (power capital sign digits) = are_digits digits

abbrev pub is_size : Size → Bool
is_size (ratio above below) = are_digits above && are_digits below
is_size (scaled mantissa exponent) = is_mantissa mantissa && is_exponent exponent

-- the text is a spelling of the number
pub record Spells (n : Number) (text : List ℕ) : Type 0 where
  pub digits : is_size n.size ≡ true
  pub same : text ≡ spell n
