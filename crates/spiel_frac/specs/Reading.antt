-- What a text reads as: the number that it spells, found by its marks, and the value of that.
use Rattle.std.specs.Prelude.{ℕ, ◌^◌, ◌<◌, ◌==◌, ◌||◌, Bool, true, false, List, [], ◌∷◌, if◌then◌else◌, Option, Some, None, Result, Err, unsigned_abs}
use Rattle.spiel_frac.specs.Cuts.{cut}
use Rattle.spiel_frac.specs.Fraction.{Fraction}
use Rattle.spiel_frac.specs.Spelling.{Sign, absent, plus, minus, Mantissa, whole, pointed, Exponent, without, power, Size, ratio, scaled, Number, is_size}
use Rattle.spiel_frac.specs.Values.{fraction_of, is_short, size_value, value_of}
use Rattle.spiel_frac.specs.declared.fault.BadNumber.{BadNumber}
use Rattle.spiel_frac.specs.declared.fault.BadNumber.TheVariants.{Shape, Digits}

-- ---- the parts of a text

-- the sign that a text begins with
abbrev pub sign_of : List ℕ → Sign
sign_of [] = absent
sign_of (byte ∷ bytes) = if byte == 43 then plus else (if byte == 45 then minus else absent)

-- what stands behind it
abbrev pub behind_sign : List ℕ → List ℕ
behind_sign [] = []
behind_sign (byte ∷ bytes) = if byte == 43 || byte == 45 then bytes else byte ∷ bytes

abbrev pub mantissa_by : List ℕ → Option (List ℕ × List ℕ) → Mantissa
mantissa_by text None = whole text
mantissa_by text (Some sides) = pointed sides.0 sides.1

-- the sides of the first point, if there is one
abbrev pub mantissa_of : List ℕ → Mantissa
mantissa_of text = mantissa_by text (cut 46 text)

abbrev pub exponent_of : Bool → List ℕ → Exponent
exponent_of capital text = power capital (sign_of text) (behind_sign text)

abbrev pub scaled_by : List ℕ → Option (List ℕ × List ℕ) → Option (List ℕ × List ℕ) → Size
scaled_by text (Some small) large = scaled (mantissa_of small.0) (exponent_of false small.1)
scaled_by text None (Some large) = scaled (mantissa_of large.0) (exponent_of true large.1)
scaled_by text None None = scaled (mantissa_of text) without

-- what stands before the first `e`, or else the first `E`, and what behind it
abbrev pub scaled_of : List ℕ → Size
scaled_of text = scaled_by text (cut 101 text) (cut 69 text)

abbrev pub size_by : List ℕ → Option (List ℕ × List ℕ) → Size
size_by text None = scaled_of text
size_by text (Some sides) = ratio sides.0 sides.1

-- the sides of the first slash, if there is one
abbrev pub size_of : List ℕ → Size
size_of text = size_by text (cut 47 text)

-- the parts of a text are its number, if there are only digits between the marks
unfoldable pub reading : List ℕ → Option Number
reading text =
    let n : Number = record { sign = sign_of text; size = size_of (behind_sign text) } in
    if is_size n.size then Some n else None

-- ---- the answer

abbrev pub value_or_shape : Option Number → Result Fraction BadNumber
value_or_shape None = Err Shape
value_or_shape (Some n) = value_of n

-- the fraction that a text reads as, or why there is none
unfoldable pub frac_of : List ℕ → Result Fraction BadNumber
frac_of text = value_or_shape (reading text)

-- the same of a size and whether there is a minus
abbrev pub size_fraction : Bool → Size → Result Fraction BadNumber
size_fraction negative size = if is_size size then (if is_short size then fraction_of negative (size_value size) else Err Digits) else Err Shape

-- both parts have at most 18 digits
pub record HasShortParts (f : Fraction) : Type 0 where
  pub num : unsigned_abs f.num < 10 ^ 18
  pub den : f.den < 10 ^ 18
