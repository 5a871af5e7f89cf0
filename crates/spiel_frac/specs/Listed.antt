-- Numbers that are listed with a byte between them.
use Rattle.std.specs.Prelude.{ℕ, List, [], ◌∷◌, map, Option, Some, None}
use Rattle.std.specs.Fmt.{decimal}
use Rattle.std.specs.List.{join_with_byte}
use Rattle.std.specs.Option.{option_map}
use Rattle.spiel_frac.specs.Cuts.{parts_of}
use Rattle.spiel_frac.specs.Numbers.{decimal_number}

abbrev pub with_number : Option ℕ → Option (List ℕ) → Option (List ℕ)
with_number None rest = None
with_number (Some n) rest = option_map (λ numbers. n ∷ numbers) rest

-- the numbers below 2^32 that parts are, if each is one: digits without a leading zero, or just `0`
abbrev pub numbers_of : List (List ℕ) → Option (List ℕ)
numbers_of [] = Some []
numbers_of (part ∷ parts) = with_number (decimal_number part) (numbers_of parts)

-- the numbers between these bytes, if each part is one
abbrev pub numbers_between : ℕ → List ℕ → Option (List ℕ)
numbers_between mark word = numbers_of (parts_of mark word)

-- the decimal texts of numbers with a byte between each two
abbrev pub listed : ℕ → List ℕ → List ℕ
listed mark numbers = join_with_byte mark (map decimal numbers)
