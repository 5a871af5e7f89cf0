-- Decimal numbers of 32 bits.
use Rattle.std.specs.Prelude.{ℕ, ◌^◌, ◌&&◌, nat_lt, List, Option, Some, None, if◌then◌else◌}
use Rattle.std.specs.Fmt.{decimal}
use Rattle.std.specs.Str.{bytes_eq}
use Rattle.std.specs.Str.Parse.{digits_value}

-- the number below 2^32 whose decimal text the bytes are: digits without a leading zero, or just `0`
unfoldable pub decimal_number : List ℕ → Option ℕ
decimal_number text = let n = digits_value 10 text in if bytes_eq (decimal n) text && nat_lt n (2 ^ 32) then Some n else None
