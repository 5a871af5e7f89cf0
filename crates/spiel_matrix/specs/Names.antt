-- Names of strategies as they are printed.
use Rattle.std.specs.Prelude.{ℕ, ◌+◌, ◌&&◌, nat_le, if◌then◌else◌, List, [], ◌∷◌, map, take}
use Rattle.std.specs.Fmt.{decimal}

-- a byte of printable ASCII, or a question mark in place of any other
abbrev pub printed_byte : ℕ → ℕ
printed_byte byte = if nat_le 32 byte && nat_le byte 126 then byte else 63

-- the printed form of a text: its first 64 bytes
abbrev pub printed : List ℕ → List ℕ
printed text = map printed_byte (take 64 text)

-- the name of a strategy, or where it is empty the number of the strategy, counted from 1
abbrev pub strategy_name : List ℕ → ℕ → List ℕ
strategy_name [] number = decimal (number + 1)
strategy_name (byte ∷ text) number = printed (byte ∷ text)
