-- Where the word that is being read begins, and where the first second key stands.
use Rattle.std.specs.Prelude.{ℕ, Bool, false, List, Option, Some, None, if◌then◌else◌}
use Rattle.std.specs.List.{list_any}
use Rattle.std.specs.Str.{bytes_eq}
use Rattle.spiel_string.specs.Kept.{Open, Read, last_of}
use Rattle.spiel_string.specs.declared.scan.Class.{Class}
use Rattle.spiel_string.specs.declared.scan.Class.TheVariants as class
use Rattle.spiel_string.specs.declared.scan.Mode.{Mode}
use Rattle.spiel_string.specs.declared.scan.Mode.TheVariants as mode

-- where the word that is being read begins, after a byte at a place; it is told of keys alone
abbrev pub from_after : Mode → Class → ℕ → ℕ → ℕ
from_after mode.Opened class.Lower from at = at
from_after mode.KeyDue class.Lower from at = at
from_after m k from at = from

abbrev pub is_key_of : List ℕ → Option Open → Bool
is_key_of key None = false
is_key_of key (Some o) = list_any (λ p. bytes_eq key p.0) o.params

-- the word stands as a key in the last bracket
abbrev pub is_again : Read → Bool
is_again r = is_key_of r.part (last_of r.opens)

-- the place of the first second key
abbrev pub first_after : Class → Option ℕ → ℕ → Read → Option ℕ
first_after class.Equals None from r = if is_again r then Some from else None
first_after k first from r = first
