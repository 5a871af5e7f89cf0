-- The history that a word lists: `root` for the empty one, else numbers with commas between them.
use Rattle.std.specs.Prelude.{ℕ, List, [], codes, Option, Some, if◌then◌else◌}
use Rattle.std.specs.Str.{bytes_eq}
use Rattle.spiel_frac.specs.Listed.{numbers_between}

-- the history that a word lists, if it lists one
unfoldable pub list_of : List ℕ → Option (List ℕ)
list_of word = if bytes_eq word (codes "root") then Some [] else numbers_between 44 word
