-- How deep the brackets of a tree nest.
use Rattle.std.specs.Prelude.{ℕ, suc, max}
use Rattle.spiel_string.specs.Grammar.{Node, leaf, call, Brackets, empty, filled, Entries, one, and}

-- the most brackets that stand round one place
abbrev mutual
  pub nesting : Node → ℕ
  nesting (leaf text after) = 0
  nesting (call name before brackets after) = suc (brackets_nesting brackets)

  pub brackets_nesting : Brackets → ℕ
  brackets_nesting (empty n) = 0
  brackets_nesting (filled entries) = entries_nesting entries

  pub entries_nesting : Entries → ℕ
  entries_nesting (one head value) = nesting value
  entries_nesting (and head value entries) = max (nesting value) (entries_nesting entries)
