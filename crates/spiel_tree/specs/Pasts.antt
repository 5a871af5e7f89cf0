-- The last own choice of a player on the way to a row.
use Rattle.std.specs.Prelude.{◌≡◌, ℕ, ◌<◌, [], ◌∷◌, ◌++◌, Option, Some, None}
use Rattle.spiel_tree.specs.FirstSeen.{text_at, IsNumberIn}
use Rattle.spiel_tree.specs.Flat.{row_at, rows_of, texts_of}
use Rattle.spiel_tree.specs.Faults.{own_past}
use Rattle.spiel_tree.specs.declared.flat.Rows.{Rows}
use Rattle.spiel_tree.specs.declared.pasts.Own.{Own}

-- the own past at a row is that at the row of the choice, and the choice
pub record IsLast (p : ℕ) (t : Rows) (k : ℕ) (own : Own) : Type 0 where
  pub before : own.row < k
  pub text : IsNumberIn (texts_of t.texts.items p) own.text
  pub past : own_past p (row_at (rows_of t) k).way ≡ own_past p (row_at (rows_of t) own.row).way ++ record { seen = text_at (texts_of t.texts.items p) own.text; number = own.number } ∷ []

abbrev pub IsLastOwn : ℕ → Rows → ℕ → Option Own → Type 0
IsLastOwn p t k None = own_past p (row_at (rows_of t) k).way ≡ []
IsLastOwn p t k (Some own) = IsLast p t k own
