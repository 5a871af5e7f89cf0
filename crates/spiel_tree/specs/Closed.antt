-- Rows that go on until the end.
use Rattle.std.specs.Prelude.{◌≡◌, ℕ, ◌<◌, ◌≤◌, List, length}
use Rattle.spiel_api.specs.Place.{IsOpen}
use Rattle.spiel_tree.specs.Rows.{Row, way_on}
use Rattle.spiel_tree.specs.Flat.{row_at}

-- the number at an index leads from a row to a later one
pub record LeadsOn (rows : List Row) (k index : ℕ) : Type 0 where
  pub row : ℕ
  pub after : k < row
  pub within : row < length rows
  pub way : (row_at rows row).way ≡ way_on (row_at rows k) index

-- one of the numbers at a row leads on
pub record GoesOn (rows : List Row) (k : ℕ) : Type 0 where
  pub index : ℕ
  pub legal : index < length (row_at rows k).here.numbers
  pub row : ℕ
  pub after : k < row
  pub within : row < length rows
  pub way : (row_at rows row).way ≡ way_on (row_at rows k) index

-- each row that isn't at the end goes on, and no way is longer than the bound
pub record IsClosed (rows : List Row) (bound : ℕ) : Type 0 where
  pub goes_on : (k : ℕ) → k < length rows → IsOpen (row_at rows k).here.place → GoesOn rows k
  pub bounded : (k : ℕ) → k < length rows → length (row_at rows k).way ≤ bound

-- one of the numbers at an earlier row leads to a row
pub record GoesFrom (rows : List Row) (k : ℕ) : Type 0 where
  pub parent : ℕ
  pub index : ℕ
  pub before : parent < k
  pub legal : index < length (row_at rows parent).here.numbers
  pub way : (row_at rows k).way ≡ way_on (row_at rows parent) index
