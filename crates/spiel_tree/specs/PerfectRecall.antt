-- Perfect recall (Kuhn 1953): where a player sees the same, the player remembers the same own choices.
use Rattle.std.specs.Prelude.{◌≡◌, ℕ, ◌<◌, List, length}
use Rattle.spiel_api.specs.declared.place.Place.TheVariants.{Move, Joint}
use Rattle.spiel_tree.specs.Rows.{Row}
use Rattle.spiel_tree.specs.Flat.{row_at}
use Rattle.spiel_tree.specs.Faults.{own_past}

-- two rows of one information state of a player
pub record AreOfOneState (rows : List Row) (p k l : ℕ) : Type 0 where
  pub within : k < length rows
  pub other_within : l < length rows
  pub moves : (row_at rows k).here.place ≡ Move p
  pub other_moves : (row_at rows l).here.place ≡ Move p
  pub info : (row_at rows k).here.info ≡ (row_at rows l).here.info

pub record HasPerfectRecall (rows : List Row) : Type 0 where
  -- the mover's own pasts are the same at all rows of an information state
  pub recall : (p k l : ℕ) → AreOfOneState rows p k l → own_past p (row_at rows k).way ≡ own_past p (row_at rows l).way
  -- so are the mover's numbers
  pub actions : (p k l : ℕ) → AreOfOneState rows p k l → (row_at rows k).here.numbers ≡ (row_at rows l).here.numbers
  -- and nobody chooses at once with others
  pub turns : (k p : ℕ) → k < length rows → (row_at rows k).here.place ≡ Joint p → ⊥
