-- Which files a call reads.
use Rattle.std.specs.Prelude.{◌≡◌, ◌+◌, ◌≤◌}
use Rattle.spiel_io.specs.Outside.{ShelfState}
use Rattle.spiel_io.specs.declared.outside.Slot.TheVariants.{Main, Side}

-- one file at the most, in the side slot; the main one is as it was
pub record ReadsSide (old new : ShelfState) : Type 0 where
  pub main : new.reading Main ≡ old.reading Main
  pub side_begins : (new.reading Side).begins ≤ (old.reading Side).begins + 1
