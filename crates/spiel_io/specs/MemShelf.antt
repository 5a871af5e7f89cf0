-- What files in memory are as a shelf.
use Rattle.std.specs.Prelude.{◌≡◌, ℕ, zero, suc, ◌==◌, nat_lt, ◌||◌, Bool, true, false, List, [], ◌∷◌, drop, Option, Some, None, is_none}
use Rattle.std.specs.List.{list_any, list_all}
use Rattle.spiel_io.specs.Outside.{Files, Reading, ShelfState, counted, held, pick}
use Rattle.spiel_io.specs.declared.mem_shelf.MemShelf.{MemShelf}
use Rattle.spiel_io.specs.declared.mem_shelf.Place.{Place}
use Rattle.spiel_io.specs.declared.mem_shelf.Rest.{Rest}

-- the bytes of the file at this place
abbrev pub bytes_at : Files → ℕ → List ℕ
bytes_at [] i = []
bytes_at (file ∷ files) zero = file.1
bytes_at (file ∷ files) (suc i) = bytes_at files i

abbrev pub left_of : Files → Option Rest → List ℕ
left_of files None = []
left_of files (Some rest) = drop rest.from (bytes_at files rest.file)

abbrev pub is_begun : Option Rest → Bool
is_begun None = false
is_begun (Some rest) = true

abbrev pub reading_of : Files → Place → Reading
reading_of files place = record { left = left_of files place.rest; begun = is_begun place.rest; begins = place.begins }

-- whether the next call fails by its number
abbrev pub fails_now : MemShelf → Bool
fails_now s = list_any (λ n. n == s.calls) s.failing

-- whether a begin of this name fails next: by its number, or since no file has the name
abbrev pub begin_fails : MemShelf → List ℕ → Bool
begin_fails s name = fails_now s || is_none (held s.files name)

-- no number of a failing call is still to come
abbrev pub is_steady : MemShelf → Bool
is_steady s = list_all (λ n. nat_lt n s.calls) s.failing

abbrev pub shelf_state : MemShelf → ShelfState
shelf_state s = record {
  files = Some s.files;
  reading = λ slot. reading_of s.files (pick slot s.main s.side);
  faults = s.faults;
  steady = is_steady s;
}

-- no call was made yet: the first one has the number 0, and the calls with these numbers fail
pub record IsScript (numbers : List ℕ) (s : MemShelf) : Type 0 where
  pub calls : s.calls ≡ 0
  pub failing : s.failing ≡ numbers

-- a call was counted, and the numbers of the failing calls are the same
pub record CountsCall (old new : MemShelf) : Type 0 where
  pub calls : new.calls ≡ counted old.calls
  pub failing : new.failing ≡ old.failing
