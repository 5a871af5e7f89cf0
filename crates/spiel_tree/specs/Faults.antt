-- What is wrong with rows: the first row that shows it decides.
use Rattle.std.specs.Prelude.{◌≡◌, ℕ, zero, suc, ◌<◌, ◌==◌, Bool, true, false, cond, List, [], ◌∷◌, length, Option, Some, None}
use Rattle.std.specs.Str.{bytes_eq}
use Rattle.spiel_api.specs.declared.place.Place.{Place}
use Rattle.spiel_api.specs.declared.place.Place.TheVariants.{End, Chance, Move, Joint}
use Rattle.spiel_tree.specs.Rows.{Row, Step, taken}
use Rattle.spiel_tree.specs.Flat.{moves, row_at}
use Rattle.spiel_tree.specs.States.{first_row}
use Rattle.spiel_tree.specs.declared.faults.Fault.{Fault}
use Rattle.spiel_tree.specs.declared.faults.Fault.TheVariants.{Simultaneous, Recall, Actions}

-- a choice that a player remembers: what the player saw, and the number taken
pub record Choice : Type 0 where
  pub seen : List ℕ
  pub number : ℕ

-- a player's own choices on a way, in order
abbrev pub own_past : ℕ → List Step → List Choice
own_past p [] = []
own_past p (step ∷ way) = cond (moves p step.at.place) (record { seen = step.at.info; number = taken step } ∷ own_past p way) (own_past p way)

abbrev pub same_choice : Choice → Choice → Bool
same_choice a b = cond (bytes_eq a.seen b.seen) (a.number == b.number) false

abbrev pub same_past : List Choice → List Choice → Bool
same_past [] [] = true
same_past [] (b ∷ other) = false
same_past (a ∷ past) [] = false
same_past (a ∷ past) (b ∷ other) = cond (same_choice a b) (same_past past other) false

-- the numbers of a decision against those of the first row of its information state
abbrev pub against_numbers : Row → Row → ℕ → ℕ → ℕ → Option Fault
against_numbers first here p f k = cond (bytes_eq first.here.numbers here.here.numbers) None (Some (Actions p f k))

-- before them the own pasts
abbrev pub against : Row → Row → ℕ → ℕ → ℕ → Option Fault
against first here p f k = cond (same_past (own_past p first.way) (own_past p here.way)) (against_numbers first here p f k) (Some (Recall p f k))

abbrev pub fault_by : List Row → ℕ → Row → Place → Option Fault
fault_by rows k here End = None
fault_by rows k here Chance = None
fault_by rows k here (Move p) = against (row_at rows (first_row p here.here.info rows)) here p (first_row p here.here.info rows) k
fault_by rows k here (Joint zero) = Some (Simultaneous k)
fault_by rows k here (Joint (suc p)) = None

-- what is wrong at the row k
abbrev pub fault_at : List Row → ℕ → Option Fault
fault_at rows k = fault_by rows k (row_at rows k) (row_at rows k).here.place

-- ---- the first row with a fault decides
-- as a function that computes: the first fault at the rows from k on, of which there are so many
abbrev pub first_of : Option Fault → Option Fault → Option Fault
first_of None later = later
first_of (Some fault) later = Some fault

abbrev pub first_fault_from : List Row → ℕ → ℕ → Option Fault
first_fault_from rows k zero = None
first_fault_from rows k (suc n) = first_of (fault_at rows k) (first_fault_from rows (suc k) n)

abbrev pub first_fault : List Row → Option Fault
first_fault rows = first_fault_from rows 0 (length rows)

-- and as facts
pub record IsFirst (rows : List Row) (fault : Fault) : Type 0 where
  pub at : ℕ
  pub within : at < length rows
  pub here : fault_at rows at ≡ Some fault
  pub before : (k : ℕ) → k < at → fault_at rows k ≡ None

-- no row shows anything wrong
abbrev pub IsFaultless : List Row → Type 0
IsFaultless rows = (k : ℕ) → k < length rows → fault_at rows k ≡ None

abbrev pub IsFirstFault : List Row → Option Fault → Type 0
IsFirstFault rows None = IsFaultless rows
IsFirstFault rows (Some fault) = IsFirst rows fault

-- the rows that a fault names are among so many
abbrev pub NamesRows : ℕ → Fault → Type 0
NamesRows n (Simultaneous k) = k < n
NamesRows n (Recall p f k) = (f < n) × (k < n)
NamesRows n (Actions p f k) = (f < n) × (k < n)
