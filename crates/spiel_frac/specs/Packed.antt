-- Lists that stand one after another in one place, and where each of them ends.
use Rattle.std.specs.Prelude.{◌≡◌, ℕ, ◌≤◌, List, [], ◌∷◌, slice_range}

-- the lists: the items up to the first end, then those up to the next, and so on
abbrev pub pieces : {A : Type 0} → ℕ → List ℕ → List A → List (List A)
pieces from [] items = []
pieces from (end ∷ ends) items = slice_range items from end ∷ pieces end ends items

-- no list ends before it begins, and the last ends at the last of so many items
abbrev pub AreEnds : ℕ → List ℕ → ℕ → Type 0
AreEnds from [] count = from ≡ count
AreEnds from (end ∷ ends) count = (from ≤ end) × AreEnds end ends count
