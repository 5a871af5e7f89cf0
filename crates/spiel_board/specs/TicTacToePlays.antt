-- What plays of tic-tac-toe are made of: the cells that are marked and those that are free.
use Rattle.std.proofs.Common.{◌≡◌, ℕ, zero, suc, ◌+◌, ◌<◌, ◌≤◌, Bool, true, false, not, ◌||◌, List, [], ◌∷◌, ◌++◌, length, map, get_or, set, cond, refl, ap, sym, ◌∙◌, arith, ◌==◌, ⊎_elim, length-append}
use Rattle.std.specs.Prelude.{nat_lt}
use Rattle.std.specs.List.{All, Contains, sum_by}
use Rattle.std.specs.List.Sorted.{IsStrictlyIncreasing}
use Rattle.std.proofs.lemmas.Bool.{ltb-true, eq-eqb, ne_eqb, cases_eq, not-true, or_right}
use Rattle.std.proofs.lemmas.List.{length-map, get_or-map, same_lists, length-set, get_or-set_same, get_or-set_other}
use Rattle.std.proofs.lemmas.List.Elements.{All-nil, All-push, All-filter, All-contains, filter_passes}
use Rattle.std.proofs.lemmas.List.Sums.{length-filter, sum_by-cons, sum_by-set}
use Rattle.spiel_api.specs.Rules.{next_of}
use Rattle.spiel_api.specs.Plays.{IsPlay}
use Rattle.spiel_api.specs.Walks.{is_in}
use Rattle.spiel_api.proofs.LawLemmas.{All-computed, IsStrictlyIncreasing-computed}
use Rattle.spiel_board.specs.TicTacToe.{cells, free_cells, tic_tac_toe_turns, tic_tac_toe_rules}
use Rattle.spiel_board.specs.TicTacToeState.{marks}
use Rattle.spiel_api.proofs.Inductions.{of_plays}
use Rattle.spiel_api.proofs.Members.{is_in-push, or_false}
use Rattle.spiel_api.proofs.TurnLaws.{next_numbers, for_numbers}

pub length-cells : length cells ≡ 9
unfolding cells
length-cells = refl

pub cells_small : All (λ a. a < 9) cells
unfolding cells
cells_small = All-computed (λ a. a < 9) (λ a. nat_lt a 9) (λ a. ltb-true a 9) cells refl

pub cells_rise : IsStrictlyIncreasing cells
unfolding cells
cells_rise = IsStrictlyIncreasing-computed cells refl

-- the cells are numbered from 0 on
pub get_or-cells : (k d : ℕ) → k < 9 → get_or cells k d ≡ k
unfolding cells
get_or-cells zero d l = refl
get_or-cells (suc zero) d l = refl
get_or-cells (suc (suc zero)) d l = refl
get_or-cells (suc (suc (suc zero))) d l = refl
get_or-cells (suc (suc (suc (suc zero)))) d l = refl
get_or-cells (suc (suc (suc (suc (suc zero))))) d l = refl
get_or-cells (suc (suc (suc (suc (suc (suc zero)))))) d l = refl
get_or-cells (suc (suc (suc (suc (suc (suc (suc zero))))))) d l = refl
get_or-cells (suc (suc (suc (suc (suc (suc (suc (suc zero)))))))) d l = refl
get_or-cells (suc (suc (suc (suc (suc (suc (suc (suc (suc k))))))))) d l = absurd (omega arith)

pub length-marks : (xs : List ℕ) → length (marks xs) ≡ 9
length-marks xs = length-map cells (λ cell. is_in xs cell) ∙ length-cells

pub get_or-marks : (xs : List ℕ) (k : ℕ) (d : Bool) → k < 9 → get_or (marks xs) k d ≡ is_in xs k
get_or-marks xs k d l =
    get_or-map (λ cell. is_in xs cell) cells k 0 d (omega (arith, length-cells)) ∙ ap (is_in xs) (get_or-cells k 0 l)

pub marks-push : (xs : List ℕ) (a : ℕ) → a < 9 → marks (xs ++ a ∷ []) ≡ set (marks xs) a true
marks-push xs a l =
    same_lists (marks (xs ++ a ∷ [])) (set (marks xs) a true) (omega (arith, length-marks (xs ++ a ∷ []), length-marks xs, length-set (marks xs) a true)) each
  where
    same : (k : ℕ) (d : Bool) → k < 9 → k ≡ a → (is_in xs k || (a == k)) ≡ get_or (set (marks xs) a true) k d
    same k d l e = rw (eq-eqb a k (sym e)) (or_right (is_in xs k) true refl ∙ sym (rw e (get_or-set_same (marks xs) a true d (omega (arith, length-marks xs)))))

    other : (k : ℕ) (d : Bool) → k < 9 → (k ≡ a → ⊥) → (is_in xs k || (a == k)) ≡ get_or (set (marks xs) a true) k d
    other k d l ne = rw (ne_eqb a k (λ e. ne (sym e))) (or_false (is_in xs k) ∙ sym (get_or-marks xs k d l) ∙ sym (get_or-set_other (marks xs) a k true d ne))

    each : (k : ℕ) (d : Bool) → k < length (marks (xs ++ a ∷ [])) → get_or (marks (xs ++ a ∷ [])) k d ≡ get_or (set (marks xs) a true) k d
    each k d m =
        let n : k < 9 = omega (arith, length-marks (xs ++ a ∷ [])) in
        get_or-marks (xs ++ a ∷ []) k d n ∙ is_in-push xs a k ∙ ⊎_elim (same k d n) (other k d n) (cases_eq k a)

-- how many cells are free
sum_by-map : (f : Bool → ℕ) (g : ℕ → Bool) (xs : List ℕ) → sum_by f (map g xs) ≡ sum_by (λ x. f (g x)) xs
sum_by-map f g [] = refl
sum_by-map f g (x ∷ xs) = sum_by-cons f (g x) (map g xs) ∙ ap (λ n. f (g x) + n) (sum_by-map f g xs) ∙ sym (sum_by-cons (λ x. f (g x)) x xs)

abbrev free_count : Bool → ℕ
free_count marked = cond (not marked) 1 0

length-free : (h : List ℕ) → length (free_cells h) ≡ sum_by free_count (marks h)
length-free h = length-filter (λ cell. not (is_in h cell)) cells ∙ sym (sum_by-map free_count (λ cell. is_in h cell) cells)

pub free_small : (h : List ℕ) → All (λ a. a < 9) (free_cells h)
free_small h = All-filter (λ cell. not (is_in h cell)) (λ a. a < 9) cells cells_small

-- a free cell is not marked
pub free_unmarked : (h : List ℕ) (a : ℕ) → Contains (free_cells h) a → is_in h a ≡ false
free_unmarked h a c = not-true (is_in h a) (All-contains (λ cell. not (is_in h cell) ≡ true) (free_cells h) a (filter_passes (λ cell. not (is_in h cell)) cells) c)

-- each move takes a free cell
length-free_more : (h : List ℕ) (a : ℕ) → Contains (free_cells h) a → length (free_cells (h ++ a ∷ [])) + 1 ≡ length (free_cells h)
length-free_more h a c =
    let small : a < 9 = All-contains (λ a. a < 9) (free_cells h) a (free_small h) c in
    let unmarked : get_or (marks h) a false ≡ false = get_or-marks h a false small ∙ free_unmarked h a c in
    let counted : sum_by free_count (set (marks h) a true) + free_count (get_or (marks h) a false) ≡ sum_by free_count (marks h) + free_count true =
    sum_by-set free_count (marks h) a true false (omega (arith, length-marks h)) in
    let one : free_count (get_or (marks h) a false) ≡ 1 = ap free_count unmarked in
    omega (arith, length-free h, length-free (h ++ a ∷ []), counted, one, ap (sum_by free_count) (marks-push h a small))

-- whoever is next marks a free cell
pub next_free : (h : List ℕ) (a : ℕ) → Contains (next_of tic_tac_toe_rules h) a → Contains (free_cells h) a
next_free h a c = next_numbers (tic_tac_toe_turns.place h) (free_cells h) a c

-- the cells that are free and those that are marked are nine
all_free : length (free_cells []) + 0 ≡ 9
unfolding cells
all_free = refl

pub nine_cells : (h : List ℕ) → IsPlay tic_tac_toe_rules h → length (free_cells h) + length h ≡ 9
nine_cells = of_plays tic_tac_toe_rules (λ h. length (free_cells h) + length h ≡ 9) all_free more
  where
    more : (h : List ℕ) (a : ℕ) → length (free_cells h) + length h ≡ 9 → Contains (next_of tic_tac_toe_rules h) a → length (free_cells (h ++ a ∷ [])) + length (h ++ a ∷ []) ≡ 9
    more h a e c = omega (arith, e, length-free_more h a (next_free h a c), length-append h (a ∷ []))

pub nine_moves : (h : List ℕ) → IsPlay tic_tac_toe_rules h → length h ≤ 9
nine_moves h play = omega (arith, nine_cells h play)

-- each number of a play is a cell
pub play_small : (h : List ℕ) → IsPlay tic_tac_toe_rules h → All (λ a. a < 9) h
play_small = of_plays tic_tac_toe_rules (All (λ a. a < 9)) (All-nil (λ a. a < 9))
    (λ h a small c. All-push (λ a. a < 9) h a small (All-contains (λ a. a < 9) (free_cells h) a (free_small h) (next_free h a c)))

-- a legal number is a cell
pub legal_small : (h : List ℕ) (p a : ℕ) → Contains (tic_tac_toe_rules.legal h p) a → a < 9
legal_small h p a c = All-contains (λ a. a < 9) (free_cells h) a (free_small h) (for_numbers (tic_tac_toe_turns.place h) (free_cells h) p a c)

pub next_small : (h : List ℕ) (a : ℕ) → Contains (next_of tic_tac_toe_rules h) a → a < 9
next_small h a c = All-contains (λ a. a < 9) (free_cells h) a (free_small h) (next_free h a c)
