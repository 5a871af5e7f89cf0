-- The two boards of a state, and the cells that players have marked.
use Rattle.std.proofs.Common.{◌≡◌, ℕ, ◌+◌, ◌<◌, ◌≤◌, ◌%◌, Bool, true, false, not, ◌||◌, List, [], ◌∷◌, ◌++◌, length, take, drop, get_or, set, cond, refl, ap, sym, subst, ◌∙◌, arith, ◌==◌}
use Rattle.std.specs.Prelude.{slice_index}
use Rattle.std.specs.List.{Contains, filter}
use Rattle.std.proofs.lemmas.Bool.{or_parts}
use Rattle.std.proofs.lemmas.List.{get_or_at, take-append-drop, take_all, set-set, set-get_or}
use Rattle.std.proofs.Math.Seq.{append_snoc}
use Rattle.std.proofs.lemmas.List.Elements.{filter_more, filter-append}
use Rattle.std.proofs.lemmas.List.Filters.{length-filter_more}
use Rattle.spiel_api.specs.Rules.{next_of}
use Rattle.spiel_api.specs.Plays.{IsPlay}
use Rattle.spiel_api.specs.Walks.{is_in}
use Rattle.spiel_api.proofs.PlayLemmas.{IsPlay-pushed, IsPlay-last, IsPlay-back}
use Rattle.spiel_board.specs.TicTacToe.{cells, cells_of, has_three, free_cells, tic_tac_toe_rules}
use Rattle.spiel_board.specs.declared.tic_tac_toe.TicTacToeState.{TicTacToeState}
use Rattle.spiel_board.specs.TicTacToeState.{marks, IsTicTacToeAt}
use Rattle.spiel_board.specs.TicTacToePlays.{length-cells, get_or-cells, get_or-marks, marks-push, free_unmarked, next_free, play_small, next_small}

-- the player whose turn it is marks the cell
pub record IsFirstMarking (h : List ℕ) (a : ℕ) : Type 0 where
  pub crosses : cells_of 0 (h ++ a ∷ []) ≡ cells_of 0 h ++ a ∷ []
  pub noughts : cells_of 1 (h ++ a ∷ []) ≡ cells_of 1 h

pub record IsSecondMarking (h : List ℕ) (a : ℕ) : Type 0 where
  pub crosses : cells_of 0 (h ++ a ∷ []) ≡ cells_of 0 h
  pub noughts : cells_of 1 (h ++ a ∷ []) ≡ cells_of 1 h ++ a ∷ []

pub cells_of-push : (h : List ℕ) (a : ℕ) → (length h % 2 ≡ 0 → IsFirstMarking h a) × (length h % 2 ≡ 1 → IsSecondMarking h a)
cells_of-push [] a = (λ e. record { crosses = refl; noughts = refl }, λ e. absurd (omega arith))
cells_of-push (x ∷ h) a = by (cells_of-push h a)
  where
    by : (length h % 2 ≡ 0 → IsFirstMarking h a) × (length h % 2 ≡ 1 → IsSecondMarking h a) → (length (x ∷ h) % 2 ≡ 0 → IsFirstMarking (x ∷ h) a) × (length (x ∷ h) % 2 ≡ 1 → IsSecondMarking (x ∷ h) a)
    by before = (
      λ e. let b = before.1 (omega arith) in record { crosses = ap (λ (xs : List ℕ). x ∷ xs) b.noughts; noughts = b.crosses },
      λ e. let b = before.0 (omega arith) in record { crosses = ap (λ (xs : List ℕ). x ∷ xs) b.noughts; noughts = b.crosses },
    )

-- a cell is marked by one of the players
or_swap : (a b c : Bool) → (a || (b || c)) ≡ ((a || c) || b)
or_swap true b c = refl
or_swap false true true = refl
or_swap false true false = refl
or_swap false false true = refl
or_swap false false false = refl

pub is_in-players : (h : List ℕ) (c : ℕ) → is_in h c ≡ (is_in (cells_of 0 h) c || is_in (cells_of 1 h) c)
is_in-players [] c = refl
is_in-players (x ∷ h) c = rw (is_in-players h c) (or_swap (x == c) (is_in (cells_of 0 h) c) (is_in (cells_of 1 h) c))

-- a line on a board is a line of the marked cells
pub has_three-marks : (xs : List ℕ) (board : List Bool) → board ≡ marks xs → has_three (λ cell. get_or board cell false) ≡ has_three (λ cell. is_in xs cell)
unfolding cells has_three
has_three-marks xs board e = ap (λ (b : List Bool). has_three (λ cell. get_or b cell false)) e

-- the free cell that stands behind so many others
pub free_at : (h : List ℕ) (k n : ℕ) → k < 9 → is_in h k ≡ false → n ≡ length (filter (λ cell. not (is_in h cell)) (take k cells)) → slice_index (free_cells h) n ≡ k
free_at h k n l free e =
    let p : ℕ → Bool = λ cell. not (is_in h cell) in
    let within : k < length cells = omega (arith, length-cells) in
    let passed : filter p (take (k + 1) cells) ≡ filter p (take k cells) ++ k ∷ [] =
    filter_more p cells k 0 within ∙ rw (get_or-cells k 0 l, free) refl in
    let whole : free_cells h ≡ filter p (take k cells) ++ k ∷ filter p (drop (k + 1) cells) =
    ap (filter p) (sym (take-append-drop (k + 1) cells)) ∙ filter-append p (take (k + 1) cells) (drop (k + 1) cells)
    ∙ ap (λ (xs : List ℕ). xs ++ filter p (drop (k + 1) cells)) passed ∙ append_snoc (filter p (take k cells)) k (filter p (drop (k + 1) cells)) in
    ap (λ (xs : List ℕ). slice_index xs n) whole ∙ get_or_at (filter p (take k cells)) k (filter p (drop (k + 1) cells)) 0 n (sym e)

-- one cell more was passed
pub passed_more : (h : List ℕ) (k : ℕ) → k < 9 → length (filter (λ cell. not (is_in h cell)) (take (k + 1) cells)) ≡ length (filter (λ cell. not (is_in h cell)) (take k cells)) + cond (not (is_in h k)) 1 0
passed_more h k l = length-filter_more (λ cell. not (is_in h cell)) cells k 0 (omega (arith, length-cells)) ∙ ap (λ a. length (filter (λ cell. not (is_in h cell)) (take k cells)) + cond (not (is_in h a)) 1 0) (get_or-cells k 0 l)

-- all cells were passed
pub passed_all : (h : List ℕ) (k : ℕ) → 9 ≤ k → filter (λ cell. not (is_in h cell)) (take k cells) ≡ free_cells h
passed_all h k l = ap (filter (λ cell. not (is_in h cell))) (take_all k cells (omega (arith, length-cells)))

-- whether a cell is marked, as two boards tell it
pub boards_tell : (h : List ℕ) (crosses noughts : List Bool) (k : ℕ) → crosses ≡ marks (cells_of 0 h) → noughts ≡ marks (cells_of 1 h) → k < 9 → (get_or crosses k false || get_or noughts k false) ≡ is_in h k
boards_tell h crosses noughts k e f l =
    rw (e, f) (ap (λ b. b || get_or (marks (cells_of 1 h)) k false) (get_or-marks (cells_of 0 h) k false l)
    ∙ ap (λ b. is_in (cells_of 0 h) k || b) (get_or-marks (cells_of 1 h) k false l) ∙ sym (is_in-players h k))

-- an empty board
pub marks-nil : marks [] ≡ false ∷ false ∷ false ∷ false ∷ false ∷ false ∷ false ∷ false ∷ false ∷ []
unfolding cells
marks-nil = refl

-- a move of player 0, and then of player 1
pub after_first : (s t : TicTacToeState) (a : ℕ) → IsTicTacToeAt s → Contains (next_of tic_tac_toe_rules s.history) a → length s.history % 2 ≡ 0 → t.history ≡ s.history ++ a ∷ [] → t.crosses ≡ set s.crosses a true → t.noughts ≡ s.noughts → IsTicTacToeAt t
after_first s t a at c e h x o =
    let small : a < 9 = next_small s.history a c in
    let marking : IsFirstMarking s.history a = (cells_of-push s.history a).0 e in
    record {
      play = IsPlay-pushed tic_tac_toe_rules s.history t.history a at.play c h;
      crosses = x ∙ ap (λ (b : List Bool). set b a true) at.crosses ∙ sym (marks-push (cells_of 0 s.history) a small) ∙ ap marks (sym marking.crosses) ∙ ap (λ (i : List ℕ). marks (cells_of 0 i)) (sym h);
      noughts = o ∙ at.noughts ∙ ap marks (sym marking.noughts) ∙ ap (λ (i : List ℕ). marks (cells_of 1 i)) (sym h);
    }

pub after_second : (s t : TicTacToeState) (a : ℕ) → IsTicTacToeAt s → Contains (next_of tic_tac_toe_rules s.history) a → length s.history % 2 ≡ 1 → t.history ≡ s.history ++ a ∷ [] → t.crosses ≡ s.crosses → t.noughts ≡ set s.noughts a true → IsTicTacToeAt t
after_second s t a at c e h x o =
    let small : a < 9 = next_small s.history a c in
    let marking : IsSecondMarking s.history a = (cells_of-push s.history a).1 e in
    record {
      play = IsPlay-pushed tic_tac_toe_rules s.history t.history a at.play c h;
      crosses = x ∙ at.crosses ∙ ap marks (sym marking.crosses) ∙ ap (λ (i : List ℕ). marks (cells_of 0 i)) (sym h);
      noughts = o ∙ ap (λ (b : List Bool). set b a true) at.noughts ∙ sym (marks-push (cells_of 1 s.history) a small) ∙ ap marks (sym marking.noughts) ∙ ap (λ (i : List ℕ). marks (cells_of 1 i)) (sym h);
    }

-- a mark taken back
marks-back : (xs : List ℕ) (a : ℕ) → a < 9 → is_in xs a ≡ false → set (marks (xs ++ a ∷ [])) a false ≡ marks xs
marks-back xs a l none =
    ap (λ (b : List Bool). set b a false) (marks-push xs a l) ∙ set-set (marks xs) a true false
    ∙ ap (λ (m : Bool). set (marks xs) a m) (sym (get_or-marks xs a false l ∙ none)) ∙ set-get_or (marks xs) a false

-- neither player has marked the cell of the next move
unmarked : (h : List ℕ) (a : ℕ) → Contains (next_of tic_tac_toe_rules h) a → (is_in (cells_of 0 h) a ≡ false) × (is_in (cells_of 1 h) a ≡ false)
unmarked h a c = or_parts (is_in (cells_of 0 h) a) (is_in (cells_of 1 h) a) (sym (is_in-players h a) ∙ free_unmarked h a (next_free h a c))

-- the last number of a play was legal
pub last_legal : (h i : List ℕ) (a : ℕ) → IsPlay tic_tac_toe_rules h → h ≡ i ++ a ∷ [] → Contains (next_of tic_tac_toe_rules i) a
last_legal h i a play e = IsPlay-last tic_tac_toe_rules i a (subst (IsPlay tic_tac_toe_rules) e play)

-- a move of player 0 taken back, and then of player 1
pub before_first : (s t : TicTacToeState) (h : List ℕ) (a : ℕ) → IsTicTacToeAt s → s.history ≡ h ++ a ∷ [] → length h % 2 ≡ 0 → t.history ≡ h → t.crosses ≡ set s.crosses a false → t.noughts ≡ s.noughts → IsTicTacToeAt t
before_first s t h a at e first f x o =
    let c = last_legal s.history h a at.play e in
    let small : a < 9 = next_small h a c in
    let marking : IsFirstMarking h a = (cells_of-push h a).0 first in
    let crosses : s.crosses ≡ marks (cells_of 0 h ++ a ∷ []) = at.crosses ∙ ap (λ (i : List ℕ). marks (cells_of 0 i)) e ∙ ap marks marking.crosses in
    let noughts : s.noughts ≡ marks (cells_of 1 h) = at.noughts ∙ ap (λ (i : List ℕ). marks (cells_of 1 i)) e ∙ ap marks marking.noughts in
    record {
      play = IsPlay-back tic_tac_toe_rules s.history t.history h a at.play e f;
      crosses = x ∙ ap (λ (b : List Bool). set b a false) crosses ∙ marks-back (cells_of 0 h) a small (unmarked h a c).0 ∙ ap (λ (i : List ℕ). marks (cells_of 0 i)) (sym f);
      noughts = o ∙ noughts ∙ ap (λ (i : List ℕ). marks (cells_of 1 i)) (sym f);
    }

pub before_second : (s t : TicTacToeState) (h : List ℕ) (a : ℕ) → IsTicTacToeAt s → s.history ≡ h ++ a ∷ [] → length h % 2 ≡ 1 → t.history ≡ h → t.crosses ≡ s.crosses → t.noughts ≡ set s.noughts a false → IsTicTacToeAt t
before_second s t h a at e second f x o =
    let c = last_legal s.history h a at.play e in
    let small : a < 9 = next_small h a c in
    let marking : IsSecondMarking h a = (cells_of-push h a).1 second in
    let crosses : s.crosses ≡ marks (cells_of 0 h) = at.crosses ∙ ap (λ (i : List ℕ). marks (cells_of 0 i)) e ∙ ap marks marking.crosses in
    let noughts : s.noughts ≡ marks (cells_of 1 h ++ a ∷ []) = at.noughts ∙ ap (λ (i : List ℕ). marks (cells_of 1 i)) e ∙ ap marks marking.noughts in
    record {
      play = IsPlay-back tic_tac_toe_rules s.history t.history h a at.play e f;
      crosses = x ∙ crosses ∙ ap (λ (i : List ℕ). marks (cells_of 0 i)) (sym f);
      noughts = o ∙ ap (λ (b : List Bool). set b a false) noughts ∙ marks-back (cells_of 1 h) a small (unmarked h a c).1 ∙ ap (λ (i : List ℕ). marks (cells_of 1 i)) (sym f);
    }

-- a number of a play, read from another list that is the play
pub cell_at : (h xs : List ℕ) (k : ℕ) → IsPlay tic_tac_toe_rules h → xs ≡ h → k < length xs → get_or xs k 0 < 9
cell_at h xs k play e l = subst (λ (ys : List ℕ). k < length ys → get_or ys k 0 < 9) (sym e) (λ m. play_small h play k 0 m) l
