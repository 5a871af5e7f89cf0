-- Only who moved last can have made a line.
use Rattle.std.proofs.Common.{◌≡◌, ℕ, ◌-◌, ◌%◌, Bool, false, ◌||◌, List, [], ◌∷◌, ◌++◌, length, refl, ap, sym, ◌∙◌, arith, ◌==◌, ⊎_elim, length-append}
use Rattle.std.specs.List.{Contains}
use Rattle.std.proofs.lemmas.Bool.{cases_eq, cond_both, or_parts}
use Rattle.spiel_api.specs.declared.place.Place.TheVariants.{End, Move}
use Rattle.spiel_api.specs.Rules.{next_at, next_of}
use Rattle.spiel_api.specs.Plays.{IsPlay}
use Rattle.spiel_api.specs.Walks.{is_in}
use Rattle.spiel_api.specs.Turns.{numbers_for}
use Rattle.spiel_api.proofs.Members.{none_of_none, or_false}
use Rattle.spiel_api.proofs.Inductions.{of_plays}
use Rattle.spiel_board.specs.TicTacToe.{cells, has_three, has_line, is_over, free_cells, tic_tac_toe_rules}
use Rattle.spiel_board.proofs.Boards.{cells_of-push}

-- who moves next has no line
line_of_others : (h : List ℕ) (a : ℕ) → (has_line 0 h ≡ false) × (has_line 1 h ≡ false) → has_line (length (h ++ a ∷ []) % 2) (h ++ a ∷ []) ≡ false
line_of_others h a none = ⊎_elim first second (cases_eq (length h % 2) 0)
  where
    first : length h % 2 ≡ 0 → has_line (length (h ++ a ∷ []) % 2) (h ++ a ∷ []) ≡ false
    first e =
        let next : length (h ++ a ∷ []) % 2 ≡ 1 = omega (arith, length-append h (a ∷ [])) in
        ap (λ p. has_line p (h ++ a ∷ [])) next ∙ ap (λ (xs : List ℕ). has_three (λ cell. is_in xs cell)) ((cells_of-push h a).0 e).noughts ∙ none.1

    second : (length h % 2 ≡ 0 → ⊥) → has_line (length (h ++ a ∷ []) % 2) (h ++ a ∷ []) ≡ false
    second ne =
        let odd : length h % 2 ≡ 1 = omega arith in
        let next : length (h ++ a ∷ []) % 2 ≡ 0 = omega (arith, length-append h (a ∷ [])) in
        ap (λ p. has_line p (h ++ a ∷ [])) next ∙ ap (λ (xs : List ℕ). has_three (λ cell. is_in xs cell)) ((cells_of-push h a).1 odd).crosses ∙ none.0

-- where there is a number, nobody has a line
goes_on : (h : List ℕ) (a : ℕ) → Contains (next_of tic_tac_toe_rules h) a → (has_line 0 h ≡ false) × (has_line 1 h ≡ false)
goes_on h a c =
    let on : is_over h ≡ false = cond_both (is_over h) End (Move (length h % 2)) (λ place. Contains (next_at place (numbers_for place (free_cells h))) a → is_over h ≡ false) (λ e c. none_of_none a c) (λ e c. e) c in
    or_parts (has_line 0 h) (has_line 1 h) (or_parts (has_line 0 h || has_line 1 h) (length h == 9) on).0

no_line_yet : has_line 0 [] ≡ false
unfolding cells has_three
no_line_yet = refl

next_has_none : (h : List ℕ) → IsPlay tic_tac_toe_rules h → has_line (length h % 2) h ≡ false
next_has_none = of_plays tic_tac_toe_rules (λ h. has_line (length h % 2) h ≡ false) no_line_yet (λ h a before c. line_of_others h a (goes_on h a c))

-- a line is that of who moved last
pub over_by_last : (h : List ℕ) (p : ℕ) → IsPlay tic_tac_toe_rules h → p ≡ 1 - length h % 2 → (has_line p h || length h == 9) ≡ is_over h
over_by_last h p play e = ⊎_elim first second (cases_eq (length h % 2) 0)
  where
    first : length h % 2 ≡ 0 → (has_line p h || length h == 9) ≡ is_over h
    first even =
        let last : p ≡ 1 = omega arith in
        let none : has_line 0 h ≡ false = ap (λ q. has_line q h) (sym even) ∙ next_has_none h play in
        rw (last, none) refl

    second : (length h % 2 ≡ 0 → ⊥) → (has_line p h || length h == 9) ≡ is_over h
    second ne =
        let odd : length h % 2 ≡ 1 = omega arith in
        let last : p ≡ 0 = omega arith in
        let none : has_line 1 h ≡ false = ap (λ q. has_line q h) (sym odd) ∙ next_has_none h play in
        rw (last, none) (ap (λ b. b || length h == 9) (sym (or_false (has_line 0 h))))

-- the same of numbers that are the play, where it is known whether there is a line
pub over_as_found : (h xs : List ℕ) (lined : Bool) → IsPlay tic_tac_toe_rules h → xs ≡ h → lined ≡ has_line (1 - length xs % 2) h → (lined || length xs == 9) ≡ is_over h
over_as_found h xs lined play e found =
    ap (λ b. b || length xs == 9) found ∙ ap (λ (ys : List ℕ). has_line (1 - length ys % 2) h || length ys == 9) e ∙ over_by_last h (1 - length h % 2) play refl
