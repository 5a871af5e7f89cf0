-- Each information state has a row.
use Rattle.std.proofs.Common.{◌≡◌, ℕ, suc, ◌<◌, Bool, true, false, cond, List, [], ◌∷◌, length, refl, ap, sym, subst, ◌∙◌, arith}
use Rattle.std.specs.Str.{bytes_eq}
use Rattle.std.specs.List.{All}
use Rattle.std.proofs.lemmas.Slice.Eq.{bytes_eq-Decides}
use Rattle.std.proofs.lemmas.List.Elements.{All-nil, All-cons, All-head, All-tail, All-get_or, All-weaker}
use Rattle.spiel_tree.specs.Rows.{Row}
use Rattle.spiel_tree.specs.FirstSeen.{first_seen, text_at, with_text}
use Rattle.spiel_tree.specs.Flat.{infos, moves, row_at}
use Rattle.spiel_tree.specs.States.{InfoState, decides, first_row, state_at, states_below, texts_seen}
use Rattle.spiel_tree.proofs.StateNumbers.{state_there}
use Rattle.spiel_tree.proofs.StateCounts.{state_split}

all_with : (P : List ℕ → Type 0) (seen : List (List ℕ)) (t : List ℕ) → All P seen → P t → All P (with_text seen t)
all_with P [] t are here = All-cons P t [] here (All-nil P)
all_with P (x ∷ seen) t are here =
    All-cons P x (cond (bytes_eq t x) seen (with_text seen t)) (All-head P x seen are)
    (by (bytes_eq t x) (All-tail P x seen are) (all_with P seen t (All-tail P x seen are) here))
  where
    by : (b : Bool) → All P seen → All P (with_text seen t) → All P (cond b seen (with_text seen t))
    by true some more = some
    by false some more = more

all_first_seen : (P : List ℕ → Type 0) (seen xs : List (List ℕ)) → All P seen → All P xs → All P (first_seen seen xs)
all_first_seen P seen [] are more = are
all_first_seen P seen (t ∷ xs) are more = all_first_seen P (with_text seen t) xs (all_with P seen t are (All-head P t xs more)) (All-tail P t xs more)

-- what a player sees somewhere has a first row
infos_there : (p : ℕ) (rows : List Row) → All (λ t. first_row p t rows < length rows) (infos p rows)
infos_there p [] = All-nil (λ t. 0 < 0)
infos_there p (row ∷ rows) = by (moves p row.here.place) refl
    (All-weaker (λ t. first_row p t rows < length rows) (λ t. first_row p t (row ∷ rows) < length (row ∷ rows)) (λ t l. later t (decides p t row) l) (infos p rows) (infos_there p rows))
  where
    later : (t : List ℕ) (b : Bool) → first_row p t rows < length rows → cond b 0 (suc (first_row p t rows)) < suc (length rows)
    later t true l = omega arith
    later t false l = omega (arith, l)

    here : (b : Bool) → b ≡ true → cond b 0 (suc (first_row p row.here.info rows)) < suc (length rows)
    here true e = omega arith
    here false e = cc

    by : (b : Bool) → moves p row.here.place ≡ b → All (λ t. first_row p t (row ∷ rows) < length (row ∷ rows)) (infos p rows)
        → All (λ t. first_row p t (row ∷ rows) < length (row ∷ rows)) (cond b (row.here.info ∷ infos p rows) (infos p rows))
    by true e more =
        All-cons (λ t. first_row p t (row ∷ rows) < length (row ∷ rows)) row.here.info (infos p rows)
        (here (decides p row.here.info row) (ap (λ b. cond b (bytes_eq row.here.info row.here.info) false) e ∙ (bytes_eq-Decides row.here.info row.here.info).1 refl)) more
    by false e more = more

-- each information state has a first row
pub first_row_there : (players : ℕ) (rows : List Row) (s : ℕ) → s < length (states_below players rows) → first_row (state_at players rows s).player (state_at players rows s).text rows < length rows
first_row_there players rows s l =
    let split = state_split players rows s l in
    let p = split.player in
    let is : state_at players rows s ≡ record { player = p; text = text_at (texts_seen p rows) split.number } =
    ap (λ (n : ℕ). state_at players rows n) split.is ∙ state_there players p split.number rows split.low split.within in
    subst (λ (state : InfoState). first_row state.player state.text rows < length rows) (sym is)
    (All-get_or (λ t. first_row p t rows < length rows) (texts_seen p rows) split.number [] split.within
    (all_first_seen (λ t. first_row p t rows < length rows) [] (infos p rows) (All-nil (λ t. first_row p t rows < length rows)) (infos_there p rows)))

-- the first row of an information state is one of its rows
pub first_decides : (p : ℕ) (text : List ℕ) (rows : List Row) → first_row p text rows < length rows → decides p text (row_at rows (first_row p text rows)) ≡ true
first_decides p text [] l = absurd (omega arith)
first_decides p text (row ∷ rows) l = by (decides p text row) refl (first_decides p text rows) l
  where
    by : (b : Bool) → decides p text row ≡ b → (first_row p text rows < length rows → decides p text (row_at rows (first_row p text rows)) ≡ true)
        → cond b 0 (suc (first_row p text rows)) < suc (length rows) → decides p text (row_at (row ∷ rows) (cond b 0 (suc (first_row p text rows)))) ≡ true
    by true e later l = e
    by false e later l = later (omega arith)
