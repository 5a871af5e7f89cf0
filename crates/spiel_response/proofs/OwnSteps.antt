-- A player's own steps on the ways of a tree: their states rise, and they are the same at all rows of an
-- information state.
use Rattle.std.proofs.Common.{◌≡◌, ℕ, zero, suc, ◌<◌, ◌≤◌, Bool, true, false, cond, ◌||◌, List, [], ◌∷◌, ◌++◌, length, map, refl, ap, ap₂, sym, subst, ◌∙◌, arith, eqb, eqb-true, append-nil}
use Rattle.std.specs.Prelude.{slice_index}
use Rattle.std.specs.List.{AllByRecursion}
use Rattle.std.specs.Str.{bytes_eq}
use Rattle.std.proofs.lemmas.Bool.{true≢false, false≢true}
use Rattle.std.proofs.lemmas.List.{map-append}
use Rattle.std.proofs.lemmas.Slice.Eq.{bytes_eq-Decides}
use Rattle.spiel_api.specs.Place.{IsAmongPlayers}
use Rattle.spiel_tree.specs.FirstSeen.{place_of_text, text_at}
use Rattle.spiel_tree.specs.Rows.{Row, Step, place_of_number, taken, way_on}
use Rattle.spiel_tree.specs.Flat.{moves, row_at}
use Rattle.spiel_tree.specs.States.{InfoState, decides, first_row, numbers_of, state_at, state_number, states_below, texts_seen}
use Rattle.spiel_tree.specs.Closed.{GoesFrom}
use Rattle.spiel_tree.specs.Faults.{Choice, own_past}
use Rattle.spiel_tree.specs.Trees.{IsGameTree, Whole}
use Rattle.spiel_tree.proofs.Decisions.{like_first}
use Rattle.spiel_tree.proofs.FirstSeen.{text_at-place}
use Rattle.spiel_tree.proofs.GameNumbers.{row_rises}
use Rattle.spiel_tree.proofs.OfGame.{sound_rows}
use Rattle.spiel_tree.proofs.Parents.{tree_goes_from, tree_root}
use Rattle.spiel_tree.proofs.PerfectRecall.{tree_recall}
use Rattle.spiel_tree.proofs.StateNumbers.{one_player_more, state_there}
use Rattle.spiel_tree.proofs.Ways.{place_is}
use Rattle.spiel_response.specs.Responses.{OwnStep}
use Rattle.spiel_response.specs.Remembered.{IsRising, passes, past}
use Rattle.spiel_response.specs.BestResponses.{own_steps}
use Rattle.spiel_response.proofs.SeenTexts.{earlier_number, move_is, seen_at}

-- ---- one step more
pub own_steps-append : (rows : List Row) (p : ℕ) (xs ys : List Step) → own_steps rows p (xs ++ ys) ≡ own_steps rows p xs ++ own_steps rows p ys
own_steps-append rows p [] ys = refl
own_steps-append rows p (step ∷ xs) ys = by (moves p step.at.place) (own_steps-append rows p xs ys)
  where
    here : OwnStep
    here = record { state = state_number rows p step.at.info; index = step.index }

    by : (b : Bool) → own_steps rows p (xs ++ ys) ≡ own_steps rows p xs ++ own_steps rows p ys
        → cond b (here ∷ own_steps rows p (xs ++ ys)) (own_steps rows p (xs ++ ys)) ≡ cond b (here ∷ own_steps rows p xs) (own_steps rows p xs) ++ own_steps rows p ys
    by true e = ap (λ (l : List OwnStep). here ∷ l) e
    by false e = e

own_past-append : (p : ℕ) (xs ys : List Step) → own_past p (xs ++ ys) ≡ own_past p xs ++ own_past p ys
own_past-append p [] ys = refl
own_past-append p (step ∷ xs) ys = by (moves p step.at.place) (own_past-append p xs ys)
  where
    here : Choice
    here = record { seen = step.at.info; number = taken step }

    by : (b : Bool) → own_past p (xs ++ ys) ≡ own_past p xs ++ own_past p ys
        → cond b (here ∷ own_past p (xs ++ ys)) (own_past p (xs ++ ys)) ≡ cond b (here ∷ own_past p xs) (own_past p xs) ++ own_past p ys
    by true e = ap (λ (l : List Choice). here ∷ l) e
    by false e = e

-- what a step from a row adds
abbrev pub step_at : List Row → ℕ → Row → ℕ → OwnStep
step_at rows p row index = record { state = state_number rows p row.here.info; index = index }

pub own_steps-on : (rows : List Row) (p : ℕ) (row : Row) (index : ℕ) → own_steps rows p (way_on row index) ≡ own_steps rows p row.way ++ cond (moves p row.here.place) (step_at rows p row index ∷ []) []
own_steps-on rows p row index = own_steps-append rows p row.way (record { at = row.here; index = index } ∷ [])

-- ---- rows at which a player moves
pub text_within : (rows : List Row) (p k : ℕ) → k < length rows → moves p (row_at rows k).here.place ≡ true → place_of_text (texts_seen p rows) (row_at rows k).here.info < length (texts_seen p rows)
text_within rows p k l e = seen_at p [] rows k l e

-- the state's number is one of the player's
pub state_within : (rows : List Row) (p k : ℕ) → k < length rows → moves p (row_at rows k).here.place ≡ true → state_number rows p (row_at rows k).here.info < length (states_below (suc p) rows)
state_within rows p k l e = omega (arith, text_within rows p k l e, one_player_more p rows)

-- rows with one number show one text
pub one_text : (rows : List Row) (p k l : ℕ) → k < length rows → l < length rows → moves p (row_at rows k).here.place ≡ true → moves p (row_at rows l).here.place ≡ true
    → state_number rows p (row_at rows k).here.info ≡ state_number rows p (row_at rows l).here.info → (row_at rows k).here.info ≡ (row_at rows l).here.info
one_text rows p k l within other e f same =
    let place : place_of_text (texts_seen p rows) (row_at rows k).here.info ≡ place_of_text (texts_seen p rows) (row_at rows l).here.info = omega (arith, same) in
    sym (text_at-place (texts_seen p rows) (row_at rows k).here.info (text_within rows p k within e))
    ∙ ap (text_at (texts_seen p rows)) place
    ∙ text_at-place (texts_seen p rows) (row_at rows l).here.info (text_within rows p l other f)

-- ---- the tree of a game
-- a player who moves is one of the players
pub mover_below : (tree : Whole) → IsGameTree tree → (p k : ℕ) → k < length tree.rows → moves p (row_at tree.rows k).here.place ≡ true → p < tree.players
mover_below tree game p k l e = subst (IsAmongPlayers tree.players) (move_is p (row_at tree.rows k).here.place e) (sound_rows tree game k l).mover

-- the mover has the numbers of the information state
pub numbers_here : (tree : Whole) → IsGameTree tree → (p k : ℕ) → k < length tree.rows → moves p (row_at tree.rows k).here.place ≡ true
    → numbers_of tree.players tree.rows (state_number tree.rows p (row_at tree.rows k).here.info) ≡ (row_at tree.rows k).here.numbers
numbers_here tree game p k l e =
    let info = (row_at tree.rows k).here.info in
    let texts = texts_seen p tree.rows in
    let within = text_within tree.rows p k l e in
    let is : state_at tree.players tree.rows (state_number tree.rows p info) ≡ record { player = p; text = info } =
    state_there tree.players p (place_of_text texts info) tree.rows (mover_below tree game p k l e) within
    ∙ ap (λ (text : List ℕ). record { player = p; text = text }) (text_at-place texts info within) in
    ap (λ (state : InfoState). (row_at tree.rows (first_row state.player state.text tree.rows)).here.numbers) is
    ∙ (like_first tree.rows k p game.faultless l (move_is p (row_at tree.rows k).here.place e)).numbers

-- ---- the own past gives the own steps
abbrev step_of : Whole → ℕ → Choice → OwnStep
step_of tree p c = record {
  state = state_number tree.rows p c.seen;
  index = place_of_number (numbers_of tree.players tree.rows (state_number tree.rows p c.seen)) c.number;
}

steps_before : (tree : Whole) → IsGameTree tree → (p n k : ℕ) → k < n → k < length tree.rows → own_steps tree.rows p (row_at tree.rows k).way ≡ map (step_of tree p) (own_past p (row_at tree.rows k).way)
steps_before tree game p zero k m l = absurd (omega arith)
steps_before tree game p (suc n) zero m l =
    ap (own_steps tree.rows p) (tree_root tree game) ∙ sym (ap (λ (way : List Step). map (step_of tree p) (own_past p way)) (tree_root tree game))
steps_before tree game p (suc n) (suc k) m l =
    ap (own_steps rs p) from.way ∙ own_steps-on rs p parent from.index
    ∙ by (moves p parent.here.place) refl (steps_before tree game p n from.parent (omega (arith, from.before, m)) within)
    ∙ sym (map-append (step_of tree p) (own_past p parent.way) (cond (moves p parent.here.place) (choice ∷ []) []))
    ∙ ap (map (step_of tree p)) (sym (ap (own_past p) from.way ∙ own_past-append p parent.way (record { at = parent.here; index = from.index } ∷ [])))
  where
    rs : List Row
    rs = tree.rows

    from : GoesFrom tree.rows (suc k)
    from = tree_goes_from tree game (suc k) (omega arith) l

    within : from.parent < length tree.rows
    within = omega (arith, from.before, l)

    parent : Row
    parent = row_at tree.rows from.parent

    choice : Choice
    choice = record { seen = parent.here.info; number = slice_index parent.here.numbers from.index }

    by : (b : Bool) → moves p parent.here.place ≡ b → own_steps rs p parent.way ≡ map (step_of tree p) (own_past p parent.way)
        → own_steps rs p parent.way ++ cond b (step_at rs p parent from.index ∷ []) [] ≡ map (step_of tree p) (own_past p parent.way) ++ map (step_of tree p) (cond b (choice ∷ []) [])
    by true e ih =
        let there : numbers_of tree.players rs (state_number rs p parent.here.info) ≡ parent.here.numbers = numbers_here tree game p from.parent within e in
        let index : from.index ≡ place_of_number (numbers_of tree.players rs (state_number rs p parent.here.info)) (slice_index parent.here.numbers from.index) =
        sym (ap (λ (numbers : List ℕ). place_of_number numbers (slice_index parent.here.numbers from.index)) there ∙ place_is parent.here.numbers from.index (row_rises tree game from.parent within) from.legal) in
        ap₂ (λ (xs : List OwnStep) (i : ℕ). xs ++ record { state = state_number rs p parent.here.info; index = i } ∷ []) ih index
    by false e ih = ap (λ (xs : List OwnStep). xs ++ []) ih

-- so they are the same where the own pasts are
pub same_steps : (tree : Whole) → IsGameTree tree → (p k l : ℕ) → k < length tree.rows → l < length tree.rows → own_past p (row_at tree.rows k).way ≡ own_past p (row_at tree.rows l).way
    → own_steps tree.rows p (row_at tree.rows k).way ≡ own_steps tree.rows p (row_at tree.rows l).way
same_steps tree game p k l within other same =
    steps_before tree game p (suc k) k (omega arith) within ∙ ap (map (step_of tree p)) same ∙ sym (steps_before tree game p (suc l) l (omega arith) other)

-- as at all rows of an information state
pub state_steps : (tree : Whole) → IsGameTree tree → (p k l : ℕ) → k < length tree.rows → l < length tree.rows → moves p (row_at tree.rows k).here.place ≡ true → moves p (row_at tree.rows l).here.place ≡ true
    → state_number tree.rows p (row_at tree.rows k).here.info ≡ state_number tree.rows p (row_at tree.rows l).here.info
    → own_steps tree.rows p (row_at tree.rows k).way ≡ own_steps tree.rows p (row_at tree.rows l).way
state_steps tree game p k l within other e f same =
    same_steps tree game p k l within other (tree_recall tree game p k l (record {
      within = within;
      other_within = other;
      moves = move_is p (row_at tree.rows k).here.place e;
      other_moves = move_is p (row_at tree.rows l).here.place f;
      info = one_text tree.rows p k l within other e f same;
    }))

-- ---- each own step stands at an earlier row
pub record IsStepBefore (rows : List Row) (p k : ℕ) (s : OwnStep) : Type 0 where
  pub row : ℕ
  pub before : row < k
  pub moves : moves p (row_at rows row).here.place ≡ true
  pub state : s.state ≡ state_number rows p (row_at rows row).here.info

all-append : {X : Type 0} (P : X → Type 0) (xs ys : List X) → AllByRecursion P xs → AllByRecursion P ys → AllByRecursion P (xs ++ ys)
all-append P [] ys are more = more
all-append P (x ∷ xs) ys are more = (are.0, all-append P xs ys are.1 more)

all_with : {X : Type 0} (P Q : X → Type 0) → ((x : X) → P x → Q x) → (xs : List X) → AllByRecursion P xs → AllByRecursion Q xs
all_with P Q f [] are = tt
all_with P Q f (x ∷ xs) are = (f x are.0, all_with P Q f xs are.1)

rows_before : (tree : Whole) → IsGameTree tree → (p n k : ℕ) → k < n → k < length tree.rows → AllByRecursion (IsStepBefore tree.rows p k) (own_steps tree.rows p (row_at tree.rows k).way)
rows_before tree game p zero k m l = absurd (omega arith)
rows_before tree game p (suc n) zero m l = subst (λ (way : List Step). AllByRecursion (IsStepBefore tree.rows p 0) (own_steps tree.rows p way)) (sym (tree_root tree game)) tt
rows_before tree game p (suc n) (suc k) m l =
    subst (AllByRecursion (IsStepBefore tree.rows p (suc k))) (sym (ap (own_steps tree.rows p) from.way ∙ own_steps-on tree.rows p parent from.index))
    (all-append (IsStepBefore tree.rows p (suc k)) (own_steps tree.rows p parent.way) (cond (moves p parent.here.place) (step_at tree.rows p parent from.index ∷ []) [])
    (all_with (IsStepBefore tree.rows p from.parent) (IsStepBefore tree.rows p (suc k)) (λ s at. record { row = at.row; before = omega (arith, at.before, from.before); moves = at.moves; state = at.state }) (own_steps tree.rows p parent.way)
    (rows_before tree game p n from.parent (omega (arith, from.before, m)) (omega (arith, from.before, l))))
    (by (moves p parent.here.place) refl))
  where
    from : GoesFrom tree.rows (suc k)
    from = tree_goes_from tree game (suc k) (omega arith) l

    parent : Row
    parent = row_at tree.rows from.parent

    by : (b : Bool) → moves p parent.here.place ≡ b → AllByRecursion (IsStepBefore tree.rows p (suc k)) (cond b (step_at tree.rows p parent from.index ∷ []) [])
    by true e = (record { row = from.parent; before = from.before; moves = e; state = refl }, tt)
    by false e = tt

-- ---- the states rise
-- the first row of a row's information state is no later
first_no_later : (p : ℕ) (rows : List Row) (k : ℕ) → k < length rows → moves p (row_at rows k).here.place ≡ true → first_row p (row_at rows k).here.info rows ≤ k
first_no_later p [] k l e = absurd (omega arith)
first_no_later p (row ∷ rows) zero l e =
    let is : decides p row.here.info row ≡ true = ap (λ (b : Bool). cond b (bytes_eq row.here.info row.here.info) false) e ∙ (bytes_eq-Decides row.here.info row.here.info).1 refl in
    subst (λ (b : Bool). cond b 0 (suc (first_row p row.here.info rows)) ≤ 0) (sym is) (omega arith)
first_no_later p (row ∷ rows) (suc k) l e = by (decides p (row_at rows k).here.info row) (first_no_later p rows k (omega arith) e)
  where
    by : (b : Bool) → first_row p (row_at rows k).here.info rows ≤ k → cond b 0 (suc (first_row p (row_at rows k).here.info rows)) ≤ suc k
    by true m = omega arith
    by false m = omega arith

-- an own step on the way to a move is at a state before the move's
pub steps_below : (tree : Whole) → IsGameTree tree → (p k : ℕ) → k < length tree.rows → moves p (row_at tree.rows k).here.place ≡ true
    → AllByRecursion (λ s. s.state < state_number tree.rows p (row_at tree.rows k).here.info) (own_steps tree.rows p (row_at tree.rows k).way)
steps_below tree game p k l e =
    let info = (row_at tree.rows k).here.info in
    let f = first_row p info tree.rows in
    let early : f ≤ k = first_no_later p tree.rows k l e in
    let within : f < length tree.rows = omega (arith, early, l) in
    let same = same_steps tree game p f k within l (like_first tree.rows k p game.faultless l (move_is p (row_at tree.rows k).here.place e)).past in
    subst (AllByRecursion (λ s. s.state < state_number tree.rows p info)) same
    (all_with (IsStepBefore tree.rows p f) (λ s. s.state < state_number tree.rows p info)
    (λ s at. omega (arith, at.state, earlier_number p at.row info tree.rows at.before (omega (arith, within)) at.moves))
    (own_steps tree.rows p (row_at tree.rows f).way) (rows_before tree game p (suc f) f (omega arith) within))

rising-push : (count : ℕ → ℕ) (low high : ℕ) (steps : List OwnStep) (s : OwnStep) → IsRising count low high steps → low ≤ s.state → AllByRecursion (λ t. t.state < s.state) steps → s.state < high → s.index < count s.state
    → IsRising count low high (steps ++ s ∷ [])
rising-push count low high [] s r from are to legal = (from, to, legal, tt)
rising-push count low high (t ∷ steps) s r from are to legal = (r.0, r.1, r.2, rising-push count (suc t.state) high steps s r.3 are.0 are.1 to legal)

abbrev pub count_in : Whole → ℕ → ℕ
count_in tree i = length (numbers_of tree.players tree.rows i)

rising_before : (tree : Whole) → IsGameTree tree → (p n k : ℕ) → k < n → k < length tree.rows
    → IsRising (count_in tree) (length (states_below p tree.rows)) (length (states_below (suc p) tree.rows)) (own_steps tree.rows p (row_at tree.rows k).way)
rising_before tree game p zero k m l = absurd (omega arith)
rising_before tree game p (suc n) zero m l =
    subst (λ (way : List Step). IsRising (count_in tree) (length (states_below p tree.rows)) (length (states_below (suc p) tree.rows)) (own_steps tree.rows p way)) (sym (tree_root tree game)) tt
rising_before tree game p (suc n) (suc k) m l =
    subst (IsRising (count_in tree) (length (states_below p tree.rows)) (length (states_below (suc p) tree.rows))) (sym (ap (own_steps tree.rows p) from.way ∙ own_steps-on tree.rows p parent from.index))
    (by (moves p parent.here.place) refl (rising_before tree game p n from.parent (omega (arith, from.before, m)) within))
  where
    from : GoesFrom tree.rows (suc k)
    from = tree_goes_from tree game (suc k) (omega arith) l

    within : from.parent < length tree.rows
    within = omega (arith, from.before, l)

    parent : Row
    parent = row_at tree.rows from.parent

    by : (b : Bool) → moves p parent.here.place ≡ b → IsRising (count_in tree) (length (states_below p tree.rows)) (length (states_below (suc p) tree.rows)) (own_steps tree.rows p parent.way)
        → IsRising (count_in tree) (length (states_below p tree.rows)) (length (states_below (suc p) tree.rows)) (own_steps tree.rows p parent.way ++ cond b (step_at tree.rows p parent from.index ∷ []) [])
    by true e ih =
        rising-push (count_in tree) (length (states_below p tree.rows)) (length (states_below (suc p) tree.rows)) (own_steps tree.rows p parent.way) (step_at tree.rows p parent from.index) ih
        (omega arith) (steps_below tree game p from.parent within e) (state_within tree.rows p from.parent within e)
        (subst (λ (numbers : List ℕ). from.index < length numbers) (sym (numbers_here tree game p from.parent within e)) from.legal)
    by false e ih = subst (IsRising (count_in tree) (length (states_below p tree.rows)) (length (states_below (suc p) tree.rows))) (sym (append-nil (own_steps tree.rows p parent.way))) ih

pub rising_row : (tree : Whole) → IsGameTree tree → (p k : ℕ) → k < length tree.rows
    → IsRising (count_in tree) (length (states_below p tree.rows)) (length (states_below (suc p) tree.rows)) (own_steps tree.rows p (row_at tree.rows k).way)
rising_row tree game p k l = rising_before tree game p (suc k) k (omega arith) l

-- ---- recall
-- a row of the information state i, whose own steps are these
pub record IsAt (rows : List Row) (p i : ℕ) (steps : List OwnStep) : Type 0 where
  pub row : ℕ
  pub within : row < length rows
  pub moves : moves p (row_at rows row).here.place ≡ true
  pub state : state_number rows p (row_at rows row).here.info ≡ i
  pub steps_are : steps ≡ own_steps rows p (row_at rows row).way

passes-append : (i : ℕ) (xs ys : List OwnStep) → passes i (xs ++ ys) ≡ (passes i xs || passes i ys)
passes-append i [] ys = refl
passes-append i (s ∷ xs) ys = by (eqb s.state i) (passes-append i xs ys)
  where
    by : (b : Bool) → passes i (xs ++ ys) ≡ (passes i xs || passes i ys) → (b || passes i (xs ++ ys)) ≡ ((b || passes i xs) || passes i ys)
    by true e = refl
    by false e = e

past-append : (i : ℕ) (xs ys : List OwnStep) → passes i xs ≡ true → past i (xs ++ ys) ≡ past i xs
past-append i [] ys e = absurd (false≢true e)
past-append i (s ∷ xs) ys e = by (eqb s.state i) (past-append i xs ys) e
  where
    by : (b : Bool) → (passes i xs ≡ true → past i (xs ++ ys) ≡ past i xs) → (b || passes i xs) ≡ true → cond b [] (s ∷ past i (xs ++ ys)) ≡ cond b [] (s ∷ past i xs)
    by true ih e = refl
    by false ih e = ap (λ (l : List OwnStep). s ∷ l) (ih e)

past-push : (i : ℕ) (xs : List OwnStep) (s : OwnStep) → passes i xs ≡ false → eqb s.state i ≡ true → past i (xs ++ s ∷ []) ≡ xs
past-push i [] s e f = ap (λ (b : Bool). cond b [] (s ∷ [])) f
past-push i (t ∷ xs) s e f = by (eqb t.state i) (past-push i xs s) e
  where
    by : (b : Bool) → (passes i xs ≡ false → eqb s.state i ≡ true → past i (xs ++ s ∷ []) ≡ xs) → (b || passes i xs) ≡ false → cond b [] (t ∷ past i (xs ++ s ∷ [])) ≡ t ∷ xs
    by true ih e = absurd (true≢false e)
    by false ih e = ap (λ (l : List OwnStep). t ∷ l) (ih e f)

at_before : (tree : Whole) → IsGameTree tree → (p i n k : ℕ) → k < n → k < length tree.rows → passes i (own_steps tree.rows p (row_at tree.rows k).way) ≡ true
    → IsAt tree.rows p i (past i (own_steps tree.rows p (row_at tree.rows k).way))
at_before tree game p i zero k m l h = absurd (omega arith)
at_before tree game p i (suc n) zero m l h = absurd (false≢true (sym (ap (λ (way : List Step). passes i (own_steps tree.rows p way)) (tree_root tree game)) ∙ h))
at_before tree game p i (suc n) (suc k) m l h =
    subst (λ (steps : List OwnStep). IsAt tree.rows p i (past i steps)) (sym whole)
    (by (passes i (own_steps tree.rows p parent.way)) refl (at_before tree game p i n from.parent (omega (arith, from.before, m)) within))
  where
    from : GoesFrom tree.rows (suc k)
    from = tree_goes_from tree game (suc k) (omega arith) l

    within : from.parent < length tree.rows
    within = omega (arith, from.before, l)

    parent : Row
    parent = row_at tree.rows from.parent

    tail : List OwnStep
    tail = cond (moves p parent.here.place) (step_at tree.rows p parent from.index ∷ []) []

    whole : own_steps tree.rows p (row_at tree.rows (suc k)).way ≡ own_steps tree.rows p parent.way ++ tail
    whole = ap (own_steps tree.rows p) from.way ∙ own_steps-on tree.rows p parent from.index

    passed : (b : Bool) → passes i (own_steps tree.rows p parent.way) ≡ b → (b || passes i tail) ≡ true
    passed b e = ap (λ (c : Bool). c || passes i tail) (sym e) ∙ sym (passes-append i (own_steps tree.rows p parent.way) tail) ∙ ap (passes i) (sym whole) ∙ h

    here : (b : Bool) → moves p parent.here.place ≡ b → passes i (own_steps tree.rows p parent.way) ≡ false → passes i (cond b (step_at tree.rows p parent from.index ∷ []) []) ≡ true
        → IsAt tree.rows p i (past i (own_steps tree.rows p parent.way ++ cond b (step_at tree.rows p parent from.index ∷ []) []))
    here true e f g =
        let same : eqb (state_number tree.rows p parent.here.info) i ≡ true = or_none (eqb (state_number tree.rows p parent.here.info) i) g in
        record {
          row = from.parent;
          within = within;
          moves = e;
          state = eqb-true _ _ same;
          steps_are = past-push i (own_steps tree.rows p parent.way) (step_at tree.rows p parent from.index) f same;
        }
      where
        or_none : (c : Bool) → (c || false) ≡ true → c ≡ true
        or_none true q = refl
        or_none false q = q
    here false e f g = absurd (false≢true g)

    by : (b : Bool) → passes i (own_steps tree.rows p parent.way) ≡ b → (passes i (own_steps tree.rows p parent.way) ≡ true → IsAt tree.rows p i (past i (own_steps tree.rows p parent.way)))
        → IsAt tree.rows p i (past i (own_steps tree.rows p parent.way ++ tail))
    by true e ih = subst (IsAt tree.rows p i) (sym (past-append i (own_steps tree.rows p parent.way) tail e)) (ih e)
    by false e ih = here (moves p parent.here.place) refl e (passed false e)

-- the steps before an information state are those of a row of it
pub past_at : (tree : Whole) → IsGameTree tree → (p i k : ℕ) → k < length tree.rows → passes i (own_steps tree.rows p (row_at tree.rows k).way) ≡ true
    → IsAt tree.rows p i (past i (own_steps tree.rows p (row_at tree.rows k).way))
past_at tree game p i k l h = at_before tree game p i (suc k) k (omega arith) l h

-- so they are the same for all of its rows
pub one_past : (tree : Whole) → IsGameTree tree → (p i : ℕ) (xs ys : List OwnStep) → IsAt tree.rows p i xs → IsAt tree.rows p i ys → xs ≡ ys
one_past tree game p i xs ys a b =
    a.steps_are ∙ state_steps tree game p a.row b.row a.within b.within a.moves b.moves (a.state ∙ sym b.state) ∙ sym b.steps_are
