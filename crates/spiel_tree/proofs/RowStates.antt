-- The information state of a row of a tree.
use Rattle.std.proofs.Common.{◌≡◌, ℕ, ◌<◌, List, length, Option, ap, sym, subst, ◌∙◌, refl}
use Rattle.std.specs.Prelude.{IfSome}
use Rattle.spiel_api.specs.declared.place.Place.{Place}
use Rattle.spiel_api.specs.declared.place.Place.TheVariants.{End, Chance, Move, Joint}
use Rattle.spiel_tree.specs.declared.flat.Rows.{Rows}
use Rattle.spiel_tree.specs.FirstSeen.{place_of_text}
use Rattle.spiel_tree.specs.Rows.{Row}
use Rattle.spiel_tree.specs.Flat.{row_at, rows_of}
use Rattle.spiel_tree.specs.States.{InfoState, first_row, number_at, numbers_of, state_at, state_number, state_of, states_below, texts_seen}
use Rattle.spiel_tree.specs.Faults.{IsFaultless}
use Rattle.spiel_tree.specs.Trees.{IsTree, Whole}
use Rattle.spiel_tree.proofs.Decisions.{like_first}
use Rattle.spiel_tree.proofs.FirstSeen.{text_at-place}
use Rattle.spiel_tree.proofs.StateNumbers.{state_there}
use Rattle.spiel_tree.proofs.StateReading.{HasOwn, number_if, own_here}

-- the information state with the number of a player's text
own_state : (players : ℕ) (rows : List Row) (p : ℕ) (info : List ℕ) → p < players → place_of_text (texts_seen p rows) info < length (texts_seen p rows)
    → state_at players rows (state_number rows p info) ≡ record { player = p; text = info }
own_state players rows p info low within =
    state_there players p (place_of_text (texts_seen p rows) info) rows low within
    ∙ ap (λ (text : List ℕ). record { player = p; text = text }) (text_at-place (texts_seen p rows) info within)

-- where nothing is wrong, the mover has the numbers of the first row of the state
same_numbers_at : (players : ℕ) (rows : List Row) (k : ℕ) → IsFaultless rows → k < length rows → (place : Place) → (row_at rows k).here.place ≡ place
    → HasOwn players rows place (row_at rows k).here.info → IfSome (number_at rows place (row_at rows k).here.info) (λ s. numbers_of players rows s ≡ (row_at rows k).here.numbers)
same_numbers_at players rows k faultless l End e own = tt
same_numbers_at players rows k faultless l Chance e own = tt
same_numbers_at players rows k faultless l (Joint p) e own = tt
same_numbers_at players rows k faultless l (Move p) e own =
    ap (λ (state : InfoState). (row_at rows (first_row state.player state.text rows)).here.numbers) (own_state players rows p (row_at rows k).here.info own.0 own.1)
    ∙ (like_first rows k p faultless l e).numbers

-- what the number of a row's information state tells
pub record IsRowState (tree : Whole) (k : ℕ) (state : Option ℕ) : Type 0 where
  pub within : IfSome state (λ s. s < length (states_below tree.players tree.rows))
  pub same_numbers : IfSome state (λ s. numbers_of tree.players tree.rows s ≡ (row_at tree.rows k).here.numbers)

row_state_of : (tree : Whole) (flat : Rows) (starts firsts : List ℕ) (k : ℕ) → IsTree tree flat starts firsts → k < length tree.rows → IsRowState tree k (state_of tree.rows (row_at tree.rows k))
row_state_of tree flat starts firsts k is l =
    let below : k < length (rows_of flat) = subst (λ (rows : List Row). k < length rows) (sym is.rows) l in
    let number = number_if flat k is.built below in
    let own = own_here flat k is.built below in
    record {
      within = subst (λ (rows : List Row). IfSome (state_of rows (row_at rows k)) (λ s. s < length (states_below tree.players rows))) is.rows
          (subst (λ (n : ℕ). IfSome (state_of (rows_of flat) (row_at (rows_of flat) k)) (λ s. s < length (states_below n (rows_of flat)))) is.players number);
      same_numbers = same_numbers_at tree.players tree.rows k is.game.faultless l (row_at tree.rows k).here.place refl
          (subst (λ (rows : List Row). HasOwn tree.players rows (row_at rows k).here.place (row_at rows k).here.info) is.rows
          (subst (λ (n : ℕ). HasOwn n (rows_of flat) (row_at (rows_of flat) k).here.place (row_at (rows_of flat) k).here.info) is.players own));
    }

-- the same of a tree that is seen so
pub row_state_is : (seen tree : Whole) (flat : Rows) (starts firsts : List ℕ) (k : ℕ) (state : Option ℕ) → IsTree seen flat starts firsts → seen ≡ tree → k < length tree.rows
    → state ≡ state_of (rows_of flat) (row_at (rows_of flat) k) → IsRowState tree k state
row_state_is seen tree flat starts firsts k state is e l state_is =
    let here : IsTree tree flat starts firsts = subst (λ (t : Whole). IsTree t flat starts firsts) e is in
    let same : state ≡ state_of tree.rows (row_at tree.rows k) = state_is ∙ ap (λ (rows : List Row). state_of rows (row_at rows k)) here.rows in
    subst (IsRowState tree k) (sym same) (row_state_of tree flat starts firsts k here l)
