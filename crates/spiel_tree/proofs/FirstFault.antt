-- The first row of a decision's information state, and what is wrong there.
use Rattle.std.proofs.Common.{◌≡◌, ℕ, zero, suc, ◌+◌, ◌<◌, ◌≤◌, Bool, true, false, cond, List, [], ◌∷◌, length, refl, ap, sym, subst, ◌∙◌, arith, eq-eqb}
use Rattle.std.specs.Prelude.{slice_index, slice_index_or}
use Rattle.std.proofs.lemmas.Slice.Eq.{bytes_eq-Decides}
use Rattle.spiel_api.specs.declared.place.Place.{Place}
use Rattle.spiel_api.specs.declared.place.Place.TheVariants.{Move}
use Rattle.spiel_tree.specs.declared.flat.FlatRow.{FlatRow}
use Rattle.spiel_tree.specs.declared.flat.Rows.{Rows}
use Rattle.spiel_tree.specs.Rows.{Row}
use Rattle.spiel_tree.specs.FirstSeen.{text_at, IsNumberIn}
use Rattle.spiel_tree.specs.Flat.{row_at, rows_of, texts_of, info_in, HasNumber, IsBuilt}
use Rattle.spiel_tree.specs.States.{InfoState, states_below, texts_seen, decides, first_row, AreStarts, AreFirsts}
use Rattle.spiel_tree.specs.Faults.{against, fault_by, fault_at}
use Rattle.spiel_tree.proofs.Growing.{rows_length, below_by}
use Rattle.spiel_tree.proofs.Reading.{flat_row}
use Rattle.spiel_tree.proofs.StateNumbers.{one_player_more, players_within, state_there}

-- the first row of an information state is at most any
pub first_within : (p : ℕ) (text : List ℕ) (rows : List Row) (k : ℕ) → k < length rows → decides p text (row_at rows k) ≡ true → first_row p text rows ≤ k
first_within p text [] k l d = absurd (omega arith)
first_within p text (row ∷ rows) zero l d = rw d (omega arith)
first_within p text (row ∷ rows) (suc k) l d = by (decides p text row) (first_within p text rows k (omega arith) d)
  where
    by : (b : Bool) → first_row p text rows ≤ k → cond b 0 (suc (first_row p text rows)) ≤ suc k
    by true i = omega arith
    by false i = omega arith

-- whoever moves decides there
pub own_decides : (p : ℕ) (row : Row) → row.here.place ≡ Move p → decides p row.here.info row ≡ true
own_decides p row e = rw (e, eq-eqb p p refl) ((bytes_eq-Decides row.here.info row.here.info).1 refl)

-- at a decision the two tables lead to the first row of its information state
pub record IsDecision (t : Rows) (starts firsts : List ℕ) (k p text : ℕ) : Type 0 where
  pub player : p < length starts
  pub state : slice_index starts p + text < length firsts
  pub below : slice_index starts p + text < slice_index starts (suc p)
  pub first : slice_index firsts (slice_index starts p + text) < length (rows_of t)
  pub fault : fault_at (rows_of t) k ≡ against (row_at (rows_of t) (slice_index firsts (slice_index starts p + text))) (row_at (rows_of t) k) p (slice_index firsts (slice_index starts p + text)) k

pub decision : (t : Rows) (starts firsts : List ℕ) (k p : ℕ) (flat : FlatRow) → IsBuilt t → AreStarts (length t.texts.items) (rows_of t) starts → AreFirsts (length t.texts.items) (rows_of t) firsts
    → k < length (rows_of t) → flat ≡ slice_index_or t.flat k flat → flat.place ≡ Move p → IsDecision t starts firsts k p flat.text
decision t starts firsts k p flat built by_player by_state l e moves =
    let texts = t.texts.items in
    let rows = rows_of t in
    let text = flat.text in
    let is = flat_row t k flat built (omega (arith, l, rows_length t built)) e in
    let place : (row_at rows k).here.place ≡ Move p = is.place ∙ moves in
    let has : IsNumberIn (texts_of texts p) text = subst (λ (q : Place). HasNumber texts q text) moves is.has in
    let info : (row_at rows k).here.info ≡ text_at (texts_of texts p) text = is.info ∙ ap (λ (q : Place). info_in texts q text) moves in
    let below : p < length texts = below_by texts p text has in
    let seen : texts_of texts p ≡ texts_seen p rows = built.texts p below in
    let within : text < length (texts_seen p rows) = subst (λ (xs : List (List ℕ)). text < length xs) seen has.within in
    let start : slice_index starts p ≡ length (states_below p rows) = by_player.each p (omega (arith, below)) in
    let state : length (states_below p rows) + text < length (states_below (length texts) rows) = omega (arith, within, players_within (length texts) p rows below) in
    let first : slice_index firsts (slice_index starts p + text) ≡ first_row p (row_at rows k).here.info rows =
    ap (λ (n : ℕ). slice_index firsts (n + text)) start
    ∙ by_state.each (length (states_below p rows) + text) state
    ∙ ap (λ (s : InfoState). first_row s.player s.text rows) (state_there (length texts) p text rows below within)
    ∙ ap (λ (seen : List (List ℕ)). first_row p (text_at seen text) rows) (sym seen)
    ∙ ap (λ (info : List ℕ). first_row p info rows) (sym info) in
    record {
      player = omega (arith, below, by_player.count);
      state = omega (arith, start, state, by_state.count);
      below = omega (arith, start, within, by_player.each (suc p) (omega (arith, below)), one_player_more p rows);
      first = omega (arith, first, l, first_within p (row_at rows k).here.info rows k l (own_decides p (row_at rows k) place));
      fault = ap (λ (q : Place). fault_by rows k (row_at rows k) q) place ∙ ap (λ (f : ℕ). against (row_at rows f) (row_at rows k) p f k) (sym first);
    }

-- where nobody moves alone
pub elsewhere : (t : Rows) (k : ℕ) (flat : FlatRow) → IsBuilt t → k < length (rows_of t) → flat ≡ slice_index_or t.flat k flat → fault_at (rows_of t) k ≡ fault_by (rows_of t) k (row_at (rows_of t) k) flat.place
elsewhere t k flat built l e =
    let is = flat_row t k flat built (omega (arith, l, rows_length t built)) e in
    ap (λ (q : Place). fault_by (rows_of t) k (row_at (rows_of t) k) q) is.place
