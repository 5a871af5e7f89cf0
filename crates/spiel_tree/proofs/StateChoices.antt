-- Whoever moves at an information state has a number.
use Rattle.std.proofs.Common.{◌≡◌, ℕ, ◌<◌, true, false, cond, List, length, sym, subst, ◌∙◌, arith}
use Rattle.std.specs.Prelude.{slice_index, slice_index_or}
use Rattle.std.specs.Str.{bytes_eq}
use Rattle.std.proofs.lemmas.Bool.{true≢false}
use Rattle.std.proofs.lemmas.List.Elements.{All-get_or}
use Rattle.spiel_api.specs.declared.place.Place.{Place}
use Rattle.spiel_api.specs.declared.place.Place.TheVariants.{End, Chance, Move, Joint}
use Rattle.spiel_api.specs.Place.{IsOpen}
use Rattle.spiel_tree.specs.Rows.{Row, rows}
use Rattle.spiel_tree.specs.Flat.{moves, no_row, row_at}
use Rattle.spiel_tree.specs.States.{first_row, numbers_of, state_at, states_below}
use Rattle.spiel_tree.specs.Trees.{Whole, IsGameTree, IsTree}
use Rattle.spiel_tree.specs.declared.flat.Rows.{Rows}
use Rattle.spiel_tree.proofs.OfGame.{IsOfPlay, rows_of_plays}
use Rattle.spiel_tree.proofs.FirstRows.{first_decides, first_row_there}
use Rattle.spiel_tree.proofs.Reading.{same_read}

open_by : (p : ℕ) (text : List ℕ) (place : Place) (info : List ℕ) → cond (moves p place) (bytes_eq text info) false ≡ true → IsOpen place
open_by p text End info e = absurd (true≢false (sym e))
open_by p text Chance info e = tt
open_by p text (Move q) info e = tt
open_by p text (Joint q) info e = tt

-- where the game goes on there is a number
row_goes_on : (tree : Whole) → IsGameTree tree → (k : ℕ) → k < length tree.rows → IsOpen (row_at tree.rows k).here.place → 0 < length (row_at tree.rows k).here.numbers
row_goes_on tree game k l =
    let r = game.rules in
    subst (λ (t : Whole). k < length t.rows → IsOpen (row_at t.rows k).here.place → 0 < length (row_at t.rows k).here.numbers) (sym game.is)
    (λ within.
    let of = All-get_or (IsOfPlay r) (rows r) k no_row within (rows_of_plays r) in
    subst (λ (row : Row). IsOpen row.here.place → 0 < length row.here.numbers) (sym of.is) (game.lawful.numbers.goes_on of.history of.play)) l

pub state_goes_on : (tree : Whole) → IsGameTree tree → (s : ℕ) → s < length (states_below tree.players tree.rows) → 0 < length (numbers_of tree.players tree.rows s)
state_goes_on tree game s l =
    let state = state_at tree.players tree.rows s in
    let there = first_row_there tree.players tree.rows s l in
    let first = row_at tree.rows (first_row state.player state.text tree.rows) in
    row_goes_on tree game (first_row state.player state.text tree.rows) there
    (open_by state.player state.text first.here.place first.here.info (first_decides state.player state.text tree.rows there))

-- the row that is kept as the first one of an information state
pub first_goes_on : (seen tree : Whole) (flat : Rows) (starts firsts : List ℕ) (s k : ℕ) → IsTree seen flat starts firsts → seen ≡ tree
    → s < length (states_below tree.players tree.rows) → k ≡ slice_index_or firsts s k → 0 < length (row_at tree.rows k).here.numbers
first_goes_on seen tree flat starts firsts s k is e l read =
    let is : IsTree tree flat starts firsts = subst (λ (t : Whole). IsTree t flat starts firsts) e is in
    let state = state_at tree.players tree.rows s in
    let same : k ≡ slice_index firsts s = read ∙ same_read firsts s k 0 (omega (arith, l, is.firsts_are.count)) in
    subst (λ (j : ℕ). 0 < length (row_at tree.rows j).here.numbers) (sym (same ∙ is.firsts_are.each s l)) (state_goes_on tree is.game s l)
