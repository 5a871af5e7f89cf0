-- The numbers in the tree of a game rise and are small, and so is the number of players.
use Rattle.std.proofs.Common.{◌≡◌, ℕ, ◌-◌, ◌^◌, ◌<◌, ◌≤◌, List, length, refl, sym, subst, arith}
use Rattle.std.specs.Prelude.{All}
use Rattle.std.specs.List.Sorted.{IsStrictlyIncreasing}
use Rattle.std.proofs.lemmas.List.Elements.{All-get_or, All-nil, All-weaker}
use Rattle.spiel_api.specs.declared.place.Place.{Place}
use Rattle.spiel_api.specs.declared.place.Place.TheVariants.{End, Chance, Move, Joint}
use Rattle.spiel_api.specs.Rules.{Rules, next_at, next_of}
use Rattle.spiel_api.specs.Plays.{IsPlay}
use Rattle.spiel_api.specs.Place.{IsAmongPlayers}
use Rattle.spiel_api.specs.Laws.{IsLawful}
use Rattle.spiel_tree.specs.Flat.{no_row, row_at}
use Rattle.spiel_tree.specs.Rows.{Row, rows}
use Rattle.spiel_tree.specs.States.{first_row, numbers_of, state_at, states_below}
use Rattle.spiel_tree.specs.Trees.{IsGameTree, Whole}
use Rattle.spiel_tree.proofs.FirstRows.{first_row_there}
use Rattle.spiel_tree.proofs.OfGame.{IsOfPlay, rows_of_plays}
use Rattle.spiel_tree.proofs.Ways.{next_rises}

-- ---- they rise
-- at a row
pub row_rises : (tree : Whole) → IsGameTree tree → (k : ℕ) → k < length tree.rows → IsStrictlyIncreasing (row_at tree.rows k).here.numbers
row_rises tree game k l =
    let r = game.rules in
    subst (λ (t : Whole). k < length t.rows → IsStrictlyIncreasing (row_at t.rows k).here.numbers) (sym game.is)
    (λ within.
    let of = All-get_or (IsOfPlay r) (rows r) k no_row within (rows_of_plays r) in
    subst (λ (row : Row). IsStrictlyIncreasing row.here.numbers) (sym of.is) (next_rises r game.lawful of.history of.play)) l

-- and at an information state
pub numbers_rise : (tree : Whole) → IsGameTree tree → (s : ℕ) → s < length (states_below tree.players tree.rows) → IsStrictlyIncreasing (numbers_of tree.players tree.rows s)
numbers_rise tree game s l =
    let state = state_at tree.players tree.rows s in
    row_rises tree game (first_row state.player state.text tree.rows) (first_row_there tree.players tree.rows s l)

-- ---- they are small

-- the numbers of whoever is next
next_small : (r : Rules) → IsLawful r → (h : List ℕ) → IsPlay r h → All (λ a. a < 2 ^ 32 - 1) (next_of r h)
next_small r laws h play = by (r.place h) refl
  where
    among : (place : Place) → r.place h ≡ place → IsAmongPlayers r.players place
    among place e = subst (IsAmongPlayers r.players) e (laws.numbers.mover h play)

    by : (place : Place) → r.place h ≡ place → All (λ a. a < 2 ^ 32 - 1) (next_at place (r.legal h))
    by End e = All-nil (λ a. a < 2 ^ 32 - 1)
    by Chance e = laws.numbers.small h 0 play (omega (arith, laws.limits.players_low))
    by (Move p) e = laws.numbers.small h p play (among (Move p) e)
    by (Joint p) e = laws.numbers.small h p play (among (Joint p) e)

row_small : (tree : Whole) → IsGameTree tree → (k : ℕ) → k < length tree.rows → All (λ a. a < 2 ^ 32 - 1) (row_at tree.rows k).here.numbers
row_small tree game k l =
    let r = game.rules in
    subst (λ (t : Whole). k < length t.rows → All (λ a. a < 2 ^ 32 - 1) (row_at t.rows k).here.numbers) (sym game.is)
    (λ within.
    let of = All-get_or (IsOfPlay r) (rows r) k no_row within (rows_of_plays r) in
    subst (λ (row : Row). All (λ a. a < 2 ^ 32 - 1) row.here.numbers) (sym of.is) (next_small r game.lawful of.history of.play)) l

pub numbers_small : (tree : Whole) → IsGameTree tree → (s : ℕ) → s < length (states_below tree.players tree.rows) → All (λ n. n < 2 ^ 32) (numbers_of tree.players tree.rows s)
numbers_small tree game s l =
    let state = state_at tree.players tree.rows s in
    All-weaker (λ a. a < 2 ^ 32 - 1) (λ n. n < 2 ^ 32) (λ n less. omega (arith, less)) (numbers_of tree.players tree.rows s)
    (row_small tree game (first_row state.player state.text tree.rows) (first_row_there tree.players tree.rows s l))

pub players_few : (tree : Whole) → IsGameTree tree → tree.players ≤ 64
players_few tree game = subst (λ (t : Whole). t.players ≤ 64) (sym game.is) game.lawful.limits.players_high
