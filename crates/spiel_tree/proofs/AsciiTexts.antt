-- What players see in a game is ASCII.
use Rattle.std.proofs.Common.{◌≡◌, ℕ, zero, suc, ◌<◌, ◌≤◌, Bool, true, false, cond, List, [], ◌∷◌, length, refl, sym, subst, arith}
use Rattle.std.specs.Prelude.{All, IsAscii}
use Rattle.std.specs.Str.{bytes_eq}
use Rattle.std.proofs.lemmas.Slice.Eq.{bytes_eq-Decides}
use Rattle.std.proofs.lemmas.List.Elements.{All-get_or, All-head, All-tail}
use Rattle.spiel_api.specs.declared.place.Place.{Place}
use Rattle.spiel_api.specs.declared.place.Place.TheVariants.{End, Chance, Move, Joint}
use Rattle.spiel_api.specs.Laws.{IsPrintable}
use Rattle.spiel_api.specs.Place.{HasInfo, IsAmongPlayers}
use Rattle.spiel_tree.specs.Flat.{moves, no_row, row_at}
use Rattle.spiel_tree.specs.Rows.{Row, info_at, rows}
use Rattle.spiel_tree.specs.States.{first_row, state_at, states_below}
use Rattle.spiel_tree.specs.Trees.{IsGameTree, Whole}
use Rattle.spiel_tree.proofs.FirstRows.{first_decides, first_row_there}
use Rattle.spiel_tree.proofs.OfGame.{IsOfPlay, rows_of_plays}

nothing_ascii : IsAscii []
nothing_ascii i = omega arith

printable_ascii : (text : List ℕ) → All (λ b. (32 ≤ b) × (b ≤ 126)) text → IsAscii text
printable_ascii [] printable i = omega arith
printable_ascii (b ∷ text) printable zero = let here = All-head (λ b. (32 ≤ b) × (b ≤ 126)) b text printable in omega (arith, here.1)
printable_ascii (b ∷ text) printable (suc i) = printable_ascii text (All-tail (λ b. (32 ≤ b) × (b ≤ 126)) b text printable) i

-- what is seen at a place
seen_ascii : (players : ℕ) (place : Place) (info : ℕ → List ℕ) → IsAmongPlayers players place → ((p : ℕ) → HasInfo place p → p < players → IsPrintable 32768 (info p)) → IsAscii (info_at place info)
seen_ascii players End info among law = nothing_ascii
seen_ascii players Chance info among law = nothing_ascii
seen_ascii players (Move p) info among law = printable_ascii (info p) (law p refl among).ascii
seen_ascii players (Joint p) info among law = nothing_ascii

-- and so at each row
row_ascii : (tree : Whole) → IsGameTree tree → (k : ℕ) → k < length tree.rows → IsAscii (row_at tree.rows k).here.info
row_ascii tree game k l =
    let r = game.rules in
    subst (λ (t : Whole). k < length t.rows → IsAscii (row_at t.rows k).here.info) (sym game.is)
    (λ within.
    let of = All-get_or (IsOfPlay r) (rows r) k no_row within (rows_of_plays r) in
    subst (λ (row : Row). IsAscii row.here.info) (sym of.is)
    (seen_ascii r.players (r.place of.history) (r.info of.history) (game.lawful.numbers.mover of.history of.play) (λ p has low. game.lawful.texts.infos of.history p of.play has low))) l

shown : (b c : Bool) → cond b c false ≡ true → c ≡ true
shown true c e = e
shown false c e = cc

-- what is seen at an information state
pub text_ascii : (tree : Whole) → IsGameTree tree → (s : ℕ) → s < length (states_below tree.players tree.rows) → IsAscii (state_at tree.players tree.rows s).text
text_ascii tree game s l =
    let state = state_at tree.players tree.rows s in
    let k = first_row state.player state.text tree.rows in
    let there = first_row_there tree.players tree.rows s l in
    let same : state.text ≡ (row_at tree.rows k).here.info =
    (bytes_eq-Decides state.text (row_at tree.rows k).here.info).0 (shown (moves state.player (row_at tree.rows k).here.place) (bytes_eq state.text (row_at tree.rows k).here.info) (first_decides state.player state.text tree.rows there)) in
    subst IsAscii (sym same) (row_ascii tree game k there)
