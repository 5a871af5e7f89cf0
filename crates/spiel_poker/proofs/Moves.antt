-- What a state of Leduc poker tells of its play.
use Rattle.std.proofs.Common.{◌≡◌, ℕ, zero, suc, ◌<◌, Bool, true, false, List, [], ◌∷◌, length, nat_lt, ◌==◌, refl, ap, ◌∙◌, arith}
use Rattle.std.specs.Prelude.{slice_index, if◌then◌else◌}
use Rattle.spiel_api.specs.declared.place.Place.{Place}
use Rattle.spiel_api.specs.declared.place.Place.TheVariants.{End, Chance, Move, Joint}
use Rattle.spiel_api.specs.Turns.{numbers_for}
use Rattle.spiel_poker.specs.declared.leduc.LeducState.{LeducState}
use Rattle.spiel_poker.specs.declared.betting.Table.{Table}
use Rattle.spiel_poker.specs.Betting.{Opening, words_for, words_of}
use Rattle.spiel_poker.specs.Table.{IsTable, seats}
use Rattle.spiel_poker.specs.Leduc.{parts, opening_of, place_by, leduc_rules, leduc_place, numbers_at, cards_for, weights_at, words_at}
use Rattle.spiel_poker.specs.LeducState.{IsLeducAt}

-- each weight is 1
pub weight_one : (place : Place) (cards : List ℕ) (index : ℕ) → index < length (weights_at place cards) → 1 ≡ slice_index (weights_at place cards) index
weight_one End cards index l = absurd (omega arith)
weight_one Chance [] index l = absurd (omega arith)
weight_one Chance (card ∷ cards) zero l = refl
weight_one Chance (card ∷ cards) (suc index) l = weight_one Chance cards index (omega arith)
weight_one (Move q) cards index l = absurd (omega arith)
weight_one (Joint q) cards index l = absurd (omega arith)

-- whoever moves is the speaker
mover_is : (r : ℕ) (line : List ℕ) (owed : ℕ) (folded : Bool) (speaker q : ℕ) → line ≡ seats folded speaker → place_by r line owed ≡ Move q → q ≡ speaker
mover_is zero line owed folded speaker q s e = cc
mover_is (suc zero) [] owed folded speaker q s e = cc
mover_is (suc zero) (p ∷ []) owed folded speaker q s e = cc
mover_is (suc zero) (p ∷ o ∷ others) zero folded speaker q s e = cc
mover_is (suc zero) (p ∷ o ∷ others) (suc owed) true speaker q s e = cc
mover_is (suc zero) (p ∷ o ∷ others) (suc owed) false speaker q s e = cc
mover_is (suc (suc r)) [] owed folded speaker q s e = cc
mover_is (suc (suc r)) (p ∷ []) owed folded speaker q s e = cc
mover_is (suc (suc r)) (p ∷ o ∷ others) zero folded speaker q s e = cc
mover_is (suc (suc r)) (p ∷ o ∷ others) (suc owed) true speaker q s e = cc
mover_is (suc (suc r)) (p ∷ o ∷ others) (suc owed) false speaker q s e = cc

-- the words of the speaker
table_words : (table : Table) (opening : Opening) (words : List ℕ) → IsTable table opening words → words_of opening words table.speaker ≡ words_for (nat_lt (slice_index table.stakes table.speaker) table.highest) (nat_lt table.raises 2)
table_words table opening words t = rw (t.stakes table.speaker t.speaker, t.top, t.raises) refl

-- at a move the mover has the speaker's words, and nobody else has any
pub legal_at_move : (state : LeducState) (p q : ℕ) → IsLeducAt state → leduc_place 2 state.history ≡ Move q → leduc_rules.legal state.history p ≡ (if p == q then words_for (nat_lt (slice_index state.table.stakes state.table.speaker) state.table.highest) (nat_lt state.table.raises 2) else [])
legal_at_move state p q at e =
    let x = parts 2 state.history in
    let same : q ≡ state.table.speaker = mover_is x.round _ _ state.table.folded state.table.speaker q at.shows.table.line e in
    rw e (ap (λ (words : List ℕ). if p == q then words else []) (ap (words_at 2 x) same ∙ table_words state.table (opening_of 2 x) x.words at.shows.table))

-- where there is a number and it is no card, the numbers are the speaker's words
pub legal_at_other : (state : LeducState) (p index : ℕ) → IsLeducAt state → (leduc_place 2 state.history ≡ Chance → ⊥) → index < length (leduc_rules.legal state.history p) → leduc_rules.legal state.history p ≡ words_for (nat_lt (slice_index state.table.stakes state.table.speaker) state.table.highest) (nat_lt state.table.raises 2)
legal_at_other state p index at other within = by (leduc_place 2 state.history) refl within
  where
    words : List ℕ
    words = words_for (nat_lt (slice_index state.table.stakes state.table.speaker) state.table.highest) (nat_lt state.table.raises 2)

    mine : (b : Bool) (legal : List ℕ) → legal ≡ (if b then words else []) → index < length legal → legal ≡ words
    mine true legal e l = e
    mine false legal e l = absurd (omega (arith, ap length e))

    by : (place : Place) → leduc_place 2 state.history ≡ place → index < length (numbers_for place (numbers_at place (cards_for 2 state.history) (words_at 2 (parts 2 state.history))) p) → leduc_rules.legal state.history p ≡ words
    by End e l = absurd (omega arith)
    by Chance e l = absurd (other e)
    by (Move q) e l = mine (p == q) (leduc_rules.legal state.history p) (legal_at_move state p q at e) within
    by (Joint q) e l = absurd (omega arith)
