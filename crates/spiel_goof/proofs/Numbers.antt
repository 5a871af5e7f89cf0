-- The numbers that a state of goofspiel tells.
use Rattle.std.proofs.Common.{◌≡◌, ℕ, zero, suc, ◌<◌, ◌≤◌, Bool, true, false, not, List, [], ◌∷◌, length, map, ◌==◌, refl, ap, sym, ◌∙◌, arith}
use Rattle.std.specs.Prelude.{slice_index, slice_index_or}
use Rattle.std.specs.List.{Contains}
use Rattle.std.proofs.lemmas.List.Elements.{All-contains}
use Rattle.spiel_api.specs.declared.place.Place.{Place}
use Rattle.spiel_api.specs.declared.place.Place.TheVariants.{End, Chance, Move, Joint}
use Rattle.spiel_api.specs.Rules.{next_at}
use Rattle.spiel_api.specs.Walks.{is_in}
use Rattle.spiel_goof.specs.declared.cards.Cards.{Cards}
use Rattle.spiel_goof.specs.declared.turns.Stage.{Stage}
use Rattle.spiel_goof.specs.declared.turns.Stage.TheVariants.{Between, Shown, Bid}
use Rattle.spiel_goof.specs.declared.table.Table.{Table}
use Rattle.spiel_goof.specs.declared.goofspiel.Goofspiel.{Goofspiel}
use Rattle.spiel_goof.specs.declared.goofspiel.GoofspielState.{GoofspielState}
use Rattle.spiel_api.specs.Deck.{cards_left}
use Rattle.spiel_api.proofs.CardsLeft.{where_agree, where_low}
use Rattle.spiel_goof.specs.Cards.{held, AreLeft}
use Rattle.spiel_goof.specs.Goofspiel.{point_of, Parts, place_by, place_at, numbers_at, legal_at, points_left, hand_of, weights_by}
use Rattle.spiel_goof.specs.Table.{IsTable, IsSeat, seat_of}
use Rattle.spiel_goof.specs.GoofspielState.{IsGoofspielAt, parts_of}

-- each weight is 1
pub weight_one : (place : Place) (cards : List ℕ) (index : ℕ) → index < length (weights_by place cards) → 1 ≡ slice_index (weights_by place cards) index
weight_one End cards index l = absurd (omega arith)
weight_one Chance [] index l = absurd (omega arith)
weight_one Chance (card ∷ cards) zero l = refl
weight_one Chance (card ∷ cards) (suc index) l = weight_one Chance cards index (omega arith)
weight_one (Move q) cards index l = absurd (omega arith)
weight_one (Joint q) cards index l = absurd (omega arith)

-- the cards of a set are those that are left
held_left : (cards : Cards) (gone : List ℕ) (n : ℕ) → n ≤ 20 → AreLeft cards gone → held cards n ≡ cards_left n gone
held_left cards gone n few left = where_agree (λ c. slice_index_or cards.left c false) (λ c. not (is_in gone c)) n (λ c l. left.each c (omega arith))

pub seat_is : (table : Table) (x : Parts) (p : ℕ) → p < 2 → IsTable table x → IsSeat (seat_of p table) p x.turns
seat_is table x zero l shows = shows.first
seat_is table x (suc zero) l shows = shows.second
seat_is table x (suc (suc p)) l shows = absurd (omega arith)

-- at a draw the numbers are the point cards that are left
legal_chance : (n : ℕ) (x : Parts) (p : ℕ) → place_at n x ≡ Chance → legal_at n x p ≡ points_left n x.turns
legal_chance n x p e = ap (λ (place : Place). numbers_at place (points_left n x.turns) (hand_of n p x.turns)) e

-- elsewhere, if there are any, they are the player's hand
legal_bid : (n : ℕ) (x : Parts) (p : ℕ) → (place_at n x ≡ Chance → ⊥) → (place_at n x ≡ End → ⊥) → legal_at n x p ≡ hand_of n p x.turns
legal_bid n x p drawn over = by (place_at n x) moves drawn over
  where
    kind : (stage : Stage) (b : Bool) (q : ℕ) → place_by stage b ≡ Move q → ⊥
    kind Between true q e = cc
    kind Between false q e = cc
    kind (Shown point) b q e = cc
    kind (Bid point first) b q e = cc

    moves : (q : ℕ) → place_at n x ≡ Move q → ⊥
    moves q e = kind x.stage (length x.turns == n) q e

    by : (place : Place) → ((q : ℕ) → place ≡ Move q → ⊥) → (place ≡ Chance → ⊥) → (place ≡ End → ⊥) → numbers_at place (points_left n x.turns) (hand_of n p x.turns) ≡ hand_of n p x.turns
    by End never drawn over = absurd (over refl)
    by Chance never drawn over = absurd (drawn refl)
    by (Move q) never drawn over = absurd (never q refl)
    by (Joint q) never drawn over = refl

no_end : (n : ℕ) (x : Parts) (p index : ℕ) → index < length (legal_at n x p) → place_at n x ≡ End → ⊥
no_end n x p index l e =
    let none : length (legal_at n x p) ≡ 0 = ap (λ (place : Place). length (numbers_at place (points_left n x.turns) (hand_of n p x.turns))) e in
    omega arith

-- the set of point cards has the numbers of a draw
pub deck_has : (g : Goofspiel) (state : GoofspielState) (p : ℕ) → IsGoofspielAt g state → place_at g.cards (parts_of g state) ≡ Chance → held state.table.deck g.cards ≡ legal_at g.cards (parts_of g state) p
deck_has g state p at e =
    held_left state.table.deck (map point_of (parts_of g state).turns) g.cards at.range.high at.table.deck ∙ sym (legal_chance g.cards (parts_of g state) p e)

-- a player's set has the numbers of a bid
pub hand_has : (g : Goofspiel) (state : GoofspielState) (p : ℕ) → IsGoofspielAt g state → p < 2 → (place_at g.cards (parts_of g state) ≡ Chance → ⊥) → (place_at g.cards (parts_of g state) ≡ End → ⊥) → held (seat_of p state.table).hand g.cards ≡ legal_at g.cards (parts_of g state) p
hand_has g state p at l drawn over =
    held_left (seat_of p state.table).hand _ g.cards at.range.high (seat_is state.table (parts_of g state) p l at.table).hand ∙ sym (legal_bid g.cards (parts_of g state) p drawn over)

pub hand_has_some : (g : Goofspiel) (state : GoofspielState) (p index : ℕ) → IsGoofspielAt g state → p < 2 → (place_at g.cards (parts_of g state) ≡ Chance → ⊥) → index < length (legal_at g.cards (parts_of g state) p) → held (seat_of p state.table).hand g.cards ≡ legal_at g.cards (parts_of g state) p
hand_has_some g state p index at l drawn some = hand_has g state p at l drawn (no_end g.cards (parts_of g state) p index some)

-- the next number is a card
pub next_small : (n : ℕ) (x : Parts) (a : ℕ) → Contains (next_at (place_at n x) (legal_at n x)) a → a < n
next_small n x a c = by (place_at n x) c
  where
    low : (gone : List ℕ) → Contains (cards_left n gone) a → a < n
    low gone c = All-contains (λ a. a < n) (cards_left n gone) a (where_low _ n) c

    by : (place : Place) → Contains (next_at place (λ p. numbers_at place (points_left n x.turns) (hand_of n p x.turns))) a → a < n
    by End c = absurd (omega (arith, c.1))
    by Chance c = low _ c
    by (Move q) c = absurd (omega (arith, c.1))
    by (Joint q) c = low _ c

pub legal_small_at : (n : ℕ) (x : Parts) (p a : ℕ) → Contains (legal_at n x p) a → a < n
legal_small_at n x p a c = by (place_at n x) c
  where
    low : (gone : List ℕ) → Contains (cards_left n gone) a → a < n
    low gone c = All-contains (λ a. a < n) (cards_left n gone) a (where_low _ n) c

    by : (place : Place) → Contains (numbers_at place (points_left n x.turns) (hand_of n p x.turns)) a → a < n
    by End c = absurd (omega (arith, c.1))
    by Chance c = low _ c
    by (Move q) c = absurd (omega (arith, c.1))
    by (Joint q) c = low _ c
