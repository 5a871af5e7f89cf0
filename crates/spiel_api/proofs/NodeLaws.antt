-- Laws that follow from what is so at each play, of its place and of the numbers and weights there.
use Rattle.std.specs.Prelude.{◌≡◌, ◌≢◌, ℕ, ◌+◌, ◌^◌, ◌-◌, ◌<◌, ◌≤◌, Bool, true, ◌&&◌, nat_lt, List, [], length, map, sum}
use Rattle.std.specs.List.{All, Contains, list_all, range_with_len}
use Rattle.std.specs.List.Sorted.{IsStrictlyIncreasing}
use Rattle.std.proofs.Common.{arith, sym, subst, ⊎_elim}
use Rattle.std.proofs.lemmas.Bool.{and_parts, ltb-true, cases_eq}
use Rattle.std.proofs.lemmas.List.{length-map}
use Rattle.std.proofs.lemmas.List.Elements.{All-nil, All-weaker}
use Rattle.std.proofs.lemmas.List.FromFn.{get_or-range_with_len, length-range_with_len}
use Rattle.spiel_api.specs.declared.place.Place.{Place}
use Rattle.spiel_api.specs.declared.place.Place.TheVariants.{End, Chance, Move, Joint}
use Rattle.spiel_api.specs.Rules.{Rules, next_at}
use Rattle.spiel_api.specs.Plays.{IsPlay}
use Rattle.spiel_api.specs.Place.{IsOpen, IsAmongPlayers}
use Rattle.spiel_api.specs.Laws.{HasLegalNumbers, HasChanceWeights}
use Rattle.spiel_api.specs.Deck.{cards_left}
use Rattle.spiel_api.proofs.CardsLeft.{left_rise, left_low, left_at_least}
use Rattle.spiel_api.proofs.LawLemmas.{All-computed, IsStrictlyIncreasing-computed, is_rising, nothing_rises, sum_of_ones}

-- numbers from which somebody can choose
pub record AreChoices (numbers : List ℕ) : Type 0 where
  pub some : 0 < length numbers
  pub rise : IsStrictlyIncreasing numbers
  pub small : All (λ a. a < 2 ^ 32 - 1) numbers

-- weights of so many outcomes
pub record AreWeights (count : ℕ) (weights : List ℕ) : Type 0 where
  pub each : length weights ≡ count
  pub low : 1 ≤ sum weights
  pub high : sum weights ≤ 2 ^ 62

-- what is so of the numbers of n players and of the weights, by the place
abbrev pub IsNode : ℕ → Place → (ℕ → List ℕ) → List ℕ → Type 0
IsNode n End legal weights = (p : ℕ) → legal p ≡ []
IsNode n Chance legal weights = ((p q : ℕ) → legal p ≡ legal q) × AreChoices (legal 0) × AreWeights (length (legal 0)) weights
IsNode n (Move q) legal weights = (q < n) × AreChoices (legal q) × ((p : ℕ) → p ≢ q → legal p ≡ [])
IsNode n (Joint q) legal weights = (q < n) × ((p : ℕ) → p < n → AreChoices (legal p))

-- ---- numbers and weights that are written out, or made of ones

abbrev pub are_choices : List ℕ → Bool
are_choices numbers = nat_lt 0 (length numbers) && (is_rising numbers && list_all (λ a. nat_lt a (2 ^ 32 - 1)) numbers)

pub AreChoices-computed : (numbers : List ℕ) → are_choices numbers ≡ true → AreChoices numbers
AreChoices-computed numbers e =
    let first = and_parts (nat_lt 0 (length numbers)) (is_rising numbers && list_all (λ a. nat_lt a (2 ^ 32 - 1)) numbers) e in
    let others = and_parts (is_rising numbers) (list_all (λ a. nat_lt a (2 ^ 32 - 1)) numbers) first.1 in
    record {
      some = ltb-true 0 (length numbers) first.0;
      rise = IsStrictlyIncreasing-computed numbers others.0;
      small = All-computed (λ a. a < 2 ^ 32 - 1) (λ a. nat_lt a (2 ^ 32 - 1)) (λ a. ltb-true a (2 ^ 32 - 1)) numbers others.1;
    }

-- numbers from one on
pub range_within : (low count a : ℕ) → Contains (range_with_len low count) a → (low ≤ a) × (a < low + count)
range_within low count a c =
    let m : c.0 < count = omega (arith, c.1, length-range_with_len low count) in
    let e = get_or-range_with_len low count c.0 a m in
    (omega (arith, e, c.2), omega (arith, e, c.2))

pub AreChoices-range : (low count : ℕ) → 0 < count → low + count < 2 ^ 32 → AreChoices (range_with_len low count)
AreChoices-range low count some few = record {
  some = omega (arith, some, length-range_with_len low count);
  rise = λ k l.
      let m : k + 1 < count = omega (arith, l, length-range_with_len low count) in
      omega (arith, get_or-range_with_len low count k 0 (omega arith), get_or-range_with_len low count (k + 1) 0 m);
  small = λ k d l.
      let m : k < count = omega (arith, l, length-range_with_len low count) in
      omega (arith, few, get_or-range_with_len low count k d m);
}

-- the cards that are left of n cards, where fewer are gone
pub AreChoices-left : (n : ℕ) (gone : List ℕ) → n < 2 ^ 32 → length gone < n → AreChoices (cards_left n gone)
AreChoices-left n gone few fewer = record {
  some = omega (arith, left_at_least n gone, fewer);
  rise = left_rise n gone;
  small = All-weaker (λ a. a < n) (λ a. a < 2 ^ 32 - 1) (λ a l. omega (arith, l, few)) (cards_left n gone) (left_low n gone);
}

-- each of some outcomes is as likely as another
pub AreWeights-ones : (numbers : List ℕ) → 0 < length numbers → length numbers ≤ 2 ^ 62 → AreWeights (length numbers) (map (λ a. 1) numbers)
AreWeights-ones numbers some few = record {
  each = length-map numbers (λ a. 1);
  low = rw (sum_of_ones numbers) some;
  high = rw (sum_of_ones numbers) few;
}

-- ---- the laws at one node

module _ (n : ℕ) (legal : ℕ → List ℕ) (weights : List ℕ) where
  mover_at : (place : Place) → IsNode n place legal weights → IsAmongPlayers n place
  mover_at End node = tt
  mover_at Chance node = tt
  mover_at (Move q) node = node.0
  mover_at (Joint q) node = node.0

  -- what holds of choices and of no number holds of the numbers of every player
  of_numbers : (P : List ℕ → Type 0) → P [] → ((numbers : List ℕ) → AreChoices numbers → P numbers) → (place : Place) (p : ℕ) → p < n → IsNode n place legal weights → P (legal p)
  of_numbers P none some End p l node = subst P (sym (node p)) none
  of_numbers P none some Chance p l node = subst P (node.0 0 p) (some (legal 0) node.1)
  of_numbers P none some (Move q) p l node = ⊎_elim (λ e. subst (λ p. P (legal p)) (sym e) (some (legal q) node.1)) (λ e. subst P (sym (node.2 p e)) none) (cases_eq p q)
  of_numbers P none some (Joint q) p l node = some (legal p) (node.1 p l)

  goes_on_at : (place : Place) → IsNode n place legal weights → IsOpen place → 0 < length (next_at place legal)
  goes_on_at End node o = absurd o
  goes_on_at Chance node o = node.1.some
  goes_on_at (Move q) node o = node.1.some
  goes_on_at (Joint q) node o = (node.1 q node.0).some

  stops_at : (place : Place) (p : ℕ) → IsNode n place legal weights → place ≡ End → legal p ≡ []
  stops_at End p node e = node p
  stops_at Chance p node e = cc
  stops_at (Move q) p node e = cc
  stops_at (Joint q) p node e = cc

  waits_at : (place : Place) (p q : ℕ) → IsNode n place legal weights → place ≡ Move q → p ≢ q → legal p ≡ []
  waits_at End p q node e other = cc
  waits_at Chance p q node e other = cc
  waits_at (Move r) p q node e other = node.2 p (λ same. other cc)
  waits_at (Joint r) p q node e other = cc

  shared_at : (place : Place) (p q : ℕ) → IsNode n place legal weights → place ≡ Chance → legal p ≡ legal q
  shared_at End p q node e = cc
  shared_at Chance p q node e = node.0 p q
  shared_at (Move r) p q node e = cc
  shared_at (Joint r) p q node e = cc

  weighed_at : (place : Place) → IsNode n place legal weights → place ≡ Chance → AreWeights (length (next_at place legal)) weights
  weighed_at End node e = cc
  weighed_at Chance node e = node.2
  weighed_at (Move q) node e = cc
  weighed_at (Joint q) node e = cc

-- ---- the laws of a game

module _ (r : Rules) (nodes : (h : List ℕ) → IsPlay r h → IsNode r.players (r.place h) (r.legal h) (r.weights h)) where
  pub legal_numbers : HasLegalNumbers r
  legal_numbers = record {
    mover = λ h play. mover_at r.players (r.legal h) (r.weights h) (r.place h) (nodes h play);
    rises = λ h p play l. of_numbers r.players (r.legal h) (r.weights h) IsStrictlyIncreasing nothing_rises (λ numbers choices. choices.rise) (r.place h) p l (nodes h play);
    small = λ h p play l. of_numbers r.players (r.legal h) (r.weights h) (All (λ a. a < 2 ^ 32 - 1)) (All-nil (λ a. a < 2 ^ 32 - 1)) (λ numbers choices. choices.small) (r.place h) p l (nodes h play);
    goes_on = λ h play. goes_on_at r.players (r.legal h) (r.weights h) (r.place h) (nodes h play);
    stops = λ h p play l. stops_at r.players (r.legal h) (r.weights h) (r.place h) p (nodes h play);
    waits = λ h p q play l. waits_at r.players (r.legal h) (r.weights h) (r.place h) p q (nodes h play);
    shared = λ h p q play l m. shared_at r.players (r.legal h) (r.weights h) (r.place h) p q (nodes h play);
  }

  pub chance_weights : HasChanceWeights r
  chance_weights = record {
    weighed = λ h play e. (weighed_at r.players (r.legal h) (r.weights h) (r.place h) (nodes h play) e).each;
    weight_low = λ h play e. (weighed_at r.players (r.legal h) (r.weights h) (r.place h) (nodes h play) e).low;
    weight_high = λ h play e. (weighed_at r.players (r.legal h) (r.weights h) (r.place h) (nodes h play) e).high;
  }
