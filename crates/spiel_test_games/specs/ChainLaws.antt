-- A chain keeps the laws.
use Rattle.std.specs.Prelude.{◌≡◌, ◌≢◌, ℕ, ◌+◌, ◌-◌, ◌^◌, ◌<◌, ◌≤◌, Bool, true, false, List, [], ◌∷◌, ◌++◌, length, sum, take, slice_index, codes, nat_lt}
use Rattle.std.specs.List.{All, Contains}
use Rattle.std.specs.List.Sorted.{IsStrictlyIncreasing}
use Rattle.std.proofs.Common.{refl, arith, subst, length-take-le}
use Rattle.std.proofs.lemmas.Bool.{false≢true, ltb-true, ltb-false}
use Rattle.std.proofs.lemmas.List.{take_more}
use Rattle.std.proofs.lemmas.List.Elements.{All-from_recursion, All-nil}
use Rattle.spiel_api.specs.declared.place.Place.{Place}
use Rattle.spiel_api.specs.declared.place.Place.TheVariants.{End, Chance, Move, Joint}
use Rattle.spiel_api.specs.Rules.{next_at}
use Rattle.spiel_api.specs.Plays.{IsPlay}
use Rattle.spiel_api.specs.Place.{IsAmongPlayers, IsOpen}
use Rattle.spiel_api.specs.Laws.{IsLawful, IsPrintable, HasLegalNumbers, HasChanceWeights}
use Rattle.spiel_api.proofs.PlayLemmas.{IsPlay-take, IsPlay-last}
use Rattle.spiel_api.proofs.LawLemmas.{All-computed, IsStrictlyIncreasing-computed, IsPrintable-computed, without_joint_steps}
use Rattle.spiel_test_games.specs.Chain.{chain_rules, chain_place, chain_legal, chain_weights, count_text, goes_on, place_if, legal_if}

-- what holds at the draw, where the player moves and at the end holds everywhere
everywhere : (P : Place → List ℕ → List ℕ → Type 0) → P Chance (0 ∷ 1 ∷ []) (1 ∷ 1 ∷ []) → P (Move 0) (0 ∷ []) [] → P End [] [] → (h : List ℕ) → P (chain_place h) (chain_legal h) (chain_weights h)
everywhere P draw move over [] = draw
everywhere P draw move over (drawn ∷ rest) = by (goes_on (drawn ∷ rest))
  where
    by : (b : Bool) → P (place_if b) (legal_if b) []
    by true = move
    by false = over

two_rise : IsStrictlyIncreasing (0 ∷ 1 ∷ [])
two_rise = IsStrictlyIncreasing-computed (0 ∷ 1 ∷ []) refl

two_small : All (λ a. a < 2 ^ 32 - 1) (0 ∷ 1 ∷ [])
two_small = All-computed (λ a. a < 2 ^ 32 - 1) (λ a. nat_lt a (2 ^ 32 - 1)) (λ a. ltb-true a (2 ^ 32 - 1)) (0 ∷ 1 ∷ []) refl

one_rises : IsStrictlyIncreasing (0 ∷ [])
one_rises = IsStrictlyIncreasing-computed (0 ∷ []) refl

one_small : All (λ a. a < 2 ^ 32 - 1) (0 ∷ [])
one_small = All-computed (λ a. a < 2 ^ 32 - 1) (λ a. nat_lt a (2 ^ 32 - 1)) (λ a. ltb-true a (2 ^ 32 - 1)) (0 ∷ []) refl

-- with one player, whoever moves isn't another
alone : (p q : ℕ) → p < 1 → Move 0 ≡ Move q → p ≢ q → ⊥
alone p q l e n = let zero_q : 0 ≡ q = cc in n (omega arith)

legal_numbers : HasLegalNumbers chain_rules
legal_numbers = record {
  mover = λ h play. everywhere (λ place legal weights. IsAmongPlayers 1 place) tt (omega arith) tt h;
  rises = λ h p play m. everywhere (λ place legal weights. IsStrictlyIncreasing legal) two_rise one_rises (IsStrictlyIncreasing-computed [] refl) h;
  small = λ h p play m. everywhere (λ place legal weights. All (λ a. a < 2 ^ 32 - 1) legal) two_small one_small (All-nil (λ a. a < 2 ^ 32 - 1)) h;
  goes_on = λ h play. everywhere (λ place legal weights. IsOpen place → 0 < length (next_at place (λ p. legal))) (λ o. omega arith) (λ o. omega arith) (λ o. absurd o) h;
  stops = λ h p play m. everywhere (λ place legal weights. place ≡ End → legal ≡ []) (λ e. cc) (λ e. cc) (λ e. refl) h;
  waits = λ h p q play m. everywhere (λ place legal weights. place ≡ Move q → p ≢ q → legal ≡ []) (λ e n. cc) (λ e n. absurd (alone p q m e n)) (λ e n. refl) h;
  shared = λ h p q play m n e. refl;
}

chance_weights : HasChanceWeights chain_rules
chance_weights = record {
  weighed = λ h play. everywhere (λ place legal weights. place ≡ Chance → length weights ≡ length (next_at place (λ p. legal))) (λ e. refl) (λ e. cc) (λ e. cc) h;
  weight_low = λ h play. everywhere (λ place legal weights. place ≡ Chance → 1 ≤ sum weights) (λ e. omega arith) (λ e. cc) (λ e. cc) h;
  weight_high = λ h play. everywhere (λ place legal weights. place ≡ Chance → sum weights ≤ 2 ^ 62) (λ e. omega arith) (λ e. cc) (λ e. cc) h;
}

-- nobody chooses at once with others
chain_alone : (h : List ℕ) (p : ℕ) → IsPlay chain_rules h → chain_place h ≡ Joint p → ⊥
chain_alone h p play = everywhere (λ place legal weights. place ≡ Joint p → ⊥) (λ e. cc) (λ e. cc) (λ e. cc) h

-- a number is legal only after fewer than 4,096
has_room : (h : List ℕ) (a : ℕ) → Contains (next_at (chain_place h) (λ p. chain_legal h)) a → length h < 4096
has_room [] a c = omega arith
has_room (drawn ∷ rest) a c = by (goes_on (drawn ∷ rest)) (ltb-true (length (drawn ∷ rest)) 4096) c
  where
    by : (b : Bool) → (b ≡ true → length (drawn ∷ rest) < 4096) → Contains (next_at (place_if b) (λ p. legal_if b)) a → length (drawn ∷ rest) < 4096
    by true told c = told refl
    by false told c = absurd (omega (arith, c.1))

-- the number with the index 4,096 would not be legal
no_more : (h : List ℕ) → IsPlay chain_rules h → 4096 < length h → ⊥
no_more h play long =
    let front : List ℕ = take 4096 h in
    let last : ℕ = slice_index h 4096 in
    let more : IsPlay chain_rules (front ++ last ∷ []) = subst (λ z. IsPlay chain_rules z) (take_more h 4096 0 long) (IsPlay-take chain_rules h (4096 + 1) play) in
    let room : length front < 4096 = has_room front last (IsPlay-last chain_rules front last more) in
    let count : length front ≡ 4096 = length-take-le 4096 h (omega arith) in
    omega arith

chain_short : (h : List ℕ) → IsPlay chain_rules h → length h ≤ 4096
chain_short h play = by (nat_lt 4096 (length h)) refl
  where
    by : (b : Bool) → nat_lt 4096 (length h) ≡ b → length h ≤ 4096
    by true e = absurd (no_more h play (ltb-true 4096 (length h) e))
    by false e = ltb-false 4096 (length h) e

printable : (n : ℕ) → IsPrintable 32768 (count_text n)
printable n = record {
  short = omega arith;
  ascii = All-from_recursion (λ b. (32 ≤ b) × (b ≤ 126)) (count_text n) ((omega arith, omega arith), ((omega arith, omega arith), tt));
}

pub chain_lawful : IsLawful chain_rules
chain_lawful = record {
  limits = record {
    players_low = omega arith;
    players_high = omega arith;
    unit_low = omega arith;
    unit_high = omega arith;
    cap_low = omega arith;
    cap_high = omega arith;
    short = chain_short;
  };
  numbers = legal_numbers;
  chance = chance_weights;
  joint = without_joint_steps chain_rules tt chain_alone;
  texts = record {
    infos = λ h p play has l. printable (length h);
    names = λ h p a play c. IsPrintable-computed 128 (codes "go") refl refl;
  };
  capped = λ h p play e l. omega arith;
  one_shot = λ o. absurd (false≢true o);
}
