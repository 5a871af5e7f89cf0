-- What cards are worth.
use Rattle.std.proofs.Common.{◌≡◌, ℕ, zero, suc, ◌+◌, ◌*◌, ◌/◌, ◌<◌, ◌≤◌, Bool, true, false, not, cond, List, [], ◌∷◌, ◌++◌, reverse, ◌⊎◌, inl, inr, refl, sym, arith}
use Rattle.std.specs.List.{Contains, sum_by}
use Rattle.std.proofs.lemmas.Bool.{cases_lt, ne_eqb, eq-eqb, or_right}
use Rattle.std.proofs.lemmas.List.{reverse-append}
use Rattle.std.proofs.lemmas.List.Sums.{sum_by-append, sum_by-cons}
use Rattle.spiel_api.specs.Walks.{is_in}
use Rattle.spiel_api.specs.Deck.{numbers_below, cards_where, cards_left}
use Rattle.spiel_api.proofs.Members.{is_in-push, or_false}
use Rattle.spiel_api.proofs.CardsLeft.{left_below, where_agree, where_next, where_other, where_passes, where_push}

-- what cards are worth: a card's number is the card less 1
abbrev pub worth : List ℕ → ℕ
worth cards = sum_by (λ c. c + 1) cards

pub worth-append : (xs ys : List ℕ) → worth (xs ++ ys) ≡ worth xs + worth ys
worth-append xs ys = sum_by-append (λ c. c + 1) xs ys

pub worth-reverse : (xs : List ℕ) → worth (reverse xs) ≡ worth xs
worth-reverse [] = refl
worth-reverse (x ∷ xs) =
    let last : reverse (x ∷ xs) ≡ reverse xs ++ x ∷ [] = reverse-append (x ∷ []) xs in
    rw last (omega (arith, worth-append (reverse xs) (x ∷ []), worth-reverse xs, sum_by-cons (λ (c : ℕ). c + 1) x xs))

-- all of n cards
twice_worth : (n : ℕ) → worth (numbers_below n) + worth (numbers_below n) ≡ n * (n + 1)
twice_worth zero = refl
twice_worth (suc n) =
    let more : suc n * (suc n + 1) ≡ n * (n + 1) + (n + 1) + (n + 1) = grind arith in
    omega (arith, more, twice_worth n, worth-append (numbers_below n) (n ∷ []))

pub all_worth : (n : ℕ) → worth (numbers_below n) ≡ n * (n + 1) / 2
all_worth n = omega (arith, twice_worth n)

-- two tests that agree at all cards but one
module _ (test other : ℕ → Bool) (card : ℕ) (same : (c : ℕ) → (c ≡ card → ⊥) → test c ≡ other c) (passes : test card ≡ true) (fails : other card ≡ false) where
  -- what passes the first test is worth so much more
  pub one_away : (n : ℕ) → card < n → worth (cards_where test n) ≡ worth (cards_where other n) + (card + 1)
  one_away zero l = absurd (omega arith)
  one_away (suc n) l = by (λ below. one_away n below) (cases_lt card n)
    where
      by : (card < n → worth (cards_where test n) ≡ worth (cards_where other n) + (card + 1)) → (card < n) ⊎ (n ≤ card) → worth (cards_where test (suc n)) ≡ worth (cards_where other (suc n)) + (card + 1)
      by before (inl below) =
          let h = before below in
          rw (where_push test n, where_push other n, same n (λ e. omega arith))
          (omega (arith, worth-append (cards_where test n) (cond (other n) (n ∷ []) []), worth-append (cards_where other n) (cond (other n) (n ∷ []) [])))
      by before (inr above) =
          let e : n ≡ card = omega arith in
          rw (e, where_next test card passes, where_other other card fails, where_agree test other card (λ c m. same c (λ f. omega arith)))
          (omega (arith, worth-append (cards_where other card) (card ∷ [])))

-- a card that is drawn takes its worth away
pub left_worth : (n : ℕ) (gone : List ℕ) (card : ℕ) → Contains (cards_left n gone) card → worth (cards_left n gone) ≡ worth (cards_left n (gone ++ card ∷ [])) + (card + 1)
left_worth n gone card c =
    one_away (λ c. not (is_in gone c)) (λ c. not (is_in (gone ++ card ∷ []) c)) card
    (λ c other. rw (is_in-push gone card c, ne_eqb card c (λ e. other (sym e)), or_false) refl)
    (where_passes (λ c. not (is_in gone c)) n card c)
    (rw (is_in-push gone card card, eq-eqb card card refl, or_right (is_in gone card) true refl) refl)
    n (left_below n gone card c)
