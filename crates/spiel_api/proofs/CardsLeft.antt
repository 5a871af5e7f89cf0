-- Cards that pass a test, and those that are left: how many they are, and which stands where.
use Rattle.std.proofs.Common.{◌≡◌, ℕ, zero, suc, ◌+◌, ◌<◌, ◌≤◌, Bool, true, false, not, cond, List, [], ◌∷◌, ◌++◌, length, ◌⊎◌, inl, inr, refl, ap, sym, ◌∙◌, arith, add-one, length-append}
use Rattle.std.specs.Prelude.{slice_index}
use Rattle.std.specs.List.{All, Contains}
use Rattle.std.specs.List.Sorted.{IsStrictlyIncreasing}
use Rattle.std.proofs.lemmas.Bool.{cases_lt, cases_eq, ne_eqb}
use Rattle.std.proofs.lemmas.List.Elements.{All-nil, All-push, All-weaker, All-filter, All-contains, filter-append, filter_passes}
use Rattle.std.proofs.lemmas.List.Kept.{IsStrictlyIncreasing-filter}
use Rattle.std.proofs.lemmas.List.{get_or_append_left, append-nil}
use Rattle.std.proofs.Math.Seq.{get_or-append_seam}
use Rattle.spiel_api.specs.Walks.{is_in}
use Rattle.spiel_api.specs.Deck.{numbers_below, cards_where, cards_left}

-- the numbers below n are n numbers, each at its own place
pub length-numbers_below : (n : ℕ) → length (numbers_below n) ≡ n
length-numbers_below zero = refl
length-numbers_below (suc n) = omega (arith, length-append (numbers_below n) (n ∷ []), length-numbers_below n)

pub number_at : (n k : ℕ) → k < n → slice_index (numbers_below n) k ≡ k
number_at zero k l = absurd (omega arith)
number_at (suc n) k l = by (λ below. number_at n k below) (cases_lt k n)
  where
    by : (k < n → slice_index (numbers_below n) k ≡ k) → (k < n) ⊎ (n ≤ k) → slice_index (numbers_below n ++ n ∷ []) k ≡ k
    by before (inl below) = get_or_append_left (numbers_below n) (n ∷ []) 0 k (omega (arith, length-numbers_below n)) ∙ before below
    by before (inr above) =
        let e : k ≡ length (numbers_below n) = omega (arith, length-numbers_below n) in
        rw e (get_or-append_seam (numbers_below n) n [] 0 ∙ sym (length-numbers_below n))

pub numbers_rise : (n : ℕ) → IsStrictlyIncreasing (numbers_below n)
numbers_rise n k l =
    let m : k + 1 < n = omega (arith, length-numbers_below n) in
    omega (arith, number_at n k (omega arith), number_at n (k + 1) m)

pub numbers_low : (n : ℕ) → All (λ a. a < n) (numbers_below n)
numbers_low zero = All-nil (λ a. a < 0)
numbers_low (suc n) = All-push (λ a. a < suc n) (numbers_below n) n (All-weaker (λ a. a < n) (λ a. a < suc n) (λ x l. omega arith) (numbers_below n) (numbers_low n)) (omega arith)

-- cards that pass a test rise, and are of the n cards
pub where_rise : (test : ℕ → Bool) (n : ℕ) → IsStrictlyIncreasing (cards_where test n)
unfolding cards_where
where_rise test n = IsStrictlyIncreasing-filter test (numbers_below n) (numbers_rise n)

pub where_low : (test : ℕ → Bool) (n : ℕ) → All (λ a. a < n) (cards_where test n)
unfolding cards_where
where_low test n = All-filter test (λ a. a < n) (numbers_below n) (numbers_low n)

pub where_passes : (test : ℕ → Bool) (n a : ℕ) → Contains (cards_where test n) a → test a ≡ true
unfolding cards_where
where_passes test n a c = All-contains (λ a. test a ≡ true) (cards_where test n) a (filter_passes test (numbers_below n)) c

-- one card more, which passes or doesn't
pub where_push : (test : ℕ → Bool) (n : ℕ) → cards_where test (suc n) ≡ cards_where test n ++ cond (test n) (n ∷ []) []
unfolding cards_where
where_push test n = filter-append test (numbers_below n) (n ∷ [])

pub where_empty : (test : ℕ → Bool) → cards_where test 0 ≡ []
unfolding cards_where
where_empty test = refl

pub where_next : (test : ℕ → Bool) (n : ℕ) → test n ≡ true → cards_where test (suc n) ≡ cards_where test n ++ n ∷ []
where_next test n e = where_push test n ∙ rw e refl

pub where_other : (test : ℕ → Bool) (n : ℕ) → test n ≡ false → cards_where test (suc n) ≡ cards_where test n
where_other test n e = where_push test n ∙ rw e (append-nil (cards_where test n))

pub count-next : (test : ℕ → Bool) (n : ℕ) → test n ≡ true → length (cards_where test (n + 1)) ≡ length (cards_where test n) + 1
count-next test n e = rw (add-one, where_next test n e) (length-append (cards_where test n) (n ∷ []))

pub count-other : (test : ℕ → Bool) (n : ℕ) → test n ≡ false → length (cards_where test (n + 1)) ≡ length (cards_where test n)
count-other test n e = rw (add-one, where_other test n e) refl

-- no more pass than there are
pub where_at_most : (test : ℕ → Bool) (n : ℕ) → length (cards_where test n) ≤ n
where_at_most test zero = rw where_empty (omega arith)
where_at_most test (suc n) = by (where_at_most test n) (test n) (where_push test n)
  where
    by : length (cards_where test n) ≤ n → (b : Bool) → cards_where test (suc n) ≡ cards_where test n ++ cond b (n ∷ []) [] → length (cards_where test (suc n)) ≤ suc n
    by before true e = rw e (omega (arith, length-append (cards_where test n) (n ∷ [])))
    by before false e = rw e (omega (arith, length-append (cards_where test n) []))

-- a card that passes is one more than the lower ones
fewer : (test : ℕ → Bool) (card n : ℕ) → card < n → test card ≡ true → length (cards_where test card) < length (cards_where test n)
fewer test card zero l e = absurd (omega arith)
fewer test card (suc n) l e = by (λ below. fewer test card n below e) (cases_lt card n)
  where
    by : (card < n → length (cards_where test card) < length (cards_where test n)) → (card < n) ⊎ (n ≤ card) → length (cards_where test card) < length (cards_where test (suc n))
    by before (inl below) =
        let h = before below in
        rw (where_push test n) (omega (arith, length-append (cards_where test n) (cond (test n) (n ∷ []) [])))
    by before (inr above) =
        let same : n ≡ card = omega arith in
        rw (same, where_next test card e) (omega (arith, length-append (cards_where test card) (card ∷ [])))

-- it stands behind the lower ones
pub where_place : (test : ℕ → Bool) (n card : ℕ) → card < n → test card ≡ true → slice_index (cards_where test n) (length (cards_where test card)) ≡ card
where_place test zero card l e = absurd (omega arith)
where_place test (suc n) card l e = by (λ below. where_place test n card below e) (cases_lt card n)
  where
    by : (card < n → slice_index (cards_where test n) (length (cards_where test card)) ≡ card) → (card < n) ⊎ (n ≤ card) → slice_index (cards_where test (suc n)) (length (cards_where test card)) ≡ card
    by before (inl below) =
        rw (where_push test n)
        (get_or_append_left (cards_where test n) (cond (test n) (n ∷ []) []) 0 (length (cards_where test card)) (fewer test card n below e) ∙ before below)
    by before (inr above) =
        let same : n ≡ card = omega arith in
        rw (same, where_next test card e) (get_or-append_seam (cards_where test card) card [] 0)

-- two tests that agree on the n cards
pub where_agree : (test other : ℕ → Bool) (n : ℕ) → ((c : ℕ) → c < n → test c ≡ other c) → cards_where test n ≡ cards_where other n
where_agree test other zero same = where_empty test ∙ sym (where_empty other)
where_agree test other (suc n) same =
    where_push test n ∙ rw (same n (omega arith), where_agree test other n (λ c l. same c (omega arith))) (sym (where_push other n))

-- the cards that are left rise, and are cards of the deck
pub left_rise : (n : ℕ) (gone : List ℕ) → IsStrictlyIncreasing (cards_left n gone)
left_rise n gone = where_rise (λ c. not (is_in gone c)) n

pub left_low : (n : ℕ) (gone : List ℕ) → All (λ a. a < n) (cards_left n gone)
left_low n gone = where_low (λ c. not (is_in gone c)) n

pub left_below : (n : ℕ) (gone : List ℕ) (a : ℕ) → Contains (cards_left n gone) a → a < n
left_below n gone a c = All-contains (λ a. a < n) (cards_left n gone) a (left_low n gone) c

pub left_at_most : (n : ℕ) (gone : List ℕ) → length (cards_left n gone) ≤ n
left_at_most n gone = where_at_most (λ c. not (is_in gone c)) n

-- one card more, which is gone or left
pub left_empty : (gone : List ℕ) → cards_left 0 gone ≡ []
left_empty gone = where_empty (λ c. not (is_in gone c))

pub count-gone : (n : ℕ) (gone : List ℕ) → is_in gone n ≡ true → length (cards_left (n + 1) gone) ≡ length (cards_left n gone)
count-gone n gone e = count-other (λ c. not (is_in gone c)) n (ap not e)

pub count-left : (n : ℕ) (gone : List ℕ) → is_in gone n ≡ false → length (cards_left (n + 1) gone) ≡ length (cards_left n gone) + 1
count-left n gone e = count-next (λ c. not (is_in gone c)) n (ap not e)

-- a card that is left stands behind the lower ones
pub left_place : (n : ℕ) (gone : List ℕ) (card : ℕ) → card < n → is_in gone card ≡ false → slice_index (cards_left n gone) (length (cards_left card gone)) ≡ card
left_place n gone card l e = where_place (λ c. not (is_in gone c)) n card l (ap not e)

-- a card that is gone is one less at the most
less_below : (gone : List ℕ) (card n : ℕ) → n ≤ card → cards_left n (card ∷ gone) ≡ cards_left n gone
less_below gone card n l = where_agree (λ c. not (is_in (card ∷ gone) c)) (λ c. not (is_in gone c)) n (λ c m. rw (ne_eqb card c (λ e. omega arith)) refl)

at_most_one : (b : Bool) (n : ℕ) → length (cond b (n ∷ []) []) ≤ 1
at_most_one true n = omega arith
at_most_one false n = omega arith

one_less : (gone : List ℕ) (card n : ℕ) → length (cards_left n gone) ≤ length (cards_left n (card ∷ gone)) + 1
one_less gone card zero = rw (where_empty (λ c. not (is_in gone c))) (omega arith)
one_less gone card (suc n) = by (one_less gone card n) (cases_eq card n)
  where
    by : length (cards_left n gone) ≤ length (cards_left n (card ∷ gone)) + 1 → (card ≡ n) ⊎ (card ≡ n → ⊥) → length (cards_left (suc n) gone) ≤ length (cards_left (suc n) (card ∷ gone)) + 1
    by before (inl same) =
        omega (
          arith,
          ap length (where_push (λ c. not (is_in gone c)) n),
          ap length (where_push (λ c. not (is_in (card ∷ gone) c)) n),
          length-append (cards_left n gone) (cond (not (is_in gone n)) (n ∷ []) []),
          length-append (cards_left n (card ∷ gone)) (cond (not (is_in (card ∷ gone) n)) (n ∷ []) []),
          at_most_one (not (is_in gone n)) n,
          ap length (less_below gone card n (omega arith)),
        )
    by before (inr other) =
        let equal : length (cond (not (is_in gone n)) (n ∷ []) []) ≡ length (cond (not (is_in (card ∷ gone) n)) (n ∷ []) []) = rw (ne_eqb card n other) refl in
        omega (
          arith,
          ap length (where_push (λ c. not (is_in gone c)) n),
          ap length (where_push (λ c. not (is_in (card ∷ gone) c)) n),
          length-append (cards_left n gone) (cond (not (is_in gone n)) (n ∷ []) []),
          length-append (cards_left n (card ∷ gone)) (cond (not (is_in (card ∷ gone) n)) (n ∷ []) []),
          equal,
        )

-- where none is gone, all are left
pub none_gone : (n : ℕ) → cards_left n [] ≡ numbers_below n
none_gone zero = where_empty (λ c. not (is_in [] c))
none_gone (suc n) = where_next (λ c. not (is_in [] c)) n refl ∙ ap (λ (xs : List ℕ). xs ++ n ∷ []) (none_gone n)

pub left_at_least : (n : ℕ) (gone : List ℕ) → n ≤ length (cards_left n gone) + length gone
left_at_least n [] = omega (arith, ap length (none_gone n), length-numbers_below n)
left_at_least n (card ∷ gone) = omega (arith, one_less gone card n, left_at_least n gone)
