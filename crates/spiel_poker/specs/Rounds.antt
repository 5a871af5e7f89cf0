-- What holds of every round of words.
use Rattle.std.proofs.Common.{◌≡◌, ℕ, zero, suc, ◌+◌, ◌-◌, ◌*◌, ◌<◌, ◌≤◌, Bool, true, false, List, [], ◌∷◌, length, nat_lt, ◌⊎◌, inl, inr, refl, arith, length-append}
use Rattle.std.specs.Prelude.{if◌then◌else◌}
use Rattle.std.specs.List.{All, Contains}
use Rattle.std.proofs.lemmas.Bool.{ltb-true}
use Rattle.std.proofs.lemmas.List.Elements.{All-head, All-tail, All-push, All-contains}
use Rattle.spiel_api.proofs.LawLemmas.{All-computed}
use Rattle.spiel_poker.specs.Betting.{Opening, raise_count, others_of, passed_on, is_first, in_turn, words_owed, highest_stake, stake_of, words_for}

module _ (P : ℕ → Type 0) where
  all_others : (xs : List ℕ) → All P xs → All P (others_of xs)
  all_others [] all = all
  all_others (x ∷ xs) all = All-tail P x xs all

  all_passed_on : (xs : List ℕ) → All P xs → All P (passed_on xs)
  all_passed_on [] all = all
  all_passed_on (x ∷ xs) all = All-push P xs x (All-tail P x xs all) (All-head P x xs all)

  -- whoever is in turn is one of the line
  pub all_in_turn : (line words : List ℕ) → All P line → All P (in_turn line words)
  all_in_turn line [] all = all
  all_in_turn line (zero ∷ earlier) all = all_others (in_turn line earlier) (all_in_turn line earlier all)
  all_in_turn line (suc a ∷ earlier) all = all_passed_on (in_turn line earlier) (all_in_turn line earlier all)

length-others_of : (xs : List ℕ) → length (others_of xs) ≡ length xs - 1
length-others_of [] = refl
length-others_of (x ∷ xs) = omega arith

length-passed_on : (xs : List ℕ) → length (passed_on xs) ≡ length xs
length-passed_on [] = refl
length-passed_on (x ∷ xs) = omega (arith, length-append xs (x ∷ []))

-- nobody joins the line
pub in_turn_count : (line words : List ℕ) → length (in_turn line words) ≤ length line
in_turn_count line [] = omega arith
in_turn_count line (zero ∷ earlier) = omega (arith, length-others_of (in_turn line earlier), in_turn_count line earlier)
in_turn_count line (suc a ∷ earlier) = omega (arith, length-passed_on (in_turn line earlier), in_turn_count line earlier)

-- who owes a word is in the line
pub owed_count : (line words : List ℕ) → words_owed line words ≤ length (in_turn line words)
owed_count line [] = omega arith
owed_count line (zero ∷ earlier) = omega (arith, length-others_of (in_turn line earlier), owed_count line earlier)
owed_count line (suc zero ∷ earlier) = omega (arith, length-passed_on (in_turn line earlier), owed_count line earlier)
owed_count line (suc (suc a) ∷ earlier) = omega (arith, length-passed_on (in_turn line earlier))

-- a round of two players in which each word was owed and nobody raised a third time
pub record IsRound (line words : List ℕ) : Type 0 where
  pub raises : raise_count words ≤ 2
  pub long : length words + words_owed line words ≤ 2 + 2 * raise_count words

pub no_words : (line : List ℕ) → length line ≤ 2 → IsRound line []
no_words line l = record { raises = omega arith; long = omega arith }

pub one_word : (line words : List ℕ) (a : ℕ) → length line ≤ 2 → 0 < words_owed line words → (a < 2) ⊎ (raise_count words < 2) → IsRound line words → IsRound line (a ∷ words)
one_word line words zero l o fair round = record { raises = round.raises; long = omega (arith, round.long) }
one_word line words (suc zero) l o fair round = record { raises = round.raises; long = omega (arith, round.long) }
one_word line words (suc (suc a)) l o (inl low) round = absurd (omega arith)
one_word line words (suc (suc a)) l o (inr few) round = record { raises = omega arith; long = omega (arith, round.long, in_turn_count line words) }

-- a word that may be said is no raise, or there may be one
pub fair_word : (may_fold may_raise : Bool) (a : ℕ) → Contains (words_for may_fold may_raise) a → (a < 2) ⊎ (may_raise ≡ true)
fair_word may_fold true a c = inr refl
fair_word true false a c = inl (All-contains (λ a. a < 2) (0 ∷ 1 ∷ []) a (All-computed (λ a. a < 2) (λ a. nat_lt a 2) (λ a. ltb-true a 2) (0 ∷ 1 ∷ []) refl) c)
fair_word false false a c = inl (All-contains (λ a. a < 2) (1 ∷ []) a (All-computed (λ a. a < 2) (λ a. nat_lt a 2) (λ a. ltb-true a 2) (1 ∷ []) refl) c)

-- nobody has paid more than the highest stake
pub stake_high : (opening : Opening) (words : List ℕ) (p : ℕ) → opening.stakes p ≤ opening.top → stake_of opening words p ≤ highest_stake opening words
stake_high opening [] p l = l
stake_high opening (zero ∷ earlier) p l = stake_high opening earlier p l
stake_high opening (suc zero ∷ earlier) p l = by (is_first (in_turn opening.line earlier) p) (stake_high opening earlier p l)
  where
    by : (b : Bool) → stake_of opening earlier p ≤ highest_stake opening earlier → (if b then highest_stake opening earlier else stake_of opening earlier p) ≤ highest_stake opening earlier
    by true before = omega arith
    by false before = before
stake_high opening (suc (suc a) ∷ earlier) p l = by (is_first (in_turn opening.line earlier) p) (stake_high opening earlier p l)
  where
    by : (b : Bool) → stake_of opening earlier p ≤ highest_stake opening earlier → (if b then highest_stake opening earlier + opening.size else stake_of opening earlier p) ≤ highest_stake opening earlier + opening.size
    by true before = omega arith
    by false before = omega arith
