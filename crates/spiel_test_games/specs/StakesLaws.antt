-- The game of stakes keeps the laws.
use Rattle.std.specs.Prelude.{◌≡◌, ◌≢◌, ℕ, zero, suc, ◌+◌, ◌-◌, ◌^◌, ◌<◌, ◌≤◌, pos, neg_ℤ, Bool, true, false, List, [], ◌∷◌, ◌++◌, length, slice_index, nat_abs, codes, nat_lt, sum, if◌then◌else◌, ◌==◌}
use Rattle.std.specs.List.{All, Contains}
use Rattle.std.specs.List.Sorted.{IsStrictlyIncreasing}
use Rattle.std.proofs.Common.{refl, arith, ap}
use Rattle.std.proofs.lemmas.Bool.{ltb-true, false≢true}
use Rattle.std.proofs.lemmas.List.Elements.{All-nil}
use Rattle.spiel_api.specs.declared.place.Place.{Place}
use Rattle.spiel_api.specs.declared.place.Place.TheVariants.{End, Chance, Move, Joint}
use Rattle.spiel_api.specs.Rules.{next_at}
use Rattle.spiel_api.specs.Plays.{IsPlay}
use Rattle.spiel_api.specs.Place.{IsAmongPlayers, IsOpen}
use Rattle.spiel_api.specs.States.{IsJointChoice}
use Rattle.spiel_api.specs.Laws.{IsLawful, IsPrintable, HasLegalNumbers, HasWholeJointSteps}
use Rattle.spiel_api.proofs.LawLemmas.{All-computed, IsStrictlyIncreasing-computed, IsPrintable-computed}
use Rattle.spiel_test_games.specs.Stakes.{stakes_rules, stakes_place, stakes_legal, again_legal, stakes_weights, stakes_info, stakes_name, stakes_pay, stake_text, amount, winner}

-- what holds at each kind of node holds everywhere
everywhere : (P : Place → (ℕ → List ℕ) → List ℕ → Type 0)
    → P Chance (λ p. 0 ∷ 1 ∷ []) (2 ∷ 1 ∷ []) → ((q : ℕ) → q < 2 → P (Joint q) (λ p. 0 ∷ 1 ∷ []) []) → P (Move 1) again_legal [] → P End (λ p. []) []
    → (h : List ℕ) → P (stakes_place h) (stakes_legal h) (stakes_weights h)
everywhere P chance choice again over [] = chance
everywhere P chance choice again over (c ∷ []) = choice 0 (omega arith)
everywhere P chance choice again over (c ∷ a ∷ []) = choice 1 (omega arith)
everywhere P chance choice again over (c ∷ a ∷ b ∷ []) = again
everywhere P chance choice again over (c ∷ a ∷ b ∷ d ∷ rest) = over

two_rise : IsStrictlyIncreasing (0 ∷ 1 ∷ [])
two_rise = IsStrictlyIncreasing-computed (0 ∷ 1 ∷ []) refl

none_rise : IsStrictlyIncreasing []
none_rise = IsStrictlyIncreasing-computed [] refl

two_small : All (λ a. a < 2 ^ 32 - 1) (0 ∷ 1 ∷ [])
two_small = All-computed (λ a. a < 2 ^ 32 - 1) (λ a. nat_lt a (2 ^ 32 - 1)) (λ a. ltb-true a (2 ^ 32 - 1)) (0 ∷ 1 ∷ []) refl

none_small : All (λ a. a < 2 ^ 32 - 1) []
none_small = All-nil (λ a. a < 2 ^ 32 - 1)

-- what holds of no numbers and of two holds at the last choice
again_has : (P : List ℕ → Type 0) → P [] → P (0 ∷ 1 ∷ []) → (p : ℕ) → P (again_legal p)
again_has P none two zero = none
again_has P none two (suc p) = two

again_waits : (p q : ℕ) → p < 2 → Move 1 ≡ Move q → p ≢ q → again_legal p ≡ []
again_waits zero q l e n = refl
again_waits (suc zero) q l e n = let same : 1 ≡ q = cc in absurd (n same)
again_waits (suc (suc p)) q l e n = absurd (omega arith)

legal_numbers : HasLegalNumbers stakes_rules
legal_numbers = record {
  mover = λ h play. everywhere (λ place legal weights. IsAmongPlayers 2 place) tt (λ q l. l) (omega arith) tt h;
  rises = λ h p play m. everywhere (λ place legal weights. IsStrictlyIncreasing (legal p)) two_rise (λ q l. two_rise) (again_has IsStrictlyIncreasing none_rise two_rise p) none_rise h;
  small = λ h p play m. everywhere (λ place legal weights. All (λ a. a < 2 ^ 32 - 1) (legal p)) two_small (λ q l. two_small) (again_has (All (λ a. a < 2 ^ 32 - 1)) none_small two_small p) none_small h;
  goes_on = λ h play. everywhere (λ place legal weights. IsOpen place → 0 < length (next_at place legal)) (λ o. omega arith) (λ q l o. omega arith) (λ o. omega arith) (λ o. absurd o) h;
  stops = λ h p play m. everywhere (λ place legal weights. place ≡ End → legal p ≡ []) (λ e. cc) (λ q l e. cc) (λ e. cc) (λ e. refl) h;
  waits = λ h p q play m. everywhere (λ place legal weights. place ≡ Move q → p ≢ q → legal p ≡ []) (λ e n. cc) (λ r l e n. cc) (λ e n. again_waits p q m e n) (λ e n. refl) h;
  shared = λ h p q play m n. everywhere (λ place legal weights. place ≡ Chance → legal p ≡ legal q) (λ e. refl) (λ r l e. cc) (λ e. cc) (λ e. refl) h;
}

-- player 1 chooses where player 0 has just chosen
enters : (h : List ℕ) (x p : ℕ) → stakes_place (h ++ x ∷ []) ≡ Joint (p + 1) → stakes_place h ≡ Joint p
enters [] x p e = let none : 0 ≡ p + 1 = cc in absurd (omega arith)
enters (c ∷ []) x p e = let one : 1 ≡ p + 1 = cc in ap Joint (omega arith)
enters (c ∷ a ∷ []) x p e = cc
enters (c ∷ a ∷ b ∷ []) x p e = cc
enters (c ∷ a ∷ b ∷ d ∷ rest) x p e = cc

-- what holds where the joint step begins holds where a player chooses who isn't the last
first_choice : (P : List ℕ → ℕ → Type 0) → ((c : ℕ) → P (c ∷ []) 0) → (h : List ℕ) (p : ℕ) → stakes_place h ≡ Joint p → p + 1 < 2 → P h p
first_choice P begins [] zero e l = cc
first_choice P begins (c ∷ []) zero e l = begins c
first_choice P begins (c ∷ a ∷ []) zero e l = cc
first_choice P begins (c ∷ a ∷ b ∷ []) zero e l = cc
first_choice P begins (c ∷ a ∷ b ∷ d ∷ rest) zero e l = cc
first_choice P begins h (suc p) e l = absurd (omega arith)

joint_step : HasWholeJointSteps stakes_rules
joint_step = record {
  begins = tt;
  enters = λ h a p play e. enters h a p e;
  runs = λ h a p play e l. first_choice (λ h p. stakes_place (h ++ a ∷ []) ≡ Joint (p + 1)) (λ c. refl) h p e l;
  same_legal = λ h a p q play e l. first_choice (λ h p. stakes_legal (h ++ a ∷ []) q ≡ stakes_legal h q) (λ c. refl) h p e l;
  same_info = λ h a p q play e l m. first_choice (λ h p. stakes_info (h ++ a ∷ []) ≡ stakes_info h) (λ c. refl) h p e (omega arith);
}

stakes_short : (h : List ℕ) → IsPlay stakes_rules h → length h ≤ 4
stakes_short (c ∷ a ∷ b ∷ d ∷ x ∷ rest) play = let none = play.steps.1.1.1.1.0 in absurd (omega (arith, none.1))
stakes_short h play = omega arith

stake_texts : (stake : ℕ) → IsPrintable 128 (stake_text stake)
stake_texts zero = IsPrintable-computed 128 (codes "one") refl refl
stake_texts (suc stake) = IsPrintable-computed 128 (codes "two") refl refl

stakes_names : (h : List ℕ) (a : ℕ) → IsPrintable 128 (stakes_name h a)
stakes_names [] a = stake_texts a
stakes_names (c ∷ rest) zero = IsPrintable-computed 128 (codes "heads") refl refl
stakes_names (c ∷ rest) (suc a) = IsPrintable-computed 128 (codes "tails") refl refl

stakes_infos : (h : List ℕ) → IsPrintable 32768 (stakes_info h)
stakes_infos [] = IsPrintable-computed 32768 [] refl refl
stakes_infos (zero ∷ rest) = IsPrintable-computed 32768 (codes "one") refl refl
stakes_infos (suc c ∷ rest) = IsPrintable-computed 32768 (codes "two") refl refl

won : (wins : Bool) (stake : ℕ) → nat_abs (if wins then pos (amount stake) else neg_ℤ (pos (amount stake))) ≤ 2
won true zero = omega arith
won true (suc stake) = omega arith
won false zero = omega arith
won false (suc stake) = omega arith

stakes_capped : (h : List ℕ) (p : ℕ) → nat_abs (stakes_pay h p) ≤ 2
stakes_capped [] p = omega arith
stakes_capped (c ∷ []) p = omega arith
stakes_capped (c ∷ a ∷ []) p = omega arith
stakes_capped (c ∷ a ∷ b ∷ []) p = omega arith
stakes_capped (c ∷ a ∷ b ∷ d ∷ rest) p = won (winner a d == p) c

pub stakes_lawful : IsLawful stakes_rules
stakes_lawful = record {
  limits = record {
    players_low = omega arith;
    players_high = omega arith;
    unit_low = omega arith;
    unit_high = omega arith;
    cap_low = omega arith;
    cap_high = omega arith;
    short = λ h play. omega (arith, stakes_short h play);
  };
  numbers = legal_numbers;
  chance = record {
    weighed = λ h play. everywhere (λ place legal weights. place ≡ Chance → length weights ≡ length (next_at place legal)) (λ e. refl) (λ q l e. cc) (λ e. cc) (λ e. cc) h;
    weight_low = λ h play. everywhere (λ place legal weights. place ≡ Chance → 1 ≤ sum weights) (λ e. omega arith) (λ q l e. cc) (λ e. cc) (λ e. cc) h;
    weight_high = λ h play. everywhere (λ place legal weights. place ≡ Chance → sum weights ≤ 2 ^ 62) (λ e. omega arith) (λ q l e. cc) (λ e. cc) (λ e. cc) h;
  };
  joint = joint_step;
  texts = record {
    infos = λ h p play has l. stakes_infos h;
    names = λ h p a play c. stakes_names h a;
  };
  capped = λ h p play e l. stakes_capped h p;
  one_shot = λ o. absurd (false≢true o);
}

-- behind a stake any two sides are a joint step
pub both_choose : (h : List ℕ) (stake first second : ℕ) → h ≡ stake ∷ [] → first < 2 → second < 2 → IsJointChoice stakes_rules h (first ∷ second ∷ [])
both_choose [] stake first second e l m = cc
both_choose (a ∷ b ∷ rest) stake first second e l m = cc
both_choose (a ∷ []) stake first second e l m = record { count = refl; each = each }
  where
    side : (a : ℕ) → a < 2 → Contains (0 ∷ 1 ∷ []) a
    side zero n = (0, n, refl)
    side (suc zero) n = (1, n, refl)
    side (suc (suc a)) n = absurd (omega arith)

    each : (p : ℕ) → p < 2 → Contains (0 ∷ 1 ∷ []) (slice_index (first ∷ second ∷ []) p)
    each zero n = side first l
    each (suc zero) n = side second m
    each (suc (suc p)) n = absurd (omega arith)
