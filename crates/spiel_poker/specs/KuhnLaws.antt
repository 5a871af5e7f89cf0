-- Kuhn poker keeps the laws.
use Rattle.std.specs.Prelude.{◌≡◌, ℕ, zero, suc, ◌+◌, ◌<◌, ◌≤◌, pos, neg_ℤ, Bool, true, false, not, List, [], ◌∷◌, length, nat_abs, nat_lt, if◌then◌else◌, ◌==◌}
use Rattle.std.specs.List.{All, Contains}
use Rattle.std.proofs.Common.{refl, arith}
use Rattle.std.proofs.lemmas.Int.{ints}
use Rattle.std.proofs.lemmas.Bool.{ltb-true}
use Rattle.std.proofs.lemmas.List.{length-map}
use Rattle.std.proofs.lemmas.List.Elements.{All-cons, All-filter, All-contains, All-map}
use Rattle.spiel_api.specs.declared.place.Place.TheVariants.{Chance, Move}
use Rattle.spiel_api.specs.Plays.{IsPlay}
use Rattle.spiel_api.specs.Laws.{IsLawful, IsPrinted, IsPrintable}
use Rattle.spiel_api.proofs.LawLemmas.{All-computed, IsPrintable-computed}
use Rattle.spiel_api.proofs.NodeLaws.{AreChoices, AreChoices-computed, AreWeights-ones}
use Rattle.spiel_api.proofs.TurnLaws.{IsTurn, turns_lawful}
use Rattle.spiel_poker.specs.Kuhn.{kuhn_turns, kuhn_rules, kuhn_place, kuhn_numbers, others, kuhn_weights, kuhn_info, kuhn_name, deal_name, word_name, kuhn_pay, letter, winner, loss}

-- each card is below 3
cards_small : All (λ a. a < 3) (0 ∷ 1 ∷ 2 ∷ [])
cards_small = All-computed (λ a. a < 3) (λ a. nat_lt a 3) (λ a. ltb-true a 3) (0 ∷ 1 ∷ 2 ∷ []) refl

others_small : (c : ℕ) → All (λ a. a < 3) (others c)
others_small c = All-filter (λ a. not (a == c)) (λ a. a < 3) (0 ∷ 1 ∷ 2 ∷ []) cards_small

first_card : (c : ℕ) (rest : List ℕ) → IsPlay kuhn_rules (c ∷ rest) → c < 3
first_card c rest play = All-contains (λ a. a < 3) (0 ∷ 1 ∷ 2 ∷ []) c cards_small play.steps.0

second_card : (c d : ℕ) (rest : List ℕ) → IsPlay kuhn_rules (c ∷ d ∷ rest) → d < 3
second_card c d rest play = All-contains (λ a. a < 3) (others c) d (others_small c) play.steps.1.0

-- two cards are left after the first
second_deal : (c : ℕ) → c < 3 → IsTurn 2 Chance (others c) (1 ∷ 1 ∷ [])
second_deal zero l = (AreChoices-computed (others 0) refl, AreWeights-ones (others 0) (omega arith) (omega arith))
second_deal (suc zero) l = (AreChoices-computed (others 1) refl, AreWeights-ones (others 1) (omega arith) (omega arith))
second_deal (suc (suc zero)) l = (AreChoices-computed (others 2) refl, AreWeights-ones (others 2) (omega arith) (omega arith))
second_deal (suc (suc (suc c))) l = absurd (omega arith)

both_words : AreChoices (0 ∷ 1 ∷ [])
both_words = AreChoices-computed (0 ∷ 1 ∷ []) refl

turns : (h : List ℕ) → IsPlay kuhn_rules h → IsTurn 2 (kuhn_place h) (kuhn_numbers h) (kuhn_weights h)
turns [] play = (AreChoices-computed (0 ∷ 1 ∷ 2 ∷ []) refl, AreWeights-ones (0 ∷ 1 ∷ 2 ∷ []) (omega arith) (omega arith))
turns (c ∷ []) play = second_deal c (first_card c [] play)
turns (c ∷ d ∷ []) play = (omega arith, both_words)
turns (c ∷ d ∷ a ∷ []) play = (omega arith, both_words)
turns (c ∷ d ∷ a ∷ b ∷ e ∷ rest) play = tt
turns (c ∷ d ∷ zero ∷ suc zero ∷ []) play = (omega arith, both_words)
turns (c ∷ d ∷ a ∷ b ∷ []) play = tt

-- two cards and at most three words
kuhn_short : (h : List ℕ) → IsPlay kuhn_rules h → length h ≤ 5
kuhn_short (c ∷ d ∷ a ∷ b ∷ e ∷ f ∷ rest) play = let none = play.steps.1.1.1.1.1.0 in absurd (omega (arith, none.1))
kuhn_short h play = omega arith

-- texts
letter_printed : (a : ℕ) → IsPrinted (letter a)
letter_printed zero = (omega arith, omega arith)
letter_printed (suc a) = (omega arith, omega arith)

card_printed : (b : Bool) (c d : ℕ) → c < 3 → d < 3 → IsPrinted (48 + (if b then c else d))
card_printed true c d l m = (omega arith, omega arith)
card_printed false c d l m = (omega arith, omega arith)

kuhn_infos : (h : List ℕ) (p : ℕ) → IsPlay kuhn_rules h → kuhn_place h ≡ Move p → IsPrintable 32768 (kuhn_info h p)
kuhn_infos [] p play turn = cc
kuhn_infos (c ∷ []) p play turn = cc
kuhn_infos (c ∷ d ∷ words) p play turn = record {
  short = omega (arith, kuhn_short (c ∷ d ∷ words) play, length-map words letter);
  ascii = All-cons IsPrinted _ _ (card_printed (p == 0) c d (first_card c (d ∷ words) play) (second_card c d words play)) (All-map IsPrinted letter words (λ k d h. letter_printed _));
}

deal_names : (a : ℕ) → a < 3 → IsPrintable 128 (deal_name a)
deal_names zero l = IsPrintable-computed 128 (deal_name 0) refl refl
deal_names (suc zero) l = IsPrintable-computed 128 (deal_name 1) refl refl
deal_names (suc (suc zero)) l = IsPrintable-computed 128 (deal_name 2) refl refl
deal_names (suc (suc (suc a))) l = absurd (omega arith)

word_names : (a : ℕ) → IsPrintable 128 (word_name a)
word_names zero = IsPrintable-computed 128 (word_name 0) refl refl
word_names (suc a) = IsPrintable-computed 128 (word_name 1) refl refl

kuhn_names : (h : List ℕ) (p a : ℕ) → IsPlay kuhn_rules h → Contains (kuhn_numbers h) a → IsPrintable 128 (kuhn_name h p a)
kuhn_names [] p a play c = deal_names a (All-contains (λ a. a < 3) (0 ∷ 1 ∷ 2 ∷ []) a cards_small c)
kuhn_names (first ∷ []) p a play c = deal_names a (All-contains (λ a. a < 3) (others first) a (others_small first) c)
kuhn_names (first ∷ second ∷ words) p a play c = word_names a

-- returns
loss_low : (words : List ℕ) → loss words ≤ 2
loss_low (zero ∷ suc zero ∷ suc zero ∷ []) = omega arith
loss_low (suc zero ∷ suc zero ∷ []) = omega arith
loss_low words = omega arith

kuhn_capped : (h : List ℕ) (p : ℕ) → nat_abs (kuhn_pay h p) ≤ 2
kuhn_capped [] p = omega arith
kuhn_capped (c ∷ []) p = omega arith
kuhn_capped (c ∷ d ∷ words) p = paid (winner c d words == p) (loss words) (loss_low words)
  where
    paid : (wins : Bool) (n : ℕ) → n ≤ 2 → nat_abs (if wins then pos n else neg_ℤ (pos n)) ≤ 2
    paid true n l = omega (arith, ints)
    paid false n l = omega (arith, ints)

pub kuhn_lawful : IsLawful kuhn_rules
kuhn_lawful = turns_lawful kuhn_turns (record {
  size = refl;
  short = λ h play. omega (arith, kuhn_short h play);
  turns = turns;
  infos = kuhn_infos;
  names = kuhn_names;
  capped = λ h p play e l. kuhn_capped h p;
})
