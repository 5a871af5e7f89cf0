-- Leduc poker keeps the laws.
use Rattle.std.specs.Prelude.{◌≡◌, ℕ, zero, suc, ◌+◌, ◌-◌, ◌*◌, ◌<◌, ◌≤◌, pos, neg_ℤ, Bool, true, false, List, [], ◌∷◌, ◌++◌, length, take, reverse, codes, nat_abs, Option, Some, None, nat_lt, if◌then◌else◌, ◌==◌, slice_index}
use Rattle.std.specs.List.{All, Contains}
use Rattle.std.specs.Fmt.{decimal}
use Rattle.std.proofs.Common.{refl, arith, subst, sym, ap, inl, inr, ◌⊎◌, length-append}
use Rattle.std.proofs.lemmas.Int.{ints}
use Rattle.std.proofs.lemmas.Bool.{ltb-true, cases_lt}
use Rattle.std.proofs.lemmas.List.{length-map, length-drop, length-reverse, length-take}
use Rattle.std.proofs.lemmas.List.Elements.{All-filter, All-contains, All-map, All-head}
use Rattle.std.proofs.lemmas.List.Sums.{length-filter, count_by-le-length}
use Rattle.spiel_api.specs.declared.place.Place.{Place}
use Rattle.spiel_api.specs.declared.place.Place.TheVariants.{End, Chance, Move, Joint}
use Rattle.spiel_api.specs.Rules.{next_of}
use Rattle.spiel_api.specs.Plays.{IsPlay}
use Rattle.spiel_api.specs.Walks.{is_in}
use Rattle.spiel_api.specs.Laws.{IsLawful, IsPrinted, IsPrintable}
use Rattle.spiel_api.proofs.LawLemmas.{All-computed, IsPrintable-append, IsPrintable-computed, decimal_printable}
use Rattle.spiel_api.proofs.Members.{none_of_none}
use Rattle.spiel_api.proofs.NodeLaws.{AreChoices, AreChoices-computed, AreChoices-left, AreWeights-ones}
use Rattle.spiel_api.proofs.TurnLaws.{IsTurn, next_numbers, turns_lawful}
use Rattle.spiel_api.specs.Deck.{numbers_below, cards_left}
use Rattle.spiel_poker.specs.Betting.{raise_count, in_turn, words_owed, highest_stake, stake_of, words_for, word_letter}
use Rattle.spiel_poker.specs.Leduc.{Parts, first_opening, second_opening, opening_by, opening_of, told_by, told, no_round, no_word, parts, place_in, place_by, place_at, leduc_place, cards_for, numbers_at, words_at, leduc_numbers, weights_at, leduc_weights, letters, round_texts, leduc_info, leduc_name, card_name, bet_name, name_at, pay_by, pay_at, winner_in, better_card, leduc_turns, leduc_rules}
use Rattle.spiel_api.proofs.CardsLeft.{left_below, left_low, left_at_most}
use Rattle.spiel_poker.specs.Rounds.{all_in_turn, owed_count, IsRound, no_words, one_word, fair_word, stake_high}
use Rattle.spiel_poker.specs.Histories.{parts-card, parts-last_card, parts-more, flat_by, flat_parts}
use Rattle.spiel_api.proofs.Inductions.{along}

-- both players
both_low : All (λ p. p < 2) (numbers_below 2)
both_low = All-computed (λ p. p < 2) (λ p. nat_lt p 2) (λ p. ltb-true p 2) (0 ∷ 1 ∷ []) refl

line_low : (r : ℕ) (first : List ℕ) → All (λ p. p < 2) (opening_by 2 r first).line
line_low zero first = both_low
line_low (suc zero) first = both_low
line_low (suc (suc r)) first = All-filter (is_in (in_turn (numbers_below 2) first)) (λ p. p < 2) (numbers_below 2) both_low

-- nobody moves at the same time as another, and whoever moves is a player
abbrev IsKind : Place → Type 0
IsKind End = Unit {0}
IsKind Chance = Unit {0}
IsKind (Move q) = q < 2
IsKind (Joint q) = ⊥

kind_in : (line : List ℕ) (owed : ℕ) (over : Place) → All (λ p. p < 2) line → IsKind over → IsKind (place_in line owed over)
kind_in [] owed over low kind = kind
kind_in (p ∷ []) owed over low kind = tt
kind_in (p ∷ q ∷ others) zero over low kind = kind
kind_in (p ∷ q ∷ others) (suc owed) over low kind = All-head (λ p. p < 2) p (q ∷ others) low

kind_by : (r : ℕ) (line : List ℕ) (owed : ℕ) → All (λ p. p < 2) line → IsKind (place_by r line owed)
kind_by zero line owed low = tt
kind_by (suc zero) line owed low = kind_in line owed Chance low tt
kind_by (suc (suc r)) line owed low = kind_in line owed End low tt

kind_of : (x : Parts) → IsKind (place_at 2 x)
kind_of x = kind_by x.round (in_turn (opening_of 2 x).line x.words) (words_owed (opening_of 2 x).line x.words) (all_in_turn (λ p. p < 2) (opening_of 2 x).line x.words (line_low x.round x.first))

words_choices : (may_fold may_raise : Bool) → AreChoices (words_for may_fold may_raise)
words_choices true true = AreChoices-computed (0 ∷ 1 ∷ 2 ∷ []) refl
words_choices true false = AreChoices-computed (0 ∷ 1 ∷ []) refl
words_choices false true = AreChoices-computed (1 ∷ 2 ∷ []) refl
words_choices false false = AreChoices-computed (1 ∷ []) refl

-- a card is left for every deal
turns : (h : List ℕ) → IsTurn 2 (leduc_place 2 h) (leduc_numbers 2 h) (leduc_weights 2 h)
turns h = by (leduc_place 2 h) (kind_of (parts 2 h))
  where
    left : AreChoices (cards_for 2 h)
    left = AreChoices-left 6 (take 2 h) (omega arith) (omega (arith, length-take 2 h))

    by : (place : Place) → IsKind place → IsTurn 2 place (numbers_at place (cards_for 2 h) (words_at 2 (parts 2 h))) (weights_at place (cards_for 2 h))
    by End kind = tt
    by Chance kind = (left, AreWeights-ones (cards_for 2 h) left.some (omega (arith, left_at_most 6 (take 2 h))))
    by (Move q) kind = (kind, words_choices _ _)
    by (Joint q) kind = absurd kind

-- what is so of the parts of every play: few raises, and few words
pub record IsSound (x : Parts) : Type 0 where
  pub raises : raise_count x.first ≤ 2
  pub long : length x.first ≤ 6
  pub public : x.public < 6
  pub round : IsRound (opening_of 2 x).line x.words

line_short : (r : ℕ) (first : List ℕ) → length (opening_by 2 r first).line ≤ 2
line_short zero first = omega arith
line_short (suc zero) first = omega arith
line_short (suc (suc r)) first = omega (arith, length-filter (is_in (in_turn (numbers_below 2) first)) (numbers_below 2), count_by-le-length (is_in (in_turn (numbers_below 2) first)) (numbers_below 2))

sound_no_round : IsSound no_round
sound_no_round = record { raises = omega arith; long = omega arith; public = omega arith; round = no_words (numbers_below 2) (omega arith) }

sound_no_word : IsSound no_word
sound_no_word = record { raises = omega arith; long = omega arith; public = omega arith; round = no_words (numbers_below 2) (omega arith) }

-- one word more of the round that is on
sound_word : (r : ℕ) (x : Parts) (a : ℕ) → x.round ≡ r → 0 < words_owed (opening_of 2 x).line x.words → (p : ℕ) → Contains (words_at 2 x p) a → IsSound x → IsSound (record x { words = a ∷ x.words })
sound_word r x a e owed p c sound = record {
  raises = sound.raises;
  long = sound.long;
  public = sound.public;
  round = one_word (opening_of 2 x).line x.words a (line_short x.round x.first) owed (fair (fair_word _ (nat_lt (raise_count x.words) 2) a c)) sound.round;
}
  where
    fair : (a < 2) ⊎ (nat_lt (raise_count x.words) 2 ≡ true) → (a < 2) ⊎ (raise_count x.words < 2)
    fair (inl low) = inl low
    fair (inr few) = inr (ltb-true (raise_count x.words) 2 few)

-- the public card
sound_public : (x : Parts) (a : ℕ) → a < 6 → IsSound x → IsSound (record { round = 2; first = x.words; public = a; words = [] })
sound_public x a l sound = record {
  raises = sound.round.raises;
  long = omega (arith, sound.round.long, sound.round.raises);
  public = l;
  round = no_words (opening_by 2 2 x.words).line (line_short 2 x.words);
}

sound_by : (r : ℕ) (x : Parts) (a : ℕ) (cards line : List ℕ) (owed : ℕ) → x.round ≡ r → words_owed (opening_of 2 x).line x.words ≡ owed → owed ≤ length line → All (λ c. c < 6) cards → Contains (numbers_at (place_by r line owed) cards (words_at 2 x)) a → IsSound x → IsSound (told_by r owed x a)
sound_by zero x a cards line owed e o l low c sound = sound
sound_by (suc zero) x a cards [] zero e o l low c sound = sound_public x a (All-contains (λ c. c < 6) cards a low c) sound
sound_by (suc zero) x a cards [] (suc owed) e o l low c sound = absurd (omega arith)
sound_by (suc zero) x a cards (p ∷ []) owed e o l low c sound = none_of_none a c
sound_by (suc zero) x a cards (p ∷ q ∷ others) zero e o l low c sound = sound_public x a (All-contains (λ c. c < 6) cards a low c) sound
sound_by (suc zero) x a cards (p ∷ q ∷ others) (suc owed) e o l low c sound = sound_word 1 x a e (omega arith) p c sound
sound_by (suc (suc r)) x a cards [] owed e o l low c sound = none_of_none a c
sound_by (suc (suc r)) x a cards (p ∷ []) owed e o l low c sound = none_of_none a c
sound_by (suc (suc r)) x a cards (p ∷ q ∷ others) zero e o l low c sound = none_of_none a c
sound_by (suc (suc r)) x a cards (p ∷ q ∷ others) (suc owed) e o l low c sound = sound_word (suc (suc r)) x a e (omega arith) p c sound

sound_told : (x : Parts) (a : ℕ) (cards : List ℕ) → All (λ c. c < 6) cards → Contains (numbers_at (place_at 2 x) cards (words_at 2 x)) a → IsSound x → IsSound (told 2 x a)
sound_told x a cards low c sound =
    sound_by x.round x a cards (in_turn (opening_of 2 x).line x.words) (words_owed (opening_of 2 x).line x.words) refl refl (owed_count (opening_of 2 x).line x.words) low c sound

sound_root : IsSound (parts 2 [])
unfolding parts
sound_root = sound_no_round

pub sound_play : (h : List ℕ) → IsPlay leduc_rules h → IsSound (parts 2 h)
sound_play = along leduc_rules (λ h. IsSound (parts 2 h)) more sound_root
  where
    more : (h : List ℕ) (a : ℕ) → IsPlay leduc_rules h → IsSound (parts 2 h) → Contains (next_of leduc_rules h) a → IsSound (parts 2 (h ++ a ∷ []))
    more h a play sound c = by (cases_lt (length h + 1) 2) (cases_lt (length h) 2)
      where
        by : (length h + 1 < 2) ⊎ (2 ≤ length h + 1) → (length h < 2) ⊎ (2 ≤ length h) → IsSound (parts 2 (h ++ a ∷ []))
        by (inl few) other = subst IsSound (sym (parts-card 2 h a few)) sound_no_round
        by (inr one) (inl last) = subst IsSound (sym (parts-last_card 2 h a (omega arith))) sound_no_word
        by (inr one) (inr both) = subst IsSound (sym (parts-more 2 h a both)) (sound_told (parts 2 h) a (cards_for 2 h) (left_low 6 (take 2 h)) (next_numbers (leduc_place 2 h) (leduc_numbers 2 h) a c) sound)

-- how many numbers a play has
flat_long : (r : ℕ) (x : Parts) → IsSound x → length (flat_by r x) ≤ 13
flat_long zero x sound = omega arith
flat_long (suc zero) x sound = omega (arith, length-reverse x.words, sound.round.long, sound.round.raises)
flat_long (suc (suc r)) x sound = omega (arith, length-append (reverse x.first) (x.public ∷ reverse x.words), length-reverse x.first, length-reverse x.words, sound.long, sound.round.long, sound.round.raises)

leduc_short : (h : List ℕ) → IsPlay leduc_rules h → length h ≤ 15
leduc_short h play = omega (arith, length-drop 2 h, ap length (flat_parts 2 h), flat_long (parts 2 h).round (parts 2 h) (sound_play h play))

-- no stake is higher than 13: the ante, two raises by 2 and two by 4
highest_first : (words : List ℕ) → highest_stake (first_opening 2) words ≡ 1 + 2 * raise_count words
highest_first [] = refl
highest_first (zero ∷ words) = highest_first words
highest_first (suc zero ∷ words) = highest_first words
highest_first (suc (suc a) ∷ words) = omega (arith, highest_first words)

highest_second : (first words : List ℕ) → highest_stake (second_opening 2 first) words ≡ highest_stake (first_opening 2) first + 4 * raise_count words
highest_second first [] = omega arith
highest_second first (zero ∷ words) = highest_second first words
highest_second first (suc zero ∷ words) = highest_second first words
highest_second first (suc (suc a) ∷ words) = omega (arith, highest_second first words)

highest_by : (r : ℕ) (first words : List ℕ) → raise_count first ≤ 2 → raise_count words ≤ 2 → highest_stake (opening_by 2 r first) words ≤ 13
highest_by zero first words f w = omega (arith, highest_first words)
highest_by (suc zero) first words f w = omega (arith, highest_first words)
highest_by (suc (suc r)) first words f w = omega (arith, highest_second first words, highest_first first)

stakes_by : (r : ℕ) (first : List ℕ) (p : ℕ) → (opening_by 2 r first).stakes p ≤ (opening_by 2 r first).top
stakes_by zero first p = omega arith
stakes_by (suc zero) first p = omega arith
stakes_by (suc (suc r)) first p = stake_high (first_opening 2) first p (omega arith)

pub highest_low : (x : Parts) → IsSound x → highest_stake (opening_of 2 x) x.words ≤ 13
highest_low x sound = highest_by x.round x.first x.words sound.raises sound.round.raises

stake_low : (x : Parts) (p : ℕ) → IsSound x → stake_of (opening_of 2 x) x.words p ≤ 13
stake_low x p sound = omega (arith, highest_low x sound, stake_high (opening_of 2 x) x.words p (stakes_by x.round x.first p))

leduc_capped : (h : List ℕ) (p : ℕ) → IsPlay leduc_rules h → nat_abs (pay_at 2 h (parts 2 h) p) ≤ 13
leduc_capped h p play = by (winner_in (in_turn (opening_of 2 (parts 2 h)).line (parts 2 h).words) (better_card (slice_index h 0) (slice_index h 1) (parts 2 h).public))
  where
    paid : (wins : Bool) (n m : ℕ) → n ≤ 13 → m ≤ 13 → nat_abs (if wins then pos n else neg_ℤ (pos m)) ≤ 13
    paid true n m l k = omega (arith, ints)
    paid false n m l k = omega (arith, ints)

    by : (winner : Option ℕ) → nat_abs (pay_by winner (stake_of (opening_of 2 (parts 2 h)) (parts 2 h).words) p) ≤ 13
    by None = omega arith
    by (Some w) = paid (w == p) _ _ (stake_low (parts 2 h) (1 - p) (sound_play h play)) (stake_low (parts 2 h) p (sound_play h play))

-- texts
printable_card : (c : ℕ) → c < 6 → IsPrintable 1 (decimal c)
printable_card c l = decimal_printable 1 c (omega arith) (omega arith) (omega arith)

letter_printed : (a : ℕ) → IsPrinted (word_letter a)
letter_printed zero = (omega arith, omega arith)
letter_printed (suc zero) = (omega arith, omega arith)
letter_printed (suc (suc a)) = (omega arith, omega arith)

printable_letters : (words : List ℕ) → length words ≤ 6 → IsPrintable 6 (letters words)
printable_letters words l = record {
  short = omega (arith, length-map (reverse words) word_letter, length-reverse words);
  ascii = All-map IsPrinted word_letter (reverse words) (λ k d h. letter_printed _);
}

short_words : (x : Parts) → IsSound x → length x.words ≤ 6
short_words x sound = omega (arith, sound.round.long, sound.round.raises)

printable_rounds : (r : ℕ) (x : Parts) → IsSound x → IsPrintable 15 (round_texts r x)
printable_rounds zero x sound = let t = printable_letters x.words (short_words x sound) in record { short = omega (arith, t.short); ascii = t.ascii }
printable_rounds (suc zero) x sound = let t = printable_letters x.words (short_words x sound) in record { short = omega (arith, t.short); ascii = t.ascii }
printable_rounds (suc (suc r)) x sound =
    let first = printable_letters x.first sound.long in
    let with_slash = IsPrintable-append 6 1 7 (letters x.first) (codes "/") (omega arith) first (IsPrintable-computed 1 (codes "/") refl refl) in
    let with_card = IsPrintable-append 7 1 8 (letters x.first ++ codes "/") (decimal x.public) (omega arith) with_slash (printable_card x.public sound.public) in
    let with_colon = IsPrintable-append 8 1 9 (letters x.first ++ codes "/" ++ decimal x.public) (codes ":") (omega arith) with_card (IsPrintable-computed 1 (codes ":") refl refl) in
    IsPrintable-append 9 6 15 (letters x.first ++ codes "/" ++ decimal x.public ++ codes ":") (letters x.words) (omega arith) with_colon (printable_letters x.words (short_words x sound))

-- the players' cards
own_card : (c d : ℕ) (said : List ℕ) (p : ℕ) → IsPlay leduc_rules (c ∷ d ∷ said) → p < 2 → slice_index (c ∷ d ∷ said) p < 6
unfolding parts
own_card c d said zero play l = All-contains (λ a. a < 6) (cards_left 6 []) c (left_low 6 []) play.steps.0
own_card c d said (suc zero) play l = All-contains (λ a. a < 6) (cards_left 6 (c ∷ [])) d (left_low 6 (c ∷ [])) play.steps.1.0
own_card c d said (suc (suc p)) play l = absurd (omega arith)

leduc_infos : (h : List ℕ) (p : ℕ) → IsPlay leduc_rules h → leduc_place 2 h ≡ Move p → IsPrintable 32768 (leduc_info 2 h p)
unfolding parts
leduc_infos [] p play turn = cc
leduc_infos (c ∷ []) p play turn = cc
leduc_infos (c ∷ d ∷ said) p play turn =
    let l : p < 2 = subst IsKind turn (kind_of (parts 2 (c ∷ d ∷ said))) in
    let h : List ℕ = c ∷ d ∷ said in
    let with_colon = IsPrintable-append 1 1 2 (decimal (slice_index h p)) (codes ":") (omega arith) (printable_card (slice_index h p) (own_card c d said p play l)) (IsPrintable-computed 1 (codes ":") refl refl) in
    IsPrintable-append 2 15 32768 (decimal (slice_index h p) ++ codes ":") (round_texts (parts 2 h).round (parts 2 h)) (omega arith) with_colon (printable_rounds (parts 2 h).round (parts 2 h) (sound_play h play))

printable_deal : (a : ℕ) → a < 6 → IsPrintable 128 (card_name a)
printable_deal a l = IsPrintable-append 5 1 128 (codes "deal ") (decimal a) (omega arith) (IsPrintable-computed 5 (codes "deal ") refl refl) (printable_card a l)

printable_bet : (a : ℕ) → IsPrintable 128 (bet_name a)
printable_bet zero = IsPrintable-computed 128 (codes "fold") refl refl
printable_bet (suc zero) = IsPrintable-computed 128 (codes "call") refl refl
printable_bet (suc (suc a)) = IsPrintable-computed 128 (codes "raise") refl refl

leduc_names : (h : List ℕ) (p a : ℕ) → Contains (leduc_numbers 2 h) a → IsPrintable 128 (leduc_name 2 h p a)
leduc_names h p a = by (leduc_place 2 h)
  where
    by : (place : Place) → Contains (numbers_at place (cards_for 2 h) (words_at 2 (parts 2 h))) a → IsPrintable 128 (name_at place a)
    by End c = printable_bet a
    by Chance c = printable_deal a (left_below 6 (take 2 h) a c)
    by (Move q) c = printable_bet a
    by (Joint q) c = printable_bet a

pub leduc_lawful : IsLawful leduc_rules
leduc_lawful = turns_lawful leduc_turns (record {
  size = refl;
  short = λ h play. omega (arith, leduc_short h play);
  turns = λ h play. turns h;
  infos = leduc_infos;
  names = λ h p a play c. leduc_names h p a c;
  capped = λ h p play e l. leduc_capped h p play;
})
