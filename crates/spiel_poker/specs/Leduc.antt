-- Leduc poker (Southey et al. 2005, "Bayes' bluff: opponent modelling in poker"; the numbers and texts are this project's own).
-- A history is a card for each player, the words of the first round, the public card, and the words of the second round.
-- Cards, rounds and texts are those of n players. Who is paid what is that of two, and so are the rules of the game.
use Rattle.std.specs.Prelude.{ℕ, zero, suc, ◌+◌, ◌-◌, ◌*◌, ◌/◌, ℤ, pos, neg_ℤ, List, [], ◌∷◌, ◌++◌, take, reverse, slice_index, Option, Some, None, map, codes, if◌then◌else◌, ◌==◌, nat_lt}
use Rattle.std.specs.List.{filter}
use Rattle.std.specs.Fmt.{decimal}
use Rattle.spiel_api.specs.declared.place.Place.{Place}
use Rattle.spiel_api.specs.declared.place.Place.TheVariants.{End, Chance, Move, Joint}
use Rattle.spiel_api.specs.Rules.{Rules}
use Rattle.spiel_api.specs.Turns.{Turns, turn_rules}
use Rattle.spiel_api.specs.Walks.{is_in}
use Rattle.spiel_api.specs.Deck.{numbers_below, cards_left}
use Rattle.spiel_poker.specs.Betting.{Opening, in_turn, words_owed, highest_stake, stake_of, words_of, word_letter}

-- what a history is made of, besides the players' cards
pub record Parts : Type 0 where
  -- how many rounds have begun
  pub round : ℕ
  -- the words of the first round when it is over, the latest first
  pub first : List ℕ
  -- the public card, when it is dealt
  pub public : ℕ
  -- the words of the round that is on, the latest first
  pub words : List ℕ

-- each player antes 1, player 0 speaks first, and a raise is by 2
abbrev pub first_opening : ℕ → Opening
first_opening n = record { line = numbers_below n; stakes = λ p. 1; top = 1; size = 2 }

-- whoever hasn't folded goes on in player order with the stakes that were paid, and a raise is by 4
abbrev pub second_opening : ℕ → List ℕ → Opening
second_opening n first = record {
  line = filter (is_in (in_turn (numbers_below n) first)) (numbers_below n);
  stakes = stake_of (first_opening n) first;
  top = highest_stake (first_opening n) first;
  size = 4;
}

abbrev pub opening_by : ℕ → ℕ → List ℕ → Opening
opening_by n zero first = first_opening n
opening_by n (suc zero) first = first_opening n
opening_by n (suc (suc r)) first = second_opening n first

-- how the round began that is on
abbrev pub opening_of : ℕ → Parts → Opening
opening_of n x = opening_by n x.round x.first

-- one number more: the public card where the first round owes no word, else a word
abbrev pub told_by : ℕ → ℕ → Parts → ℕ → Parts
told_by zero owed x a = x
told_by (suc zero) zero x a = record { round = 2; first = x.words; public = a; words = [] }
told_by (suc zero) (suc owed) x a = record x { words = a ∷ x.words }
told_by (suc (suc r)) owed x a = record x { words = a ∷ x.words }

abbrev pub told : ℕ → Parts → ℕ → Parts
told n x a = told_by x.round (words_owed (opening_of n x).line x.words) x a

abbrev pub no_round : Parts
no_round = record { round = 0; first = []; public = 0; words = [] }

abbrev pub no_word : Parts
no_word = record { round = 1; first = []; public = 0; words = [] }

abbrev pub all_told : ℕ → Parts → List ℕ → Parts
all_told n x [] = x
all_told n x (a ∷ rest) = all_told n (told n x a) rest

-- the first round begins when so many more cards are dealt
abbrev pub after_cards : ℕ → ℕ → List ℕ → Parts
after_cards n zero rest = all_told n no_word rest
after_cards n (suc k) [] = no_round
after_cards n (suc k) (card ∷ rest) = after_cards n k rest

unfoldable pub parts : ℕ → List ℕ → Parts
parts n h = after_cards n n h

-- whose number is next, when these haven't folded and so many words are owed: with one player left the play is over, and with no word owed the round is
abbrev pub place_in : List ℕ → ℕ → Place → Place
place_in [] owed over = over
place_in (p ∷ []) owed over = End
place_in (p ∷ q ∷ others) zero over = over
place_in (p ∷ q ∷ others) (suc owed) over = Move p

abbrev pub place_by : ℕ → List ℕ → ℕ → Place
place_by zero line owed = Chance
place_by (suc zero) line owed = place_in line owed Chance
place_by (suc (suc r)) line owed = place_in line owed End

abbrev pub place_at : ℕ → Parts → Place
place_at n x = place_by x.round (in_turn (opening_of n x).line x.words) (words_owed (opening_of n x).line x.words)

abbrev pub leduc_place : ℕ → List ℕ → Place
leduc_place n h = place_at n (parts n h)

-- two cards of each rank, and one rank more than players
abbrev pub card_count : ℕ → ℕ
card_count n = 2 * n + 2

-- the cards that are left when the players' cards are dealt, so far as they are
abbrev pub cards_for : ℕ → List ℕ → List ℕ
cards_for n h = cards_left (card_count n) (take n h)

-- chance has the cards, and whoever moves has the words
abbrev pub numbers_at : Place → List ℕ → (ℕ → List ℕ) → List ℕ
numbers_at End cards words = []
numbers_at Chance cards words = cards
numbers_at (Move q) cards words = words q
numbers_at (Joint q) cards words = []

abbrev pub words_at : ℕ → Parts → ℕ → List ℕ
words_at n x p = words_of (opening_of n x) x.words p

abbrev pub leduc_numbers : ℕ → List ℕ → List ℕ
leduc_numbers n h = numbers_at (leduc_place n h) (cards_for n h) (words_at n (parts n h))

-- each card is as likely as another
abbrev pub weights_at : Place → List ℕ → List ℕ
weights_at End cards = []
weights_at Chance cards = map (λ card. 1) cards
weights_at (Move q) cards = []
weights_at (Joint q) cards = []

abbrev pub leduc_weights : ℕ → List ℕ → List ℕ
leduc_weights n h = weights_at (leduc_place n h) (cards_for n h)

-- the letters of a round's words, in the order in which they were said
abbrev pub letters : List ℕ → List ℕ
letters words = map word_letter (reverse words)

-- the words of the first round, and after the public card those of the second: `cc/4:r`
abbrev pub round_texts : ℕ → Parts → List ℕ
round_texts zero x = letters x.words
round_texts (suc zero) x = letters x.words
round_texts (suc (suc r)) x = letters x.first ++ codes "/" ++ decimal x.public ++ codes ":" ++ letters x.words

-- the player's own card, and all words: `3:cc/4:r`
abbrev pub leduc_info : ℕ → List ℕ → ℕ → List ℕ
leduc_info n h p = decimal (slice_index h p) ++ codes ":" ++ round_texts (parts n h).round (parts n h)

abbrev pub card_name : ℕ → List ℕ
card_name card = codes "deal " ++ decimal card

abbrev pub bet_name : ℕ → List ℕ
bet_name zero = codes "fold"
bet_name (suc zero) = codes "call"
bet_name (suc (suc a)) = codes "raise"

abbrev pub name_at : Place → ℕ → List ℕ
name_at End a = bet_name a
name_at Chance a = card_name a
name_at (Move q) a = bet_name a
name_at (Joint q) a = bet_name a

abbrev pub leduc_name : ℕ → List ℕ → ℕ → ℕ → List ℕ
leduc_name n h p a = name_at (leduc_place n h) a

abbrev pub rank : ℕ → ℕ
rank card = card / 2

-- who has the better of two cards beside the public card: a pair with it wins, else the higher rank, and nobody wins with equal ranks
abbrev pub better_card : ℕ → ℕ → ℕ → Option ℕ
better_card first second public =
    if rank first == rank second then None
    else (if rank first == rank public then Some 0
    else (if rank second == rank public then Some 1
    else (if nat_lt (rank second) (rank first) then Some 0 else Some 1)))

-- who wins of two players: the other one after a fold
abbrev pub winner_in : List ℕ → Option ℕ → Option ℕ
winner_in [] shown = shown
winner_in (p ∷ []) shown = Some p
winner_in (p ∷ q ∷ others) shown = shown

-- of two players the loser pays the stake, and without a winner nobody pays
abbrev pub pay_by : Option ℕ → (ℕ → ℕ) → ℕ → ℤ
pay_by None stake p = pos 0
pay_by (Some winner) stake p = if winner == p then pos (stake (1 - p)) else neg_ℤ (pos (stake p))

abbrev pub pay_at : ℕ → List ℕ → Parts → ℕ → ℤ
pay_at n h x p = pay_by
    (winner_in (in_turn (opening_of n x).line x.words) (better_card (slice_index h 0) (slice_index h 1) x.public))
    (stake_of (opening_of n x) x.words)
    p

abbrev pub leduc_turns : Turns
leduc_turns = record {
  players = 2;
  unit = 1;
  cap = 13;
  place = leduc_place 2;
  numbers = leduc_numbers 2;
  weights = leduc_weights 2;
  info = leduc_info 2;
  name = leduc_name 2;
  pay = λ h p. pay_at 2 h (parts 2 h) p;
}

abbrev pub leduc_rules : Rules
leduc_rules = turn_rules leduc_turns
