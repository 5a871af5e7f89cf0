-- Kuhn poker of two players (Kuhn 1950, "A simplified two-person poker"; the numbers and texts are this project's own).
-- There are three cards, 0, 1 and 2, and each player antes 1. Chance deals a card to player 0 and one of the others to player 1.
-- Then the players speak in turn. A history is the two cards, and then the words: 0 is a pass and 1 is a bet.
use Rattle.std.specs.Prelude.{ℕ, zero, suc, ◌+◌, ℤ, pos, neg_ℤ, not, List, [], ◌∷◌, ◌++◌, Option, Some, None, map, codes, if◌then◌else◌, ◌==◌, nat_lt}
use Rattle.std.specs.List.{filter}
use Rattle.spiel_api.specs.declared.place.Place.{Place}
use Rattle.spiel_api.specs.declared.place.Place.TheVariants.{End, Chance, Move}
use Rattle.spiel_api.specs.Rules.{Rules}
use Rattle.spiel_api.specs.Turns.{Turns, turn_rules}

-- who speaks next after these words: player 0, then player 1, then player 0 again if a bet came after a pass
abbrev pub speaker : List ℕ → Option ℕ
speaker [] = Some 0
speaker (a ∷ []) = Some 1
speaker (a ∷ b ∷ c ∷ rest) = None
speaker (zero ∷ suc zero ∷ []) = Some 0
speaker (a ∷ b ∷ []) = None

-- whoever speaks next moves, and with nobody left the play ends
abbrev pub turn_of : Option ℕ → Place
turn_of None = End
turn_of (Some p) = Move p

abbrev pub kuhn_place : List ℕ → Place
kuhn_place [] = Chance
kuhn_place (first ∷ []) = Chance
kuhn_place (first ∷ second ∷ words) = turn_of (speaker words)

-- the cards that are not this one
abbrev pub others : ℕ → List ℕ
others card = filter (λ c. not (c == card)) (0 ∷ 1 ∷ 2 ∷ [])

-- the cards that chance can deal, and then pass and bet
abbrev pub kuhn_numbers : List ℕ → List ℕ
kuhn_numbers [] = 0 ∷ 1 ∷ 2 ∷ []
kuhn_numbers (first ∷ []) = others first
kuhn_numbers (first ∷ second ∷ words) = 0 ∷ 1 ∷ []

-- each card is as likely as another
abbrev pub kuhn_weights : List ℕ → List ℕ
kuhn_weights [] = 1 ∷ 1 ∷ 1 ∷ []
kuhn_weights (first ∷ []) = 1 ∷ 1 ∷ []
kuhn_weights (first ∷ second ∷ words) = []

-- `p` for a pass and `b` for a bet
abbrev pub letter : ℕ → ℕ
letter zero = 112
letter (suc a) = 98

-- the player's own card as a digit, and the letters of the words so far
abbrev pub kuhn_info : List ℕ → ℕ → List ℕ
kuhn_info [] p = []
kuhn_info (first ∷ []) p = []
kuhn_info (first ∷ second ∷ words) p = (48 + (if p == 0 then first else second)) ∷ map letter words

abbrev pub deal_name : ℕ → List ℕ
deal_name card = codes "deal " ++ (48 + card) ∷ []

abbrev pub word_name : ℕ → List ℕ
word_name zero = codes "pass"
word_name (suc a) = codes "bet"

abbrev pub kuhn_name : List ℕ → ℕ → ℕ → List ℕ
kuhn_name [] p a = deal_name a
kuhn_name (first ∷ []) p a = deal_name a
kuhn_name (first ∷ second ∷ words) p a = word_name a

-- who wins: after a bet and a pass the one who bet, else the one with the higher card
abbrev pub winner : ℕ → ℕ → List ℕ → ℕ
winner first second (zero ∷ suc zero ∷ zero ∷ []) = 1
winner first second (suc zero ∷ zero ∷ []) = 0
winner first second words = if nat_lt second first then 0 else 1

-- what the loser pays: 2 after a bet that was called, else the ante
abbrev pub loss : List ℕ → ℕ
loss (zero ∷ suc zero ∷ suc zero ∷ []) = 2
loss (suc zero ∷ suc zero ∷ []) = 2
loss words = 1

-- the winner gets what the loser pays
abbrev pub kuhn_pay : List ℕ → ℕ → ℤ
kuhn_pay [] p = pos 0
kuhn_pay (first ∷ []) p = pos 0
kuhn_pay (first ∷ second ∷ words) p = if winner first second words == p then pos (loss words) else neg_ℤ (pos (loss words))

abbrev pub kuhn_turns : Turns
kuhn_turns = record {
  players = 2;
  unit = 1;
  cap = 2;
  place = kuhn_place;
  numbers = kuhn_numbers;
  weights = kuhn_weights;
  info = kuhn_info;
  name = kuhn_name;
  pay = kuhn_pay;
}

abbrev pub kuhn_rules : Rules
kuhn_rules = turn_rules kuhn_turns
