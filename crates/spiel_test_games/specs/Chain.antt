-- A chain: chance draws 0 or 1, and then the only player has one number at each place, and a play is as long as a play may be.
use Rattle.std.specs.Prelude.{ℕ, ◌+◌, ◌/◌, ◌%◌, pos, Bool, true, false, List, [], ◌∷◌, length, codes, nat_lt}
use Rattle.spiel_api.specs.declared.place.Place.{Place}
use Rattle.spiel_api.specs.declared.place.Place.TheVariants.{End, Chance, Move}
use Rattle.spiel_api.specs.Rules.{Rules}

-- whether there is a number more
abbrev pub goes_on : List ℕ → Bool
goes_on h = nat_lt (length h) 4096

abbrev pub place_if : Bool → Place
place_if true = Move 0
place_if false = End

abbrev pub legal_if : Bool → List ℕ
legal_if true = 0 ∷ []
legal_if false = []

abbrev pub chain_place : List ℕ → Place
chain_place [] = Chance
chain_place (drawn ∷ rest) = place_if (goes_on (drawn ∷ rest))

abbrev pub chain_legal : List ℕ → List ℕ
chain_legal [] = 0 ∷ 1 ∷ []
chain_legal (drawn ∷ rest) = legal_if (goes_on (drawn ∷ rest))

-- 0 is as likely as 1
abbrev pub chain_weights : List ℕ → List ℕ
chain_weights [] = 1 ∷ 1 ∷ []
chain_weights (drawn ∷ rest) = []

-- a count below 4,096 in two characters
abbrev pub count_text : ℕ → List ℕ
count_text n = (48 + n / 64 % 64) ∷ (48 + n % 64) ∷ []

-- the player sees how many numbers there were, and gets nothing
abbrev pub chain_rules : Rules
chain_rules = record {
  players = 1;
  unit = 1;
  cap = 1;
  one_shot = false;
  place = chain_place;
  legal = λ h p. chain_legal h;
  weights = chain_weights;
  info = λ h p. count_text (length h);
  name = λ h p a. codes "go";
  pay = λ h p. pos 0;
}
