-- A stake, two sides, and a second choice. Chance lays a stake of 1 or 2. Two players choose heads or tails at once, and player 1 then
-- chooses again. Player 0 wins the stake where the last choice is that of player 0, else player 1 wins it.
use Rattle.std.specs.Prelude.{ℕ, zero, suc, ℤ, pos, neg_ℤ, false, List, [], ◌∷◌, codes, if◌then◌else◌, ◌==◌}
use Rattle.spiel_api.specs.declared.place.Place.{Place}
use Rattle.spiel_api.specs.declared.place.Place.TheVariants.{End, Chance, Move, Joint}
use Rattle.spiel_api.specs.Rules.{Rules}

abbrev pub stakes_place : List ℕ → Place
stakes_place [] = Chance
stakes_place (stake ∷ []) = Joint 0
stakes_place (stake ∷ first ∷ []) = Joint 1
stakes_place (stake ∷ first ∷ second ∷ []) = Move 1
stakes_place (stake ∷ first ∷ second ∷ again ∷ rest) = End

-- the numbers of the last choice, which is that of player 1
abbrev pub again_legal : ℕ → List ℕ
again_legal zero = []
again_legal (suc p) = 0 ∷ 1 ∷ []

abbrev pub stakes_legal : List ℕ → ℕ → List ℕ
stakes_legal [] p = 0 ∷ 1 ∷ []
stakes_legal (stake ∷ []) p = 0 ∷ 1 ∷ []
stakes_legal (stake ∷ first ∷ []) p = 0 ∷ 1 ∷ []
stakes_legal (stake ∷ first ∷ second ∷ []) p = again_legal p
stakes_legal (stake ∷ first ∷ second ∷ again ∷ rest) p = []

-- a stake of 1 comes twice as often as one of 2
abbrev pub stakes_weights : List ℕ → List ℕ
stakes_weights [] = 2 ∷ 1 ∷ []
stakes_weights (stake ∷ rest) = []

abbrev pub stake_text : ℕ → List ℕ
stake_text zero = codes "one"
stake_text (suc stake) = codes "two"

-- both players see the stake, and no choice
abbrev pub stakes_info : List ℕ → List ℕ
stakes_info [] = []
stakes_info (stake ∷ rest) = stake_text stake

abbrev pub side_name : ℕ → List ℕ
side_name zero = codes "heads"
side_name (suc side) = codes "tails"

abbrev pub stakes_name : List ℕ → ℕ → List ℕ
stakes_name [] a = stake_text a
stakes_name (stake ∷ rest) a = side_name a

abbrev pub amount : ℕ → ℕ
amount zero = 1
amount (suc stake) = 2

abbrev pub winner : ℕ → ℕ → ℕ
winner first again = if first == again then 0 else 1

abbrev pub stakes_pay : List ℕ → ℕ → ℤ
stakes_pay (stake ∷ first ∷ second ∷ again ∷ rest) p = if winner first again == p then pos (amount stake) else neg_ℤ (pos (amount stake))
stakes_pay h p = pos 0

abbrev pub stakes_rules : Rules
stakes_rules = record {
  players = 2;
  unit = 1;
  cap = 2;
  one_shot = false;
  place = stakes_place;
  legal = stakes_legal;
  weights = stakes_weights;
  info = λ h p. stakes_info h;
  name = λ h p a. stakes_name h a;
  pay = stakes_pay;
}
