-- Games in which players move one at a time: no two ever choose at once.
use Rattle.std.specs.Prelude.{ℕ, ◌%◌, ℤ, Bool, false, List, [], length, if◌then◌else◌, ◌==◌}
use Rattle.spiel_api.specs.declared.place.Place.{Place}
use Rattle.spiel_api.specs.declared.place.Place.TheVariants.{End, Chance, Move, Joint}
use Rattle.spiel_api.specs.Rules.{Rules}

-- what such a game is: as `Rules`, but with the numbers of whoever is next in place of those of each player
pub record Turns : Type 0 where
  -- how many players there are, how many parts a whole return has, and which size no return passes, in parts
  pub players : ℕ
  pub unit : ℕ
  pub cap : ℕ
  -- whose number is next: chance's, a player's, or nobody's
  pub place : List ℕ → Place
  -- the numbers of whoever is next
  pub numbers : List ℕ → List ℕ
  -- what chance weighs
  pub weights : List ℕ → List ℕ
  pub info : List ℕ → ℕ → List ℕ
  pub name : List ℕ → ℕ → ℕ → List ℕ
  pub pay : List ℕ → ℕ → ℤ

-- these numbers for whoever is next, and for everybody where chance is
abbrev pub numbers_for : Place → List ℕ → ℕ → List ℕ
numbers_for End numbers p = []
numbers_for Chance numbers p = numbers
numbers_for (Move q) numbers p = if p == q then numbers else []
numbers_for (Joint q) numbers p = []

abbrev pub turn_rules : Turns → Rules
turn_rules t = record {
  players = t.players;
  unit = t.unit;
  cap = t.cap;
  one_shot = false;
  place = t.place;
  legal = λ h p. numbers_for (t.place h) (t.numbers h) p;
  weights = t.weights;
  info = t.info;
  name = t.name;
  pay = t.pay;
}

-- whose turn it is where n players move in turn, player 0 first, until the play is over
abbrev pub turn_of : ℕ → Bool → List ℕ → Place
turn_of n over h = if over then End else Move (length h % n)
