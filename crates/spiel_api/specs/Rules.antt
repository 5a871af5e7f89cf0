-- What a game is: six meanings over histories, and four facts of the whole game (OpenSpiel's Game and State, Lanctot et al. 2019).
-- A history is the list of action numbers from the root; a joint step adds one number for each player, in player order.
use Rattle.std.specs.Prelude.{ℕ, ℤ, Bool, List, []}
use Rattle.spiel_api.specs.declared.place.Place.{Place}
use Rattle.spiel_api.specs.declared.place.Place.TheVariants.{End, Chance, Move, Joint}

pub record Rules : Type 0 where
  -- how many players there are
  pub players : ℕ
  -- a return is counted in parts of 1/unit
  pub unit : ℕ
  -- no return is larger in size, in the same parts
  pub cap : ℕ
  -- the game is one joint step and no more
  pub one_shot : Bool
  -- whose number is next; `Joint p` is player p's number inside a joint step
  pub place : List ℕ → Place
  -- the action numbers of a player; at a chance node the outcome numbers, the same for every player;
  -- none at the end, and none for a player who doesn't move
  pub legal : List ℕ → ℕ → List ℕ
  -- at a chance node, one whole weight for each outcome
  pub weights : List ℕ → List ℕ
  -- the information text of player p, at `Move p` and at each `Joint q` with q ≤ p (information states: Kuhn 1953)
  pub info : List ℕ → ℕ → List ℕ
  -- the name of a legal number of a player
  pub name : List ℕ → ℕ → ℕ → List ℕ
  -- at the end, the return of a player, in parts of 1/unit
  pub pay : List ℕ → ℕ → ℤ

-- the numbers of whoever is next, given whose number it is
abbrev pub next_at : Place → (ℕ → List ℕ) → List ℕ
next_at End legal = []
next_at Chance legal = legal 0
next_at (Move p) legal = legal p
next_at (Joint p) legal = legal p

-- the numbers that are legal after a history
abbrev pub next_of : Rules → List ℕ → List ℕ
next_of rules h = next_at (rules.place h) (rules.legal h)
