-- Goofspiel of two players: in each turn a point card lies, and both players bid a card of their own for it at once (Ross 1971, "Goofspiel: the game of pure strategy"; the numbers and texts are this project's own).
-- A history has for each turn the point card, where chance draws it, the bid of player 0 and the bid of player 1. The number of a card is the card less 1.
use Rattle.std.specs.Prelude.{ℕ, zero, suc, ◌+◌, ◌-◌, ◌*◌, ◌/◌, ◌≤◌, ℤ, pos, negsuc, ◌-ℤ◌, Bool, false, List, [], ◌∷◌, ◌++◌, length, map, reverse, flat_map, codes, if◌then◌else◌, ◌==◌, nat_lt}
use Rattle.std.specs.List.{sum_by}
use Rattle.std.specs.Fmt.{decimal}
use Rattle.spiel_api.specs.declared.place.Place.{Place}
use Rattle.spiel_api.specs.declared.place.Place.TheVariants.{End, Chance, Move, Joint}
use Rattle.spiel_api.specs.Rules.{Rules}
use Rattle.spiel_goof.specs.declared.turns.Turn.{Turn}
use Rattle.spiel_goof.specs.declared.turns.Stage.{Stage}
use Rattle.spiel_goof.specs.declared.turns.Stage.TheVariants.{Between, Shown, Bid}
use Rattle.spiel_goof.specs.declared.goofspiel.PointOrder.{PointOrder}
use Rattle.spiel_goof.specs.declared.goofspiel.PointOrder.TheVariants.{Random, Ascending, Descending}
use Rattle.spiel_goof.specs.declared.goofspiel.ReturnKind.{ReturnKind}
use Rattle.spiel_goof.specs.declared.goofspiel.ReturnKind.TheVariants.{WinLoss, PointDifference, TotalPoints}
use Rattle.spiel_api.specs.Deck.{numbers_below, cards_left}

-- there are 1 to 20 cards
pub record IsCardCount (n : ℕ) : Type 0 where
  pub low : 1 ≤ n
  pub high : n ≤ 20

-- the point cards in the order in which they come, where chance doesn't draw them
abbrev pub given_points : PointOrder → ℕ → List ℕ
given_points Random n = []
given_points Ascending n = numbers_below n
given_points Descending n = reverse (numbers_below n)

-- all that lies: for each turn the point card and both bids. A given point card lies as its turn begins
abbrev pub laid : List ℕ → List ℕ → List ℕ
laid [] h = h
laid (point ∷ points) [] = point ∷ []
laid (point ∷ points) (first ∷ []) = point ∷ first ∷ []
laid (point ∷ points) (first ∷ second ∷ rest) = point ∷ first ∷ second ∷ laid points rest

-- what a play is made of
pub record Parts : Type 0 where
  -- the complete turns
  pub turns : List Turn
  -- what lies of the turn that is on
  pub stage : Stage

-- a complete turn stands before the others
abbrev pub after_turn : Turn → Parts → Parts
after_turn turn later = record { turns = turn ∷ later.turns; stage = later.stage }

-- three numbers are a complete turn
abbrev pub cut : List ℕ → Parts
cut [] = record { turns = []; stage = Between }
cut (point ∷ []) = record { turns = []; stage = Shown point }
cut (point ∷ first ∷ []) = record { turns = []; stage = Bid point first }
cut (point ∷ first ∷ second ∷ rest) = after_turn (record { point = point; first = first; second = second }) (cut rest)

-- what a history is made of: all that lies is cut into turns
unfoldable pub parts : PointOrder → ℕ → List ℕ → Parts
parts order n h = cut (laid (given_points order n) h)

-- with a point card both players bid; without one chance draws the next, or all turns are played
abbrev pub place_by : Stage → Bool → Place
place_by Between over = if over then End else Chance
place_by (Shown point) over = Joint 0
place_by (Bid point first) over = Joint 1

-- all turns are played where as many are complete as there are cards
abbrev pub place_at : ℕ → Parts → Place
place_at n x = place_by x.stage (length x.turns == n)

-- the point card of a turn
abbrev pub point_of : Turn → ℕ
point_of turn = turn.point

-- what a player bid in a turn
abbrev pub bid_of : ℕ → Turn → ℕ
bid_of zero turn = turn.first
bid_of (suc p) turn = turn.second

-- the point cards that were not yet in a turn
abbrev pub points_left : ℕ → List Turn → List ℕ
points_left n turns = cards_left n (map point_of turns)

-- a player's hand: the cards that the player has bid in no complete turn
abbrev pub hand_of : ℕ → ℕ → List Turn → List ℕ
hand_of n p turns = cards_left n (map (bid_of p) turns)

-- chance draws from the point cards, and a player bids from the hand
abbrev pub numbers_at : Place → List ℕ → List ℕ → List ℕ
numbers_at End points hand = []
numbers_at Chance points hand = points
numbers_at (Move q) points hand = []
numbers_at (Joint q) points hand = hand

-- the numbers of a player, or of chance
abbrev pub legal_at : ℕ → Parts → ℕ → List ℕ
legal_at n x p = numbers_at (place_at n x) (points_left n x.turns) (hand_of n p x.turns)

-- each point card is as likely as another
abbrev pub weights_by : Place → List ℕ → List ℕ
weights_by End points = []
weights_by Chance points = map (λ point. 1) points
weights_by (Move q) points = []
weights_by (Joint q) points = []

abbrev pub weights_at : ℕ → Parts → List ℕ
weights_at n x = weights_by (place_at n x) (points_left n x.turns)

-- `point C` or `bid C`
abbrev pub name_by : Place → ℕ → List ℕ
name_by End a = codes "bid " ++ decimal (a + 1)
name_by Chance a = codes "point " ++ decimal (a + 1)
name_by (Move q) a = codes "bid " ++ decimal (a + 1)
name_by (Joint q) a = codes "bid " ++ decimal (a + 1)

-- whether a bid was won, lost or tied: `w`, `l` or `t`
abbrev pub outcome_text : ℕ → ℕ → List ℕ
outcome_text own other = if nat_lt other own then codes "w" else if nat_lt own other then codes "l" else codes "t"

-- the other's bid, or only how it went where bids are hidden
abbrev pub other_text : Bool → ℕ → ℕ → List ℕ
other_text hidden own other = if hidden then outcome_text own other else decimal (other + 1)

-- a complete turn as a player sees it, with a space behind it: `3/1/2 `
abbrev pub turn_text : Bool → ℕ → Turn → List ℕ
turn_text hidden p turn = decimal (turn.point + 1) ++ codes "/" ++ decimal (bid_of p turn + 1) ++ codes "/" ++ other_text hidden (bid_of p turn) (bid_of (1 - p) turn) ++ codes " "

-- the point card that lies
abbrev pub stage_text : Stage → List ℕ
stage_text Between = []
stage_text (Shown point) = decimal (point + 1)
stage_text (Bid point first) = decimal (point + 1)

-- the complete turns, and the point card that lies: `3/1/2 1`. A bid of the turn that is on isn't seen
abbrev pub info_at : Bool → Parts → ℕ → List ℕ
info_at hidden x p = flat_map (turn_text hidden p) x.turns ++ stage_text x.stage

-- the higher bid gains the points of a turn, and nobody does where both are the same
abbrev pub gain_of : ℕ → Turn → ℕ
gain_of p turn = if nat_lt (bid_of (1 - p) turn) (bid_of p turn) then turn.point + 1 else 0

-- the points that a player has gained in these turns
abbrev pub points_of : ℕ → List Turn → ℕ
points_of p turns = sum_by (gain_of p) turns

-- 1 for more points and -1 for fewer, or the difference, or the points
abbrev pub return_of : ReturnKind → ℕ → ℕ → ℤ
return_of WinLoss own other = if nat_lt other own then pos 1 else if nat_lt own other then negsuc 0 else pos 0
return_of PointDifference own other = pos own -ℤ pos other
return_of TotalPoints own other = pos own

abbrev pub pay_at : ReturnKind → Parts → ℕ → ℤ
pay_at returns x p = return_of returns (points_of p x.turns) (points_of (1 - p) x.turns)

-- 1, or all points together
abbrev pub cap_of : ReturnKind → ℕ → ℕ
cap_of WinLoss n = 1
cap_of PointDifference n = n * (n + 1) / 2
cap_of TotalPoints n = n * (n + 1) / 2

-- the game of n cards: in this order, with these returns, and the other's bids hidden or not
abbrev pub goofspiel_rules : ℕ → PointOrder → ReturnKind → Bool → Rules
goofspiel_rules n order returns hidden = record {
  players = 2;
  unit = 1;
  cap = cap_of returns n;
  one_shot = false;
  place = λ h. place_at n (parts order n h);
  legal = λ h p. legal_at n (parts order n h) p;
  weights = λ h. weights_at n (parts order n h);
  info = λ h p. info_at hidden (parts order n h) p;
  name = λ h p a. name_by (place_at n (parts order n h)) a;
  pay = λ h p. pay_at returns (parts order n h) p;
}
