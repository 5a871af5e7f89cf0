-- Liar's dice of two players: each rolls some dice that the other doesn't see, and then they bid on all dice in turn.
-- A history is the rolls of player 0, those of player 1, and then the calls: bids, each higher than the one before, and at the end `liar`.
-- A roll is the face less 1. A bid says that so many dice show a face or the highest face, which is wild.
use Rattle.std.specs.Prelude.{ℕ, ◌+◌, ◌-◌, ◌*◌, ◌/◌, ◌%◌, ℤ, pos, negsuc, Bool, not, ◌||◌, List, [], ◌++◌, length, take, drop, replicate, Option, Some, None, flat_map, codes, count_by, slice_get, slice_index, if◌then◌else◌, ◌==◌, nat_lt, nat_le}
use Rattle.std.specs.List.{range_with_len}
use Rattle.std.specs.Fmt.{decimal}
use Rattle.spiel_api.specs.declared.place.Place.{Place}
use Rattle.spiel_api.specs.declared.place.Place.TheVariants.{End, Chance, Move}
use Rattle.spiel_frac.specs.Listed.{listed}
use Rattle.spiel_api.specs.Rules.{Rules}
use Rattle.spiel_api.specs.Turns.{Turns, turn_rules}

-- the numbers from one on, below another
abbrev pub between : ℕ → ℕ → List ℕ
between low high = range_with_len low (high - low)

-- the number of `liar`, above those of all bids: one for each quantity and each face
abbrev pub liar : ℕ → ℕ → ℕ
liar dice sides = 2 * dice * sides

-- somebody has dice to roll
abbrev pub is_rolling : ℕ → List ℕ → Bool
is_rolling dice h = nat_lt (length h) (2 * dice)

-- the dice of both players, those of one, and the calls behind them
abbrev pub all_dice : ℕ → List ℕ → List ℕ
all_dice dice h = take (2 * dice) h

abbrev pub dice_of : ℕ → ℕ → List ℕ → List ℕ
dice_of p dice h = take dice (drop (p * dice) h)

abbrev pub calls_of : ℕ → List ℕ → List ℕ
calls_of dice h = drop (2 * dice) h

-- the last of some numbers, if there are any
abbrev pub last_of : List ℕ → Option ℕ
last_of xs = slice_get xs (length xs - 1)

-- who speaks after the last call: player 0 begins, and the players alternate until one calls the other a liar
abbrev pub turn_after : ℕ → Option ℕ → ℕ → Place
turn_after doubt None count = Move (count % 2)
turn_after doubt (Some call) count = if call == doubt then End else Move (count % 2)

abbrev pub liars_dice_place : ℕ → ℕ → List ℕ → Place
liars_dice_place dice sides h =
    if is_rolling dice h then Chance else turn_after (liar dice sides) (last_of (calls_of dice h)) (length (calls_of dice h))

-- what can be said after the last call: at first any bid, and then a higher bid or `liar`
abbrev pub calls_after : ℕ → Option ℕ → List ℕ
calls_after doubt None = between 0 doubt
calls_after doubt (Some bid) = between (bid + 1) (doubt + 1)

-- the numbers of whoever is next
abbrev pub numbers_after : ℕ → ℕ → List ℕ → List ℕ
numbers_after dice sides h =
    if is_rolling dice h then between 0 sides else calls_after (liar dice sides) (last_of (calls_of dice h))

-- each face is as likely as another
abbrev pub liars_dice_weights : ℕ → ℕ → List ℕ → List ℕ
liars_dice_weights dice sides h = if is_rolling dice h then replicate sides 1 else []

-- the faces of some dice in rising order: each face as often as it was rolled
abbrev pub faces_of : ℕ → List ℕ → List ℕ
faces_of sides dice = flat_map (λ face. replicate (count_by (λ die. die == face) dice) (face + 1)) (between 0 sides)

-- the player's own faces with commas between, a colon, and the bids so far with spaces between, as `4:0 7`
abbrev pub liars_dice_info : ℕ → ℕ → List ℕ → ℕ → List ℕ
liars_dice_info dice sides h p = listed 44 (faces_of sides (dice_of p dice h)) ++ codes ":" ++ listed 32 (calls_of dice h)

-- the quantity that a bid says, and its face less 1
abbrev pub quantity_of : ℕ → ℕ → ℕ
quantity_of sides bid = bid / sides + 1

abbrev pub face_of : ℕ → ℕ → ℕ
face_of sides bid = bid % sides

-- `liar`, or the quantity and the face, as `2-6`
abbrev pub call_name : ℕ → ℕ → ℕ → List ℕ
call_name dice sides call =
    if call == liar dice sides then codes "liar" else decimal (quantity_of sides call) ++ codes "-" ++ decimal (face_of sides call + 1)

abbrev pub liars_dice_name : ℕ → ℕ → List ℕ → ℕ → ℕ → List ℕ
liars_dice_name dice sides h p a = if is_rolling dice h then codes "roll " ++ decimal (a + 1) else call_name dice sides a

-- how many dice show the face of the bid or the highest face
abbrev pub shown : ℕ → ℕ → List ℕ → ℕ
shown sides bid dice = count_by (λ die. die == face_of sides bid || die == sides - 1) dice

-- the bid that was doubted: the call before the last
abbrev pub last_bid : List ℕ → ℕ
last_bid calls = slice_index calls (length calls - 2)

-- whoever made it wins where so many dice show its face, and else the one who doubted it
abbrev pub is_true : ℕ → ℕ → List ℕ → Bool
is_true dice sides h = nat_le (quantity_of sides (last_bid (calls_of dice h))) (shown sides (last_bid (calls_of dice h)) (all_dice dice h))

-- who wins gets 1 from the other
abbrev pub gain : Bool → ℤ
gain wins = if wins then pos 1 else negsuc 0

-- player 0 made the first bid, so of an even number of calls the last but one is of player 0
abbrev pub liars_dice_pay : ℕ → ℕ → List ℕ → ℕ → ℤ
liars_dice_pay dice sides h p =
    if p == length (calls_of dice h) % 2 then gain (is_true dice sides h) else gain (not (is_true dice sides h))

abbrev pub liars_dice_turns : ℕ → ℕ → Turns
liars_dice_turns dice sides = record {
  players = 2;
  unit = 1;
  cap = 1;
  place = liars_dice_place dice sides;
  numbers = numbers_after dice sides;
  weights = liars_dice_weights dice sides;
  info = liars_dice_info dice sides;
  name = liars_dice_name dice sides;
  pay = liars_dice_pay dice sides;
}

abbrev pub liars_dice_rules : ℕ → ℕ → Rules
liars_dice_rules dice sides = turn_rules (liars_dice_turns dice sides)
