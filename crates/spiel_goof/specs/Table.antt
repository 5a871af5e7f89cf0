-- The table at which goofspiel is played.
use Rattle.std.specs.Prelude.{◌≡◌, ℕ, zero, suc, List, length, map, take}
use Rattle.spiel_goof.specs.declared.turns.Turn.{Turn}
use Rattle.spiel_goof.specs.declared.table.Seat.{Seat}
use Rattle.spiel_goof.specs.declared.table.Table.{Table}
use Rattle.spiel_goof.specs.Cards.{AreLeft}
use Rattle.spiel_goof.specs.Goofspiel.{point_of, Parts, bid_of, points_of}

-- a player has all cards that the player has bid in none of these turns, and the points that they gained
pub record IsSeat (holding : Seat) (p : ℕ) (turns : List Turn) : Type 0 where
  pub hand : AreLeft holding.hand (map (bid_of p) turns)
  pub points : holding.points ≡ points_of p turns

abbrev pub seat_of : ℕ → Table → Seat
seat_of zero table = table.first
seat_of (suc p) table = table.second

-- the table shows what a play is made of
pub record IsTable (table : Table) (x : Parts) : Type 0 where
  pub stage : table.stage ≡ x.stage
  pub size : length table.turns ≡ 20
  pub count : table.count ≡ length x.turns
  pub turns : take table.count table.turns ≡ x.turns
  pub deck : AreLeft table.deck (map point_of x.turns)
  pub first : IsSeat table.first 0 x.turns
  pub second : IsSeat table.second 1 x.turns

-- the turns and the stage that a table shows
abbrev pub shown : Table → Parts
shown table = record { turns = take table.count table.turns; stage = table.stage }
