use Rattle.std.proofs.Common.{map, take}
use Rattle.spiel_goof.specs.Cards.{AreLeft}
use Rattle.spiel_goof.specs.Goofspiel.{bid_of}
use Rattle.spiel_goof.proofs.table.hand_after.Given as goal

-- the cards of the turns so far are gone
abbrev pub invariant-loop-turn : goal.invariant-loop-turn
invariant-loop-turn l = AreLeft l.hand (map (bid_of l.player) (take l.turn-index l.turns))
