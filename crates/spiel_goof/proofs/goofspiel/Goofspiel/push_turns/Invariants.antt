use Rattle.std.proofs.Common.{◌≡◌, ◌++◌, take}
use Rattle.std.specs.Prelude.{flat_map}
use Rattle.spiel_goof.specs.Goofspiel.{turn_text}
use Rattle.spiel_goof.proofs.goofspiel.Goofspiel.push_turns.Given as goal

-- the turns so far were added
abbrev pub invariant-loop-turn : goal.invariant-loop-turn
invariant-loop-turn l = l.out ≡ l.fn.out ++ flat_map (turn_text l.self.hidden l.player) (take l.turn-index l.turns)
