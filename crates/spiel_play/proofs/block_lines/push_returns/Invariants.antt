use Rattle.std.proofs.Common.{◌≡◌, ◌++◌}
use Rattle.std.specs.Prelude.{codes, flat_map}
use Rattle.spiel_play.specs.Block.{below, return_text}
use Rattle.spiel_play.proofs.block_lines.push_returns.Given as goal

abbrev pub invariant-loop-player : goal.invariant-loop-player
invariant-loop-player g l = l.out ≡ l.fn.out ++ (codes "returns:" ++ flat_map (return_text (g.G.Game.rules l.game) (g.G.Game.history_of l.game l.state)) (below l.player))
