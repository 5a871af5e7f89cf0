use Rattle.std.proofs.Common.{◌≡◌, ◌++◌}
use Rattle.std.specs.Prelude.{flat_map}
use Rattle.spiel_play.specs.Block.{action_lines, below, lines_text}
use Rattle.spiel_play.proofs.block_lines.push_all_actions.Given as goal

abbrev pub invariant-loop-player : goal.invariant-loop-player
invariant-loop-player g l = l.out ≡ l.fn.out ++ lines_text (flat_map (action_lines (g.G.Game.rules l.game) (g.G.Game.history_of l.game l.state)) (below l.player))
