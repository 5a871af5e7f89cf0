use Rattle.std.proofs.Common.{◌≡◌, ◌++◌, map}
use Rattle.spiel_play.specs.Block.{action_line, below, lines_text}
use Rattle.spiel_play.proofs.block_lines.push_actions.Given as goal

abbrev pub invariant-loop-index : goal.invariant-loop-index
invariant-loop-index g l = l.out ≡ l.fn.out ++ lines_text (map (action_line (g.G.Game.rules l.game) (g.G.Game.history_of l.game l.state) l.player) (below l.index))
