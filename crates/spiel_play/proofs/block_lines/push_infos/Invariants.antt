use Rattle.std.proofs.Common.{◌≡◌, ◌++◌, map}
use Rattle.spiel_play.specs.Block.{below, info_line, lines_text}
use Rattle.spiel_play.proofs.block_lines.push_infos.Given as goal

abbrev pub invariant-loop-player : goal.invariant-loop-player
invariant-loop-player g l = l.out ≡ l.fn.out ++ lines_text (map (info_line (g.G.Game.rules l.game) (g.G.Game.history_of l.game l.state)) (below l.player))
