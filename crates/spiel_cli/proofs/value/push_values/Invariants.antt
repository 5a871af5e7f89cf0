use Rattle.std.proofs.Common.{◌≡◌, ◌++◌, map}
use Rattle.spiel_play.specs.Block.{below, lines_text}
use Rattle.spiel_cli.specs.Value.{value_line}
use Rattle.spiel_cli.proofs.value.push_values.Given as goal

abbrev pub invariant-loop-player : goal.invariant-loop-player
invariant-loop-player l = l.out ≡ l.fn.out ++ lines_text (map (value_line l.work.judged) (below l.player))
