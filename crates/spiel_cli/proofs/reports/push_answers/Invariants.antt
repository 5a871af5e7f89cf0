use Rattle.std.proofs.Common.{◌≡◌, ◌++◌, map}
use Rattle.spiel_play.specs.Block.{below, lines_text}
use Rattle.spiel_cli.specs.Reports.{answer_line}
use Rattle.spiel_cli.proofs.reports.push_answers.Given as goal

abbrev pub invariant-loop-state : goal.invariant-loop-state
invariant-loop-state l = l.out ≡ l.fn.out ++ lines_text (map (answer_line l.work.judged) (below l.state))
