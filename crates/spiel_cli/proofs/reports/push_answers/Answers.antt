use Rattle.spiel_play.proofs.Shown.{lines_added}
use Rattle.spiel_cli.specs.Reports.{answer_line}
use Rattle.spiel_cli.proofs.reports.push_answers.Goals as goal

pub loop-state-preserved : goal.loop-state-preserved
loop-state-preserved c =
    lines_added (answer_line c.args.work.now.judged) c.loop-state.state c.args.out.now c.loop-state.out c.push_answer.new.out c.loop-state.invariant c.in_ok-push_answer.ensures
