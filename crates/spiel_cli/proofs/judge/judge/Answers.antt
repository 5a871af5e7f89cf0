use Rattle.spiel_cli.specs.Reports.{case_report}
use Rattle.spiel_cli.proofs.Judgements.{report_given}
use Rattle.spiel_cli.proofs.Cases.{case_refused, case_then, reports_ask_nothing}
use Rattle.spiel_cli.proofs.judge.judge.Goals as goal

pub returns-in_err-case-clause-follows : goal.returns-in_err-case-clause-follows
returns-in_err-case-clause-follows g c =
    case_refused c.args.game.now c.args.policy.now (case_report c.args.brief) _ _ c.in_err-case.field-0.0 c.from_residual.result c.in_err-case.ensures.follows c.from_residual.ensures

pub returns-clause-follows : goal.returns-clause-follows
returns-clause-follows g c =
    case_then c.args.game.now c.args.policy.now (case_report c.args.brief) (reports_ask_nothing c.args.brief) _ _ c.in_ok-case.case c.tree_report.result c.in_ok-case.ensures.follows c.tree_report.ensures.agrees

pub returns-clause-report : goal.returns-clause-report
returns-clause-report g c =
    report_given c.args.game.now c.args.policy.now c.args.brief _ c.in_ok-case.case c.tree_report.result c.in_ok-case.ensures.of_game c.in_ok-case.ensures.follows.agrees
    c.in_ok-case.ensures.fits c.tree_report.ensures.is c.tree_report.ensures.right
