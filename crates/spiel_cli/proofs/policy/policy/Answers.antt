use Rattle.spiel_cli.specs.Policy.{case_file}
use Rattle.spiel_cli.proofs.Cases.{case_refused, case_then}
use Rattle.spiel_cli.proofs.policy.policy.Goals as goal

pub returns-in_err-case-clause-follows : goal.returns-in_err-case-clause-follows
returns-in_err-case-clause-follows g c =
    case_refused c.args.game.now c.args.policy.now case_file _ _ c.in_err-case.field-0.0 c.from_residual.result c.in_err-case.ensures.follows c.from_residual.ensures

pub returns-clause-follows : goal.returns-clause-follows
returns-clause-follows g c = case_then c.args.game.now c.args.policy.now case_file (λ case. tt) _ _ c.in_ok-case.case c.file_of.result c.in_ok-case.ensures.follows c.file_of.ensures
