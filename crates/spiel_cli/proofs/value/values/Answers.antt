use Rattle.spiel_cli.specs.Value.{case_values}
use Rattle.spiel_cli.proofs.Cases.{case_refused, case_then, values_ask_nothing}
use Rattle.spiel_cli.proofs.value.values.Goals as goal

pub returns-in_err-case-clause-follows : goal.returns-in_err-case-clause-follows
returns-in_err-case-clause-follows g c =
    case_refused c.args.game.now c.args.policy.now case_values _ _ c.in_err-case.field-0.0 c.from_residual.result c.in_err-case.ensures.follows c.from_residual.ensures

pub returns-clause-follows : goal.returns-clause-follows
returns-clause-follows g c =
    case_then c.args.game.now c.args.policy.now case_values values_ask_nothing _ _ c.in_ok-case.case c.tree_values.result c.in_ok-case.ensures.follows c.tree_values.ensures
