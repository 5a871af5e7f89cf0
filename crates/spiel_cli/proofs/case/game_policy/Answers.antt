use Rattle.spiel_string.specs.View.{view}
use Rattle.spiel_cli.proofs.Cases.{policy_stop, tree_refused}
use Rattle.spiel_cli.proofs.case.game_policy.Goals as goal

pub returns-in-Err-clause-follows : goal.returns-in-Err-clause-follows
returns-in-Err-clause-follows g c =
    tree_refused c.args.policy.now (record { text = view c.args.text; rules = g.G.Game.rules c.args.game }) _ c.in-Err.fault c.in-Err.ensures.computed_err

pub returns-in_err-policy-clause-follows : goal.returns-in_err-policy-clause-follows
returns-in_err-policy-clause-follows g c =
    policy_stop c.args.policy.now (record { text = view c.args.text; rules = g.G.Game.rules c.args.game }) c.in-Ok.tree _ _ c.in_err-policy.field-0.0
    c.from_residual.result c.in-Ok.ensures.tree c.in-Ok.ensures.computed_ok c.in_err-policy.ensures.follows c.from_residual.ensures
