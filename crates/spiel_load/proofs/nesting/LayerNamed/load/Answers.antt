use Rattle.std.proofs.Common.{sym, ◌∙◌}
use Rattle.spiel_load.specs.Asked.{asked_view}
use Rattle.spiel_io.proofs.Plan.{follows_handed_on}
use Rattle.spiel_load.specs.Faults.{load_kind}
use Rattle.spiel_load.proofs.Nested.{plain_follows, plain_given}
use Rattle.spiel_load.proofs.nesting.LayerNamed.load.Goals as goal

pub returns-in_err-load-in-None-clause-follows : goal.returns-in_err-load-in-None-clause-follows
returns-in_err-load-in-None-clause-follows g c =
    plain_follows g.G.Named.room (asked_view c.args.asked) _ _ _ (sym c.find_transform.ensures ∙ c.in-None.is)
    (follows_handed_on load_kind _ _ _ _ c.in_err-load-in-None.field-0.0 c.from_residual.result c.in_err-load-in-None.ensures.follows c.from_residual.ensures)

pub returns-in_ok-load-in-None-clause-follows : goal.returns-in_ok-load-in-None-clause-follows
returns-in_ok-load-in-None-clause-follows g c =
    plain_given g.G.Named.room (asked_view c.args.asked) _ _ _ _ (sym c.find_transform.ensures ∙ c.in-None.is) c.plain.ensures.rules c.in_ok-load-in-None.ensures.follows
