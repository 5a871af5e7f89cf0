use Rattle.std.proofs.Common.{Ok, ap, sym, ◌∙◌}
use Rattle.spiel_load.specs.Asked.{asked_view}
use Rattle.spiel_load.proofs.Following.{table_follows, table_given}
use Rattle.spiel_load.proofs.Reading.{faulty}
use Rattle.spiel_load.proofs.nesting.load_base.Goals as goal

pub returns-in_err-load_known-clause-follows : goal.returns-in_err-load_known-clause-follows
returns-in_err-load_known-clause-follows g c =
    table_follows _ g.G.Known.known (asked_view c.args.asked) _ c.from_residual-in_err-load_known.result (sym c.is_efg_game.ensures ∙ c.if-is_efg_game.false)
    (faulty _ _ c.in_err-load_known.field-0.0 c.from_residual-in_err-load_known.result c.in_err-load_known.ensures.reads c.from_residual-in_err-load_known.ensures)

pub returns-clause-follows : goal.returns-clause-follows
returns-clause-follows g c =
    table_given g.G.Known.known (asked_view c.args.asked) _ _ (sym c.is_efg_game.ensures ∙ c.if-is_efg_game.false)
    (c.in_ok-load_known.ensures.reads ∙ ap (λ rules. Ok rules) (sym c.right.ensures.rules))
