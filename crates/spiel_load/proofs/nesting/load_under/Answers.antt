use Rattle.spiel_load.specs.Asked.{asked_view}
use Rattle.spiel_load.specs.Named.{layered, named_within, transformed}
use Rattle.spiel_load.specs.Transforms.{taken_by}
use Rattle.spiel_load.proofs.Following.{second_stops, third_follows}
use Rattle.spiel_load.proofs.nesting.load_under.Goals as goal

pub returns-in_err-game-clause-follows : goal.returns-in_err-game-clause-follows
unfolding transformed
returns-in_err-game-clause-follows g c =
    second_stops (taken_by c.args.transform (asked_view c.args.asked)) (λ taken. named_within g.G.Named.room taken.1) (λ taken rules. layered taken.0 rules) _ _ _
    c.from_residual-in_err-game.result _ c.in_err-game.field-0.0 c.in_ok-layering.ensures c.in_err-game.ensures.follows c.from_residual-in_err-game.ensures

pub returns-clause-follows : goal.returns-clause-follows
unfolding transformed
returns-clause-follows g c =
    third_follows (taken_by c.args.transform (asked_view c.args.asked)) (λ taken. named_within g.G.Named.room taken.1) (λ taken rules. layered taken.0 rules) _ _ _
    c.lay.result _ _ c.in_ok-layering.ensures c.in_ok-game.ensures.follows c.lay.ensures.reads
