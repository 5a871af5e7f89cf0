use Rattle.std.proofs.Common.{Ok, Some, refl, ap, sym, ◌∙◌}
use Rattle.std.specs.Option.{option_map}
use Rattle.spiel_load.specs.Asked.{asked_view}
use Rattle.spiel_load.specs.Games.{rules_among}
use Rattle.spiel_load.proofs.Reading.{faulty, reads_same}
use Rattle.spiel_load.proofs.Tables.{fault_first, found_first, found_next}
use Rattle.spiel_load.proofs.known.EitherKnown.find.Goals as goal

pub returns-in_err-left-clause-reads : goal.returns-in_err-left-clause-reads
returns-in_err-left-clause-reads g c =
    faulty _ _ c.in_err-left.field-0.0 c.from_residual.result
    (fault_first g.A.Known.known g.B.Known.known (asked_view c.args.asked) c.in_err-left.field-0.0 c.in_err-left.ensures.reads) c.from_residual.ensures

pub returns-in-Some-clause-reads : goal.returns-in-Some-clause-reads
returns-in-Some-clause-reads g c =
    found_first g.A.Known.known g.B.Known.known (asked_view c.args.asked) (g.A.Game.rules c.in-Some.game)
    (c.in_ok-left.ensures.reads ∙ ap (λ game. Ok (option_map g.A.Game.rules game)) c.in-Some.is)
    ∙ ap (λ rules. Ok (Some rules)) (sym c.left.ensures.rules)

pub returns-in-None-clause-reads : goal.returns-in-None-clause-reads
returns-in-None-clause-reads g c =
    reads_same _ _ _ c.find_right.result
    (sym (found_next g.A.Known.known g.B.Known.known (asked_view c.args.asked) (rules_among g.B.Known.known (asked_view c.args.asked))
    (c.in_ok-left.ensures.reads ∙ ap (λ game. Ok (option_map g.A.Game.rules game)) c.in-None.is) refl))
    c.find_right.ensures.reads
