use Rattle.std.proofs.Common.{Ok, ap, sym}
use Rattle.spiel_load.specs.Games.Goofspiel.{goofspiel}
use Rattle.spiel_load.proofs.Reading.{computed_then, faulty, then_computed, then_ok}
use Rattle.spiel_load.proofs.games.goofspiel.goofspiel.Goals as goal

pub returns-in_err-hidden-clause-reads : goal.returns-in_err-hidden-clause-reads
unfolding goofspiel
returns-in_err-hidden-clause-reads c =
    faulty _ _ c.in_err-hidden.field-0.0 c.from_residual-in_err-hidden.result
    (then_computed _ _ _ _ c.in_ok-only_keys.ensures (computed_then _ _ _ c.in_err-hidden.ensures))
    c.from_residual-in_err-hidden.ensures

pub returns-in_err-cards-clause-reads : goal.returns-in_err-cards-clause-reads
unfolding goofspiel
returns-in_err-cards-clause-reads c =
    faulty _ _ c.in_err-cards.field-0.0 c.from_residual-in_err-cards.result
    (then_computed _ _ _ _ c.in_ok-only_keys.ensures (then_computed _ _ _ _ c.in_ok-hidden.ensures (computed_then _ _ _ c.in_err-cards.ensures.reads)))
    c.from_residual-in_err-cards.ensures

pub returns-in_err-number-clause-reads : goal.returns-in_err-number-clause-reads
unfolding goofspiel
returns-in_err-number-clause-reads c =
    faulty _ _ c.in_err-number.field-0.0 c.from_residual-in_err-number.result
    (then_computed _ _ _ _ c.in_ok-only_keys.ensures (then_computed _ _ _ _ c.in_ok-hidden.ensures (then_computed _ _ _ _ c.in_ok-cards.ensures.reads (computed_then _ _ _ c.in_err-number.ensures.reads))))
    c.from_residual-in_err-number.ensures

pub returns-in_err-order-clause-reads : goal.returns-in_err-order-clause-reads
unfolding goofspiel
returns-in_err-order-clause-reads c =
    faulty _ _ c.in_err-order.field-0.0 c.from_residual-in_err-order.result
    (then_computed _ _ _ _ c.in_ok-only_keys.ensures (then_computed _ _ _ _ c.in_ok-hidden.ensures (then_computed _ _ _ _ c.in_ok-cards.ensures.reads (then_computed _ _ _ _ c.in_ok-number.ensures.reads (computed_then _ _ _ c.in_err-order.ensures)))))
    c.from_residual-in_err-order.ensures

pub returns-in_err-returns-clause-reads : goal.returns-in_err-returns-clause-reads
unfolding goofspiel
returns-in_err-returns-clause-reads c =
    faulty _ _ c.in_err-returns.field-0.0 c.from_residual-in_err-returns.result
    (then_computed _ _ _ _ c.in_ok-only_keys.ensures (then_computed _ _ _ _ c.in_ok-hidden.ensures (then_computed _ _ _ _ c.in_ok-cards.ensures.reads (then_computed _ _ _ _ c.in_ok-number.ensures.reads (then_computed _ _ _ _ c.in_ok-order.ensures (computed_then _ _ _ c.in_err-returns.ensures))))))
    c.from_residual-in_err-returns.ensures

pub returns-clause-reads : goal.returns-clause-reads
unfolding goofspiel
returns-clause-reads c =
    then_ok _ _ _ _ c.in_ok-only_keys.ensures (then_ok _ _ _ _ c.in_ok-hidden.ensures (then_ok _ _ _ _ c.in_ok-cards.ensures.reads
    (then_ok _ _ _ _ c.in_ok-number.ensures.reads (then_ok _ _ _ _ c.in_ok-order.ensures (then_ok _ _ _ _ c.in_ok-returns.ensures (ap (λ r. Ok r) (sym c.of.ensures.rules)))))))
