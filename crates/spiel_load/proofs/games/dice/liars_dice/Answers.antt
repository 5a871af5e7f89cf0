use Rattle.std.proofs.Common.{Ok, ap, sym}
use Rattle.spiel_load.specs.Games.Dice.{liars_dice}
use Rattle.spiel_load.proofs.Reading.{computed_then, faulty, then_computed, then_ok}
use Rattle.spiel_load.proofs.games.dice.liars_dice.Goals as goal

pub returns-in_err-sides-clause-reads : goal.returns-in_err-sides-clause-reads
unfolding liars_dice
returns-in_err-sides-clause-reads c =
    faulty _ _ c.in_err-sides.field-0.0 c.from_residual-in_err-sides.result
    (then_computed _ _ _ _ c.in_ok-only_keys.ensures (computed_then _ _ _ c.in_err-sides.ensures.reads))
    c.from_residual-in_err-sides.ensures

pub returns-in_err-number-clause-reads : goal.returns-in_err-number-clause-reads
unfolding liars_dice
returns-in_err-number-clause-reads c =
    faulty _ _ c.in_err-number.field-0.0 c.from_residual-in_err-number.result
    (then_computed _ _ _ _ c.in_ok-only_keys.ensures (then_computed _ _ _ _ c.in_ok-sides.ensures.reads (then_computed _ _ _ _ c.in_ok-dice.ensures.reads
    (computed_then _ _ _ c.in_err-number.ensures.reads))))
    c.from_residual-in_err-number.ensures

pub returns-clause-reads : goal.returns-clause-reads
unfolding liars_dice
returns-clause-reads c =
    then_ok _ _ _ _ c.in_ok-only_keys.ensures (then_ok _ _ _ _ c.in_ok-sides.ensures.reads (then_ok _ _ _ _ c.in_ok-dice.ensures.reads
    (then_ok _ _ _ _ c.in_ok-number.ensures.reads (ap (λ r. Ok r) (sym c.of.ensures.rules)))))
