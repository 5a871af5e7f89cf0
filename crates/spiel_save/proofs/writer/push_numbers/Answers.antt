use Rattle.spiel_save.proofs.Texts.{number_added}
use Rattle.spiel_save.proofs.writer.push_numbers.Goals as goal

pub loop-number-preserved : goal.loop-number-preserved
loop-number-preserved c =
    number_added c.args.numbers.now c.loop-number.number-index _ _ _ _ c.loop-number-test.true c.loop-number.invariant c.in_ok-write_number.ensures.ok c.in_ok-push.ensures.ok
