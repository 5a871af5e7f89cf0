use Rattle.spiel_string.proofs.Writing.{joined_more}
use Rattle.spiel_string.proofs.write.joined.Goals as goal

pub loop-at-preserved : goal.loop-at-preserved
loop-at-preserved c =
    joined_more c.args.entries.now c.loop-at.at c.index-entries-at.result c.loop-at.out c.push_entry.new.out c.loop-at-test.true c.index-entries-at.is
    c.loop-at.invariant c.in_ok-push_entry.ensures
