use Rattle.std.proofs.Common.{List, Option, subst}
use Rattle.std.specs.Prelude.{IfSome}
use Rattle.spiel_policy.specs.Fronts.{ArePairsNext}
use Rattle.spiel_policy.specs.declared.entries.Pair.{Pair}
use Rattle.spiel_policy.proofs.Fronts.{seen_if}
use Rattle.spiel_policy.proofs.entrywise.take_player_first.Goals as goal

pub returns-in-Some-2-clause-next : goal.returns-in-Some-2-clause-next
returns-in-Some-2-clause-next c =
    let pairs : ArePairsNext c.in-Some-2.pairs c.take_front.new.reader c.take_pairs.new.reader =
    subst (λ (o : Option (List Pair)). IfSome o (λ ps. ArePairsNext ps c.take_front.new.reader c.take_pairs.new.reader)) c.in-Some-2.is c.in_ok-pairs.ensures.next in
    seen_if c.take_last.result c.in-Some.player c.in-Some.state.now c.in-Some-2.pairs c.args.reader.now c.take_front.new.reader c.take_pairs.new.reader c.take_last.new.reader
    c.in-Some.ensures.0 c.in-Some.ensures.1 pairs c.take_last.ensures
