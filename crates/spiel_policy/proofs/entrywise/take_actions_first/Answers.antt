use Rattle.std.proofs.Common.{◌≡◌, ◌∷◌, List, Option, subst, arith}
use Rattle.std.specs.Prelude.{IfSome}
use Rattle.json.specs.Token.{Token}
use Rattle.spiel_policy.specs.Fronts.{ArePairsNext}
use Rattle.spiel_policy.specs.declared.entries.Pair.{Pair}
use Rattle.spiel_policy.proofs.Fronts.{entry_if}
use Rattle.spiel_policy.proofs.entrywise.take_actions_first.Goals as goal

pub returns-in-Some-clause-next : goal.returns-in-Some-clause-next
returns-in-Some-clause-next c =
    let begun : c.args.reader.now ≡ Token.begin_array ∷ c.takes_array.new.reader = grind arith in
    let pairs : ArePairsNext c.in-Some.pairs c.takes_array.new.reader c.take_pairs.new.reader =
    subst (λ (o : Option (List Pair)). IfSome o (λ ps. ArePairsNext ps c.takes_array.new.reader c.take_pairs.new.reader)) c.in-Some.is c.in_ok-pairs.ensures.next in
    entry_if c.take_rest.result c.in-Some.pairs c.args.reader.now c.takes_array.new.reader c.take_pairs.new.reader c.take_rest.new.reader begun pairs c.take_rest.ensures
