use Rattle.std.proofs.Common.{List, ◌++◌, length}
use Rattle.std.specs.Prelude.{All}
use Rattle.json.specs.Token.{Token}
use Rattle.spiel_policy.specs.Entries.{IsFair}
use Rattle.spiel_policy.specs.Fronts.{ArePairsNext}
use Rattle.spiel_policy.specs.declared.entries.Pair.{Pair}
use Rattle.spiel_policy.proofs.entrywise.take_pairs.Given as goal

abbrev pub invariant-pairs : goal.invariant-pairs
invariant-pairs l = record {
  so_far : (more : List Pair) (left : List Token) → ArePairsNext more l.reader left → ArePairsNext (l.pairs ++ more) l.initial.reader left;
  fair : All (λ pair. IsFair pair.weight) l.pairs;
}

abbrev pub decreases-pairs : goal.decreases-pairs
decreases-pairs l = length l.reader
