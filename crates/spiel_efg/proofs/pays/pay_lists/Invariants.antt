use Rattle.std.proofs.Common.{◌≡◌, take, true}
use Rattle.spiel_efg.specs.EfgPays.{are_lists_small, pay_lists}
use Rattle.spiel_efg.proofs.pays.pay_lists.Given as goal

-- the payoffs so far
abbrev pub invariant-loop-outcome : goal.invariant-loop-outcome
invariant-loop-outcome l = record {
  is : l.lists ≡ pay_lists l.unit (take l.outcome-index l.outcomes);
  right : are_lists_small l.unit (take l.outcome-index l.outcomes) ≡ true;
}
