use Rattle.std.proofs.Common.{◌≡◌, ◌≤◌, ◌+◌, ◌*◌, ◌^◌, drop, take}
use Rattle.std.specs.Prelude.{nat_abs}
use Rattle.spiel_efg.specs.EfgPays.{own_pay, pay_along}
use Rattle.spiel_efg.specs.Tree.{nodes_after, subtrees}
use Rattle.spiel_efg.proofs.efg.Efg.pay_along.Given as goal

-- the node to which the actions so far lead, and what was got on the way
abbrev pub invariant-loop-action : goal.invariant-loop-action
invariant-loop-action l = record {
  node : drop l.place l.self.parts.nodes ≡ nodes_after (subtrees l.self.parts.sets) l.self.parts.nodes (take l.action-index l.history);
  sum : l.sum ≡ pay_along (subtrees l.self.parts.sets) (own_pay l.self.parts l.player) l.self.parts.nodes (take l.action-index l.history);
  near : nat_abs l.sum ≤ (l.action-index + 1) * 2 ^ 63;
}
