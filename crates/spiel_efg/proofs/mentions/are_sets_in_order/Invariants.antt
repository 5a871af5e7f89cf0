use Rattle.std.proofs.Common.{◌≡◌, drop, []}
use Rattle.std.specs.List.{range_with_len}
use Rattle.spiel_efg.specs.Mentions.{first_mentions, sets_in}
use Rattle.spiel_efg.proofs.mentions.are_sets_in_order.Given as goal

-- the sets that were seen are the first ones
abbrev pub invariant-loop-node : goal.invariant-loop-node
invariant-loop-node l = first_mentions (range_with_len 0 l.seen) (sets_in (drop l.node-index l.nodes)) ≡ first_mentions [] (sets_in l.nodes)
