use Rattle.std.proofs.Common.{◌≡◌, map, take, [], ◌∷◌}
use Rattle.spiel_efg.specs.Mentions.{first_mentions}
use Rattle.spiel_efg.proofs.mentions.numbers_of.Given as goal

-- the numbers so far
abbrev pub invariant-loop-node : goal.invariant-loop-node
invariant-loop-node l = l.seen ≡ first_mentions (0 ∷ []) (map (λ node. node.outcome) (take l.node-index l.nodes))
