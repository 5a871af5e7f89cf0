use Rattle.std.proofs.Common.{◌≡◌, map, take}
use Rattle.spiel_efg.specs.Mentions.{place_of}
use Rattle.spiel_efg.proofs.mentions.rows_of.Given as goal

-- the places so far
abbrev pub invariant-loop-node : goal.invariant-loop-node
invariant-loop-node l = l.rows ≡ map (λ node. place_of l.seen node.outcome) (take l.node-index l.nodes)
