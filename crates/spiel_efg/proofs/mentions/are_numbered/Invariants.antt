use Rattle.std.proofs.Common.{◌≡◌, ◌+◌, drop, map, ◌∷◌}
use Rattle.spiel_efg.specs.Mentions.{are_equal}
use Rattle.spiel_efg.proofs.mentions.are_numbered.Given as goal

-- the rest decides
abbrev pub invariant-loop-place : goal.invariant-loop-place
invariant-loop-place l = are_equal (drop (l.place + 1) l.seen) (map (λ outcome. outcome.number) (drop l.place l.outcomes)) ≡ are_equal l.seen (0 ∷ map (λ outcome. outcome.number) l.outcomes)
