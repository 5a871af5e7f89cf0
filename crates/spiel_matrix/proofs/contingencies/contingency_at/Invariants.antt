use Rattle.std.proofs.Common.{◌≡◌, drop}
use Rattle.spiel_matrix.specs.Contingencies.{contingency_at}
use Rattle.spiel_matrix.proofs.contingencies.contingency_at.Given as goal

-- the place among the choices of the later players
abbrev pub invariant-loop-player : goal.invariant-loop-player
invariant-loop-player l = l.place ≡ contingency_at (drop l.player l.strategies) (drop l.player l.choices)
