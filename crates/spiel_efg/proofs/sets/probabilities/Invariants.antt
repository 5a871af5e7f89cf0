use Rattle.std.proofs.Common.{◌≡◌, take}
use Rattle.spiel_efg.specs.Sets.{probabilities}
use Rattle.spiel_efg.proofs.sets.probabilities.Given as goal

-- the probabilities so far
abbrev pub invariant-loop-action : goal.invariant-loop-action
invariant-loop-action l = l.weights ≡ probabilities (take l.action-index l.actions)
