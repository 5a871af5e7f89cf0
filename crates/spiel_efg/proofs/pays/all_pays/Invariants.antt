use Rattle.std.proofs.Common.{◌≡◌, take}
use Rattle.spiel_efg.specs.EfgPays.{all_pays}
use Rattle.spiel_efg.proofs.pays.all_pays.Given as goal

-- the payoffs so far
abbrev pub invariant-loop-outcome : goal.invariant-loop-outcome
invariant-loop-outcome l = l.pays ≡ all_pays (take l.outcome-index l.outcomes)
