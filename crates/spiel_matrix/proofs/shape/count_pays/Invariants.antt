use Rattle.std.proofs.Common.{◌≡◌, ◌*◌, ◌≤◌, drop}
use Rattle.spiel_matrix.specs.Contingencies.{contingencies}
use Rattle.spiel_matrix.specs.Parts.{most_pays}
use Rattle.spiel_matrix.proofs.shape.count_pays.Given as goal

-- the product so far, times that of what is left
abbrev pub invariant-loop-own : goal.invariant-loop-own
invariant-loop-own l = record {
  whole : l.count * contingencies (drop l.own-index l.strategies) ≡ l.players * contingencies l.strategies;
  few : l.count ≤ most_pays;
}
