use Rattle.std.proofs.Common.{◌≡◌, ◌≤◌, ◌^◌}
use Rattle.spiel_efg.proofs.Paying.{cap_below}
use Rattle.spiel_efg.proofs.pays.cap_of.Given as goal

-- the cap of the players so far
abbrev pub invariant-loop-player : goal.invariant-loop-player
invariant-loop-player l = record {
  is : l.cap ≡ cap_below l.parts l.player;
  high : l.cap ≤ 2 ^ 62;
}
