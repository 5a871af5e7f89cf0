use Rattle.std.proofs.Common.{◌≡◌, ◌≤◌, ◌^◌, drop, length, true}
use Rattle.spiel_efg.specs.EfgPays.{cap_for}
use Rattle.spiel_efg.specs.Tree.{is_forest}
use Rattle.spiel_efg.proofs.Paying.{are_near, cap_to_come}
use Rattle.spiel_efg.proofs.pays.cap_for.Given as goal

-- the cap so far, with the returns that are still to come, is the cap
abbrev pub invariant-loop-place : goal.invariant-loop-place
invariant-loop-place l = record {
  trees : is_forest (length l.waiting) (drop l.place l.counts) ≡ true;
  near : are_near l.place l.waiting ≡ true;
  low : 1 ≤ l.cap;
  high : l.cap ≤ 2 ^ 62;
  rest : cap_to_come l.parts l.player l.cap l.waiting l.place ≡ cap_for l.parts l.player;
}
