use Rattle.std.proofs.Common.{◌≡◌, drop, take}
use Rattle.spiel_efg.proofs.tree.take_roots.Given as goal

-- the first ones are taken, and the others wait
abbrev pub invariant-loop-taken : goal.invariant-loop-taken
invariant-loop-taken l = record {
  own : l.own ≡ take l._taken l.initial.roots;
  rest : l.roots ≡ drop l._taken l.initial.roots;
}
