use Rattle.std.proofs.Common.{◌-◌, ap, arith, drop, get_or, length, length-drop}
use Rattle.spiel_efg.proofs.Forests.{roots_short}
use Rattle.spiel_efg.proofs.tree.children_of.Goals as goal

pub put-requires : goal.put-requires
put-requires c =
    omega (
      arith,
      c.requires,
      ap length c.in_ok-own.ensures.rest,
      length-drop (get_or c.args.counts.now (c.loop-place.place - 1) 0) c.loop-place.roots,
      ap length c.loop-place.invariant.trees,
      roots_short c.loop-place.place (drop c.loop-place.place c.args.counts.now),
      length-drop c.loop-place.place c.args.counts.now,
    )
