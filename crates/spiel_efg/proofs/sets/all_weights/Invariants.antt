use Rattle.std.proofs.Common.{◌≡◌, map, take, true}
use Rattle.std.specs.List.{list_all}
use Rattle.spiel_efg.specs.Sets.{is_set, kept_weights}
use Rattle.spiel_efg.proofs.sets.all_weights.Given as goal

-- the weights so far, of sets that are right
abbrev pub invariant-loop-one : goal.invariant-loop-one
invariant-loop-one l = record {
  is : l.lists ≡ map kept_weights (take l.one-index l.sets);
  right : list_all is_set (take l.one-index l.sets) ≡ true;
}
