use Rattle.std.proofs.Common.{◌≡◌, [], drop, map, take}
use Rattle.spiel_tree.specs.States.{numbers_of}
use Rattle.spiel_policy.specs.Weighing.{are_choices, pair_for}
use Rattle.spiel_policy.proofs.weighing.choices_of.Given as goal

abbrev pub invariant-loop-pair : goal.invariant-loop-pair
invariant-loop-pair l = record {
  table : l.table.items ≡ map (pair_for (take l.pair-index l.pairs)) (numbers_of l.tree.players l.tree.rows l.state);
  rest : are_choices (numbers_of l.tree.players l.tree.rows l.state) (take l.pair-index l.pairs) (drop l.pair-index l.pairs)
      ≡ are_choices (numbers_of l.tree.players l.tree.rows l.state) [] l.pairs;
}
