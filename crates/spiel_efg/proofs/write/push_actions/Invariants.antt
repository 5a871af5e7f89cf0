use Rattle.std.proofs.Common.{◌≡◌, ◌++◌, take}
use Rattle.std.specs.Prelude.{flat_map}
use Rattle.spiel_efg.specs.Writing.{action_pieces}
use Rattle.spiel_efg.proofs.write.push_actions.Given as goal

abbrev pub invariant-loop-action : goal.invariant-loop-action
invariant-loop-action l = l.out ≡ l.fn.out ++ flat_map (action_pieces l.player) (take l.action-index l.actions)
