use Rattle.std.proofs.Common.{◌≡◌, ◌++◌, take}
use Rattle.std.specs.Prelude.{codes, flat_map}
use Rattle.spiel_play.specs.Block.{spaced}
use Rattle.spiel_play.proofs.block_lines.push_history.Given as goal

abbrev pub invariant-loop-number : goal.invariant-loop-number
invariant-loop-number l = l.out ≡ l.fn.out ++ (codes "history:" ++ flat_map spaced (take l.number-index l.history))
