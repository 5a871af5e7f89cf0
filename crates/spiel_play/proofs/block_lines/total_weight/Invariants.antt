use Rattle.std.proofs.Common.{◌≡◌, take}
use Rattle.std.specs.Prelude.{sum}
use Rattle.spiel_play.proofs.block_lines.total_weight.Given as goal

abbrev pub invariant-loop-index : goal.invariant-loop-index
invariant-loop-index g l = l.total ≡ sum (take l.index ((g.G.Game.rules l.game).weights (g.G.Game.history_of l.game l.state)))
