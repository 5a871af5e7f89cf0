use Rattle.std.proofs.Common.{◌≡◌, take}
use Rattle.spiel_tree.proofs.node.show_weights.Given as goal

abbrev pub invariant-loop-index : goal.invariant-loop-index
invariant-loop-index g l = l.weights ≡ take l.index ((g.G.Game.rules l.game).weights (g.G.Game.history_of l.game l.state))
