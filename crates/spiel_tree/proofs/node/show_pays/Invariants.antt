use Rattle.std.proofs.Common.{◌≡◌}
use Rattle.spiel_tree.specs.Rows.{pays_below}
use Rattle.spiel_tree.proofs.node.show_pays.Given as goal

abbrev pub invariant-loop-player : goal.invariant-loop-player
invariant-loop-player g l = l.pays ≡ pays_below ((g.G.Game.rules l.game).pay (g.G.Game.history_of l.game l.state)) l.player
