use Rattle.std.proofs.Common.{◌≡◌, take}
use Rattle.spiel_api.specs.Rules.{next_of}
use Rattle.spiel_tree.proofs.node.show_numbers.Given as goal

abbrev pub invariant-loop-index : goal.invariant-loop-index
invariant-loop-index g l = l.numbers ≡ take l.index (next_of (g.G.Game.rules l.game) (g.G.Game.history_of l.game l.state))
