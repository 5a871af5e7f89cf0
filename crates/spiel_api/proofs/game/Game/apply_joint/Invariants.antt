use Rattle.std.proofs.Common.{◌++◌, take}
use Rattle.spiel_api.specs.States.{StandsFor}
use Rattle.spiel_api.proofs.game.Game.apply_joint.Given as goal

-- the copy stands for the numbers so far
abbrev pub invariant-loop-action : goal.invariant-loop-action
invariant-loop-action g l = let G = g.Self.Game in
    StandsFor (G.is_at l.self) (G.history_of l.self) l.next (G.history_of l.self l.state ++ take l.action-index l.actions)
