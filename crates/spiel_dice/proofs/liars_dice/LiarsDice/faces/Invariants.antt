use Rattle.std.proofs.Common.{◌≡◌}
use Rattle.spiel_dice.specs.LiarsDice.{faces_of}
use Rattle.spiel_dice.proofs.liars_dice.LiarsDice.faces.Given as goal

-- the lower faces were added
abbrev pub invariant-loop-roll : goal.invariant-loop-roll
invariant-loop-roll l = l.faces ≡ faces_of l.roll l.dice
