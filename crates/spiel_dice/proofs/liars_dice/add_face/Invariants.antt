use Rattle.std.proofs.Common.{◌≡◌, ◌+◌, ◌++◌, ◌==◌, take, replicate}
use Rattle.std.specs.Prelude.{count_by}
use Rattle.spiel_dice.proofs.liars_dice.add_face.Given as goal

-- the face was added as often as it stands among the dice so far
abbrev pub invariant-loop-die : goal.invariant-loop-die
invariant-loop-die l = l.faces ≡ l.fn.faces ++ replicate (count_by (λ die. die == l.roll) (take l.die-index l.dice)) (l.roll + 1)
