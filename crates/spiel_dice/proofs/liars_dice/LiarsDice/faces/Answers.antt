use Rattle.std.proofs.Common.{◌++◌, ◌∙◌, sym, ap, List, ℕ, replicate, ◌==◌, ◌+◌}
use Rattle.std.specs.Prelude.{count_by}
use Rattle.spiel_dice.specs.LiarsDicePlays.{faces_of-more}
use Rattle.spiel_dice.proofs.liars_dice.LiarsDice.faces.Goals as goal

pub loop-roll-preserved : goal.loop-roll-preserved
loop-roll-preserved c =
    let dice = c.args.dice.now in
    let k = c.loop-roll.roll in
    c.in_ok-add_face.ensures ∙ ap (λ (faces : List ℕ). faces ++ replicate (count_by (λ die. die == k) dice) (k + 1)) c.loop-roll.invariant ∙ sym (faces_of-more k dice)
