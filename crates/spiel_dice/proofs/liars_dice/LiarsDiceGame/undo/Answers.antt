use Rattle.spiel_api.proofs.PlayLemmas.{IsPlay-back}
use Rattle.spiel_dice.specs.LiarsDice.{liars_dice_rules}
use Rattle.spiel_dice.proofs.liars_dice.LiarsDiceGame.undo.Goals as goal

pub returns : goal.returns
returns c h a e =
    let g = c.args.self.now in
    let left = (c.pop.ensures.last h a e).0 in
    record {
      sound = record {
        range = c.requires.at.range;
        play = IsPlay-back (liars_dice_rules g.dice g.sides) c.args.state.now.history _ h a c.requires.at.play e left;
      };
      history = left;
    }
