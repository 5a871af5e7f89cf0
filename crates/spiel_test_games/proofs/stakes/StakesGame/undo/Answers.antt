use Rattle.spiel_api.proofs.PlayLemmas.{IsPlay-back}
use Rattle.spiel_test_games.specs.Stakes.{stakes_rules}
use Rattle.spiel_test_games.proofs.stakes.StakesGame.undo.Goals as goal

pub returns : goal.returns
returns c h a e =
    let left = (c.pop.ensures.last h a e).0 in
    record { sound = IsPlay-back stakes_rules _ _ h a c.requires.at e left; history = left }
