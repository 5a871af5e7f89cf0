use Rattle.std.proofs.Common.{sym, subst}
use Rattle.spiel_api.specs.Plays.{IsPlay}
use Rattle.spiel_api.proofs.PlayLemmas.{IsPlay-more}
use Rattle.spiel_poker.specs.Leduc.{leduc_rules}
use Rattle.spiel_poker.proofs.leduc.LeducGame.apply.Goals as goal

pub show-requires-clause-play : goal.show-requires-clause-play
show-requires-clause-play c =
    subst (IsPlay leduc_rules) (sym c.in_ok-push.ensures.ok) (IsPlay-more leduc_rules c.args.state.now.history c.args.action c.requires.at.play c.requires.legal)
