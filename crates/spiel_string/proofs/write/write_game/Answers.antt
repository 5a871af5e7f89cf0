use Rattle.spiel_string.specs.View.{view}
use Rattle.spiel_string.proofs.ReadBack.{reads_back}
use Rattle.spiel_string.proofs.write.write_game.Goals as goal

pub returns-in_err-text-clause-reads_back : goal.returns-in_err-text-clause-reads_back
returns-in_err-text-clause-reads_back c = reads_back (view c.args.game.now)

pub returns-clause-reads_back : goal.returns-clause-reads_back
returns-clause-reads_back c = reads_back (view c.args.game.now)
