use Rattle.std.proofs.Common.{arith}
use Rattle.spiel_string.specs.View.{view}
use Rattle.spiel_save.proofs.WrittenFiles.{reads_back}
use Rattle.spiel_save.proofs.writer.write_saved.Goals as goal

pub returns-in_err-write_game-clause-reads_back : goal.returns-in_err-write_game-clause-reads_back
returns-in_err-write_game-clause-reads_back c = reads_back (view c.args.game.now) c.args.history.now c.in_err-write_game.ensures.reads_back (λ i. let fits = c.type_inv.history i in omega (arith, fits))

pub returns-in_err-text-clause-reads_back : goal.returns-in_err-text-clause-reads_back
returns-in_err-text-clause-reads_back c = reads_back (view c.args.game.now) c.args.history.now c.in_ok-write_game.ensures.reads_back (λ i. let fits = c.type_inv.history i in omega (arith, fits))

pub returns-clause-reads_back : goal.returns-clause-reads_back
returns-clause-reads_back c = reads_back (view c.args.game.now) c.args.history.now c.in_ok-write_game.ensures.reads_back (λ i. let fits = c.type_inv.history i in omega (arith, fits))
