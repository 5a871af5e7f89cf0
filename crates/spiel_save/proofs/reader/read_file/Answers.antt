use Rattle.spiel_save.specs.Lines.{kept_from}
use Rattle.spiel_save.proofs.OneFile.{game_refused, game_fault, saved_is}
use Rattle.spiel_save.proofs.reader.read_file.Goals as goal

pub returns-in_err-game-clause-read : goal.returns-in_err-game-clause-read
returns-in_err-game-clause-read c =
    game_refused c.args.bytes.now c.in-Some.text.now (kept_from c.in-Some.above c.in-Some.below.now) c.in_err-game.field-0.0 c.from_residual.result c.in-Some.ensures.body c.in_err-game.ensures.read c.from_residual.ensures.1

pub returns-in_err-game-clause-fault : goal.returns-in_err-game-clause-fault
returns-in_err-game-clause-fault c =
    game_fault c.args.bytes.now c.in-Some.text.now (kept_from c.in-Some.above c.in-Some.below.now) c.in_err-game.field-0.0 c.from_residual.result c.in-Some.ensures.body c.in_err-game.ensures.read c.in_err-game.ensures.fault
    c.from_residual.ensures.1

pub returns-clause-read : goal.returns-clause-read
returns-clause-read c =
    saved_is c.args.bytes.now c.in-Some.text.now (kept_from c.in-Some.above c.in-Some.below.now) _ _ c.in-Some.ensures.body c.in_ok-game.ensures.read c.in_ok-history.ensures.ok
