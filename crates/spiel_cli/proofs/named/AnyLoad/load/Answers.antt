use Rattle.spiel_cli.proofs.Refusals.{game_loaded, loading_refused}
use Rattle.spiel_cli.proofs.named.AnyLoad.load.Goals as goal

pub returns-in-Ok-clause-follows : goal.returns-in-Ok-clause-follows
returns-in-Ok-clause-follows g c = game_loaded _ _ _ _ c.in-Ok.ensures.follows

pub returns-in-Err-clause-follows : goal.returns-in-Err-clause-follows
returns-in-Err-clause-follows g c = loading_refused _ _ _ c.in-Err.fault c.in-Err.ensures.follows
