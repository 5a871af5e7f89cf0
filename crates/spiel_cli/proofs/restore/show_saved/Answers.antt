use Rattle.spiel_cli.specs.Restore.{played_of}
use Rattle.spiel_cli.proofs.Games.{found_then, not_found}
use Rattle.spiel_cli.proofs.restore.show_saved.Goals as goal

pub returns-in_err-game-clause-follows : goal.returns-in_err-game-clause-follows
returns-in_err-game-clause-follows g c =
    not_found (played_of c.args.saved.now) _ _ c.in_err-game.field-0.0 c.from_residual.result c.in_err-game.ensures.follows c.from_residual.ensures

pub returns-clause-follows : goal.returns-clause-follows
returns-clause-follows g c =
    found_then (played_of c.args.saved.now) _ c.items.result.now _ _ c.show_state.result
    c.in_ok-game.ensures.follows c.items.ensures c.show_state.ensures
