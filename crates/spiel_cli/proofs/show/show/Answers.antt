use Rattle.spiel_string.specs.View.{view}
use Rattle.spiel_cli.specs.Show.{facts_of}
use Rattle.spiel_cli.proofs.Games.{game_shown, game_stop}
use Rattle.spiel_cli.proofs.show.show.Goals as goal

pub returns-in_err-game-clause-follows : goal.returns-in_err-game-clause-follows
returns-in_err-game-clause-follows g c =
    game_stop c.args.game.now (view c.in_ok-text.text) facts_of _ _ c.in_ok-text.ensures.agrees c.in_err-game.field-0.0
    c.from_residual-in_err-game.result c.in_err-game.ensures.follows c.from_residual-in_err-game.ensures

pub returns-clause-follows : goal.returns-clause-follows
returns-clause-follows g c =
    game_shown c.args.game.now (view c.in_ok-text.text) facts_of _ _ c.in_ok-text.ensures.agrees _ c.show_facts.result
    c.in_ok-game.ensures.follows tt c.show_facts.ensures
