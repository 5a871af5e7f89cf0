use Rattle.spiel_string.specs.View.{view}
use Rattle.spiel_io.proofs.Reached.{quiet_unless}
use Rattle.spiel_api.specs.Walks.{walk_fault}
use Rattle.spiel_cli.specs.declared.refusal.Refusal.TheVariants.{Walk}
use Rattle.spiel_cli.specs.Legal.{choices_of}
use Rattle.spiel_cli.proofs.Games.{game_shown, game_stop}
use Rattle.spiel_cli.proofs.legal.show_choices_named.Goals as goal

pub returns-in_err-game-clause-follows : goal.returns-in_err-game-clause-follows
returns-in_err-game-clause-follows g c =
    game_stop c.args.game.now (view c.in_ok-text.text) (choices_of c.args.history.now) _ _ c.in_ok-text.ensures.agrees c.in_err-game.field-0.0
    c.from_residual-in_err-game.result c.in_err-game.ensures.follows c.from_residual-in_err-game.ensures

pub returns-clause-follows : goal.returns-clause-follows
returns-clause-follows g c =
    game_shown c.args.game.now (view c.in_ok-text.text) (choices_of c.args.history.now) _ _ c.in_ok-text.ensures.agrees _ c.show_choices.result
    c.in_ok-game.ensures.follows (quiet_unless Walk (walk_fault _ c.args.history.now) _ tt) c.show_choices.ensures
