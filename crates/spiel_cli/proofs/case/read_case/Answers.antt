use Rattle.spiel_string.specs.Answer.{reading}
use Rattle.spiel_string.specs.View.{view}
use Rattle.spiel_io.specs.Plan.{seeing}
use Rattle.spiel_io.proofs.Reached.{given_refusing}
use Rattle.spiel_load.specs.Named.{named_game}
use Rattle.std.specs.Prelude.{None}
use Rattle.spiel_cli.specs.Case.{case_of, game_case}
use Rattle.spiel_cli.specs.declared.refusal.Refusal.TheVariants.{GameString, Loading}
use Rattle.spiel_cli.proofs.Games.{case_stop, game_then}
use Rattle.spiel_cli.proofs.Judgements.{decide_gave, game_given}
use Rattle.spiel_cli.proofs.case.read_case.Goals as goal

pub returns-in_err-game-clause-follows : goal.returns-in_err-game-clause-follows
returns-in_err-game-clause-follows g c =
    case_stop c.args.game.now (view c.in_ok-text.text) (game_case c.args.policy.now) _ _ c.in_ok-text.ensures.agrees case_of c.in_err-game.field-0.0
    c.from_residual-in_err-game.result c.in_err-game.ensures.follows c.from_residual-in_err-game.ensures

pub returns-clause-follows : goal.returns-clause-follows
returns-clause-follows g c =
    game_then c.args.game.now (view c.in_ok-text.text) (game_case c.args.policy.now) _ _ c.in_ok-text.ensures.agrees _ _ (seeing case_of c.game_policy.result)
    c.in_ok-game.ensures.follows c.game_policy.ensures.follows

pub returns-clause-of_game : goal.returns-clause-of_game
returns-clause-of_game g c =
    let text = view c.in_ok-text.text in
    game_given c.args.game.now text _ _ c.game_policy.result
    (decide_gave GameString (reading c.args.game.now) None text c.in_ok-text.ensures.agrees)
    (given_refusing Loading (named_game text) _ _ c.in_ok-game.ensures.follows.agrees)
    c.game_policy.ensures.text c.game_policy.ensures.judgeable c.game_policy.ensures.tree
