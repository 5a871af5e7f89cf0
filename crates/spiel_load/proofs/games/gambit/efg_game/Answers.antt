use Rattle.spiel_load.specs.Asked.{asked_view}
use Rattle.spiel_load.specs.Games.Gambit.{efg_game, efg_in, side_file}
use Rattle.spiel_load.specs.Params.{file_taken}
use Rattle.spiel_load.proofs.Following.{first_stops, second_stops, third_follows}
use Rattle.spiel_load.proofs.games.gambit.efg_game.Goals as goal

pub returns-in_err-name-clause-follows : goal.returns-in_err-name-clause-follows
unfolding efg_game
returns-in_err-name-clause-follows g c =
    first_stops (file_taken (asked_view c.args.asked)) side_file (λ name bytes. efg_in bytes) _ _ (g.F.Shelf.state c.args.shelf.now) c.from_residual.result c.in_err-name.field-0.0
    c.in_err-name.ensures c.from_residual.ensures

pub returns-in_err-bytes-clause-follows : goal.returns-in_err-bytes-clause-follows
unfolding efg_game
returns-in_err-bytes-clause-follows g c =
    second_stops (file_taken (asked_view c.args.asked)) side_file (λ name bytes. efg_in bytes) _ _ _ c.from_residual-in_err-bytes.result _ c.in_err-bytes.field-0.0
    c.in_ok-name.ensures c.in_err-bytes.ensures.follows c.from_residual-in_err-bytes.ensures

pub returns-clause-follows : goal.returns-clause-follows
unfolding efg_game
returns-clause-follows g c =
    third_follows (file_taken (asked_view c.args.asked)) side_file (λ name bytes. efg_in bytes) _ _ _ c.efg_in.result _ _
    c.in_ok-name.ensures c.in_ok-bytes.ensures.follows c.efg_in.ensures
