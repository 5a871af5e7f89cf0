use Rattle.std.proofs.Common.{◌++◌, List, ℕ, Option, [], sym, subst}
use Rattle.std.proofs.lemmas.Result.{err_from_is_err_and}
use Rattle.spiel_frac.specs.Adding.{AddsPart}
use Rattle.spiel_layers.specs.Repeated.{at_piece, before_piece, rounds_told}
use Rattle.spiel_frac.proofs.AddedTexts.{part_front}
use Rattle.spiel_layers.proofs.repeated.RepeatedGame.info.Goals as goal

-- a front of what is told of earlier rounds was added
pub returns-in_err-push_told : goal.returns-in_err-push_told
returns-in_err-push_told g c =
    let game = c.args.self.now in
    let state = c.args.state.now in
    let s = g.G.Game.rules game.stage in
    let h = g.G.Game.history_of game.stage state.stage in
    let error = err_from_is_err_and c.from_residual.result c.from_residual.ensures.1 in
    let told : AddsPart c.args.out.now c.push_told.new.out (rounds_told (before_piece state.history h)) =
    subst (λ (numbers : List ℕ). AddsPart c.args.out.now c.push_told.new.out (rounds_told numbers)) c.past.ensures c.in_err-push_told.ensures in
    rw error.1 (subst (λ (o : Option (List ℕ)). AddsPart c.args.out.now c.push_told.new.out (at_piece [] (λ piece. rounds_told (before_piece state.history piece) ++ s.info piece c.args.player) o))
    (sym c.if-is_open.ensures) (part_front c.args.out.now c.push_told.new.out (rounds_told (before_piece state.history h)) (s.info h c.args.player) told))
