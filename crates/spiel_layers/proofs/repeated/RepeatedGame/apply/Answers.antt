use Rattle.std.proofs.Common.{◌<◌, ◌*◌, ◌+◌, [], ◌∷◌, length, sym, subst, ap, ◌∙◌, arith, length-drop}
use Rattle.std.proofs.lemmas.List.{length_push}
use Rattle.std.proofs.lemmas.Result.{on_ok_weaker}
use Rattle.spiel_layers.specs.RepeatedState.{HasGrown}
use Rattle.spiel_layers.proofs.RepeatedSteps.{stage_legal, stage_grows, round_grows, repeated_more}
use Rattle.spiel_layers.proofs.repeated.RepeatedGame.apply.Goals as goal

-- the number is legal in the round
pub add-requires-clause-legal : goal.add-requires-clause-legal
add-requires-clause-legal g c =
    let at = c.requires.at in
    stage_legal at (g.met.G.Game.lawful c.args.self.now.stage at.can.sound) c.args.action c.requires.legal

pub add-requires-2-clause-legal : goal.add-requires-2-clause-legal
add-requires-2-clause-legal g c =
    let at = c.requires.at in
    stage_legal at (g.met.G.Game.lawful c.args.self.now.stage at.can.sound) c.args.action c.requires.legal

-- the round goes on
pub returns-then-history-players-clause-ok : goal.returns-then-history-players-clause-ok
returns-then-history-players-clause-ok g c =
    let game = c.args.self.now in
    let at = c.requires.at in
    let a = c.args.action in
    let new = c.add.new.state in
    let laws = g.met.G.Game.lawful game.stage at.can.sound in
    let more = repeated_more at laws a c.requires.legal in
    let short : length (g.G.Game.history_of game.stage c.args.state.now.stage) + 1 < (g.G.Game.rules game.stage).players = omega (arith, c.if-history-players.true, ap length c.history.ensures, c.players.ensures) in
    let stands = λ (grown : HasGrown g.G.Game game c.args.state.now a new).
    stage_grows at laws (a ∷ []) new grown.history grown.rounds more.0 grown.stage.sound grown.stage.history
    (omega (arith, short, ap length grown.stage.history, length_push (g.G.Game.history_of game.stage c.args.state.now.stage) a)) in
    on_ok_weaker c.add.result stands c.add.ensures.ok

-- the round is over
pub returns-in-Ok-clause-ok : goal.returns-in-Ok-clause-ok
returns-in-Ok-clause-ok g c =
    let game = c.args.self.now in
    let state = c.args.state.now in
    let at = c.requires.at in
    let a = c.args.action in
    let laws = g.met.G.Game.lawful game.stage at.can.sound in
    let fresh = c.in_ok-fresh.fresh in
    let grown = c.in-Ok.ensures.ok in
    let more = repeated_more at laws a c.requires.legal in
    let n = (g.G.Game.rules game.stage).players in
    let piece = g.G.Game.history_of game.stage state.stage in
    let short : length piece < n = omega (arith, ap length at.piece, length-drop (length state.rounds * n) state.history, at.short, at.long) in
    let exchanged = c.swap_last.ensures.last state.rounds fresh (grown.rounds ∙ c.in_ok-push.ensures.ok) in
    round_grows at laws (a ∷ []) c.add-2.new.state.history c.swap_last.new.self c.add-2.new.state.stage c.swap_last.new.item grown.history exchanged.0 more.0 more.1 grown.stage.sound grown.stage.history
    (omega (arith, c.if-history-players.false, ap length c.history.ensures, c.players.ensures, ap length grown.stage.history, length_push piece a))
    (subst (λ s. g.G.Game.is_at game.stage s) (sym exchanged.1) c.in_ok-fresh.ensures.sound)
    (ap (λ s. g.G.Game.history_of game.stage s) exchanged.1 ∙ c.in_ok-fresh.ensures.history)
