use Rattle.std.proofs.Common.{◌≡◌, ◌+◌, ◌<◌, ◌∙◌, ap, arith, get_or, length, sym}
use Rattle.std.proofs.lemmas.List.{length_push}
use Rattle.spiel_layers.proofs.RepeatedSteps.{round_more}
use Rattle.spiel_layers.proofs.repeated.RepeatedGame.copy.Goals as goal

pub loop-round-preserved : goal.loop-round-preserved
loop-round-preserved g c =
    let game = c.args.self.now in
    let state = c.args.state.now in
    let stage = g.G.Game.rules game.stage in
    let i = c.loop-round.round-index in
    let so_far = c.loop-round.invariant in
    let within : i < length state.rounds = omega (arith, c.loop-round-test.true, ap length c.items-round-items.ensures) in
    let item : get_or state.rounds i c.round-item.result ≡ c.round-item.result = rw c.items-round-items.ensures at (sym c.round-item.is) in
    let round = c.requires.done i c.round-item.result within in
    record {
      history = so_far.history;
      count = ap length c.in_ok-push.ensures.ok ∙ length_push c.loop-round.rounds c.in_ok-copy.field-0 ∙ ap (λ n. n + 1) so_far.count;
      done = round_more g.G.Game game.stage stage.players state.history i c.loop-round.rounds c.push.new.self c.in_ok-copy.field-0 so_far.count c.in_ok-push.ensures.ok so_far.done (record {
        sound = c.in_ok-copy.ensures.sound;
        told = c.in_ok-copy.ensures.history ∙ ap (λ s. g.G.Game.history_of game.stage s) (sym item) ∙ round.told;
      });
    }
