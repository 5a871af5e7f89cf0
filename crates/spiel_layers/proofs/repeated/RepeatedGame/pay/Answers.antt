use Rattle.std.proofs.Common.{◌≡◌, ◌+◌, ◌<◌, ◌≤◌, ◌^◌, ℤ, ◌+ℤ◌, length, sym, subst, ap, ◌∙◌, arith, rules, nat_abs, get_or, to_z, of_z, w64, FitsSigned}
use Rattle.std.proofs.lemmas.Int.{ints, to_z-of_z}
use Rattle.spiel_layers.specs.Repeated.{rounds_pay}
use Rattle.spiel_layers.proofs.RepeatedSteps.{all_over, pay_step, pay_fits}
use Rattle.spiel_layers.proofs.repeated.RepeatedGame.pay.Goals as goal
use Rattle.spiel_layers.proofs.repeated.RepeatedGame.pay.Given.{Over}

-- the returns of one round more
joined : (g : Over) (c : goal.After-pay-total g) → to_z w64 c.loop-round.total-bits +ℤ to_z w64 (of_z w64 c.pay-total.result)
    ≡ rounds_pay (g.G.Game.rules c.args.self.now.stage).players (λ i. (g.G.Game.rules c.args.self.now.stage).pay i c.args.player) (c.loop-round.round-index + 1) c.args.state.now.history
joined g c =
    let game = c.args.self.now in
    let at = c.requires.at in
    let laws = g.met.G.Game.lawful game.stage at.can.sound in
    let within : c.loop-round.round-index < length c.args.state.now.rounds = omega (arith, c.loop-round-test.true, ap length c.items-round-items.ensures) in
    let step = pay_step at laws c.args.player c.loop-round.round-index c.round-item.result within in
    let item : get_or c.args.state.now.rounds c.loop-round.round-index c.round-item.result ≡ c.round-item.result = rw c.items-round-items.ensures at (sym c.round-item.is) in
    let back : to_z w64 (of_z w64 c.pay-total.result) ≡ c.pay-total.result = search (rules, to_z-of_z) in
    let paid = ap (λ z. (g.G.Game.rules game.stage).pay (g.G.Game.history_of game.stage z) c.args.player) item ∙ sym c.pay-total.ensures in
    sym (step ∙ ap (λ z. rounds_pay (g.G.Game.rules game.stage).players (λ i. (g.G.Game.rules game.stage).pay i c.args.player) c.loop-round.round-index c.args.state.now.history +ℤ z) paid
    ∙ ap (λ z. z +ℤ c.pay-total.result) (sym c.loop-round.invariant) ∙ ap (λ z. to_z w64 c.loop-round.total-bits +ℤ z) (sym back))

signed_fits : (z : ℤ) → nat_abs z ≤ 2 ^ 62 → FitsSigned w64 z
signed_fits z l = omega (arith, ints)

fits : (g : Over) (c : goal.After-pay-total g) → FitsSigned w64 (to_z w64 c.loop-round.total-bits +ℤ to_z w64 (of_z w64 c.pay-total.result))
fits g c =
    let game = c.args.self.now in
    let at = c.requires.at in
    let laws = g.met.G.Game.lawful game.stage at.can.sound in
    let within : c.loop-round.round-index + 1 ≤ game.times = omega (arith, c.loop-round-test.true, ap length c.items-round-items.ensures, all_over at laws c.requires.end) in
    let small = pay_fits at laws c.args.player (c.loop-round.round-index + 1) c.requires.player c.requires.end within in
    subst (FitsSigned w64) (sym (joined g c)) (signed_fits _ small)

pub overflow_add-total : goal.overflow_add-total
overflow_add-total g c = fits g c

pub loop-round-preserved : goal.loop-round-preserved
loop-round-preserved g c = to_z-of_z w64 _ (fits g c) ∙ joined g c

pub returns : goal.returns
returns g c =
    let game = c.args.self.now in
    let at = c.requires.at in
    let laws = g.met.G.Game.lawful game.stage at.can.sound in
    let all : c.loop-round.round-index ≡ game.times = omega (arith, c.loop-round-test.false, c.loop-round.auto.round-index-end, ap length c.items-round-items.ensures, all_over at laws c.requires.end) in
    c.loop-round.invariant ∙ ap (λ k. rounds_pay (g.G.Game.rules game.stage).players (λ i. (g.G.Game.rules game.stage).pay i c.args.player) k c.args.state.now.history) all
