use Rattle.std.proofs.Common.{◌≡◌, ◌<◌, ℕ, ap, subst, ◌∙◌, arith}
use Rattle.std.proofs.lemmas.Grind.{common_steps}
use Rattle.spiel_response.specs.SlotTable.{AreSlotSums}
use Rattle.spiel_response.specs.Values.{Judged}
use Rattle.spiel_response.specs.Weighed.{IsJudgeable}
use Rattle.spiel_response.proofs.LeafSums.{size_below-le}
use Rattle.spiel_response.proofs.gathering.gather.Goals as goal

pub collect-requires-clause-judgeable : goal.collect-requires-clause-judgeable
collect-requires-clause-judgeable c = subst IsJudgeable c.weighed.view_is c.weighed.invariant

pub collect-requires-clause-small : goal.collect-requires-clause-small
collect-requires-clause-small c =
    let j = c.args.weighed.now in
    let p = c.loop-player.player in
    let all : c.weighed.inside.tree.now.players ≡ j.tree.players = ap (λ (j : Judged). j.tree.players) c.weighed.view_is in
    let within : p < j.tree.players = omega (arith, all, c.loop-player-test.true, c.players-player-end.ensures) in
    omega (arith, size_below-le j j.tree.players p within, c.requires.sizes)

pub loop-player-preserved : goal.loop-player-preserved
loop-player-preserved c = grind (arith, common_steps)

pub returns : goal.returns
returns c =
    let j = c.args.weighed.now in
    let all : c.weighed.inside.tree.now.players ≡ j.tree.players = ap (λ (j : Judged). j.tree.players) c.weighed.view_is in
    let last : c.loop-player.player ≡ j.tree.players = omega (arith, all, c.loop-player-test.false, c.loop-player.auto.player-end, c.players-player-end.ensures) in
    let found = c.loop-player.gathered in
    subst (λ (n : ℕ). AreSlotSums j n found.starts found.sums.items found.parents.items) last c.loop-player.invariant.gathered
