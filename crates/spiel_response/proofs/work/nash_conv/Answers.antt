use Rattle.std.proofs.Common.{◌≡◌, ◌<◌, ◌+◌, suc, ℤ, ap, sym, subst, ◌∙◌, arith, rules, to_z, of_z, pos, ◌+ℤ◌, ◌≤ℤ◌}
use Rattle.std.specs.Prelude.{FitsSigned, nat_abs}
use Rattle.std.specs.Int.{w128}
use Rattle.std.proofs.lemmas.Int.{ints, to_z-of_z}
use Rattle.spiel_tree.specs.Trees.{Whole}
use Rattle.spiel_response.specs.Answered.{Solving}
use Rattle.spiel_response.specs.BestResponses.{gains_below}
use Rattle.spiel_response.specs.Values.{NumbersFit}
use Rattle.spiel_response.specs.Weighed.{IsJudgeable}
use Rattle.spiel_response.proofs.Gains.{gains_low, gains_more, gains_small}
use Rattle.spiel_response.proofs.LeafSums.{size_below-le}
use Rattle.spiel_response.proofs.work.nash_conv.Goals as goal

-- with the gain of a player more
sum_is : (c : goal.After-gain-gains) → to_z w128 c.loop-player.gains-bits +ℤ to_z w128 (of_z w128 c.gain-gains.result) ≡ gains_below c.args.work.now.judged (c.loop-player.player + 1)
sum_is c =
    let fits : FitsSigned w128 c.gain-gains.result = search rules in
    gains_more c.args.work.now.judged c.loop-player.player (to_z w128 c.loop-player.gains-bits) (to_z w128 (of_z w128 c.gain-gains.result)) c.loop-player.invariant
    (to_z-of_z w128 c.gain-gains.result fits ∙ c.gain-gains.ensures.gain)

sum_fits : (c : goal.After-gain-gains) → FitsSigned w128 (to_z w128 c.loop-player.gains-bits +ℤ to_z w128 (of_z w128 c.gain-gains.result))
sum_fits c =
    let j = c.args.work.now.judged in
    let p = c.loop-player.player in
    let fit : NumbersFit j = subst (λ (s : Solving). NumbersFit s.judged) c.work.view_is c.work.invariant.work.fit in
    let players = c.players-player-end.ensures ∙ ap (λ (t : Whole). t.players) c.tree-tree.ensures ∙ ap (λ (s : Solving). s.judged.tree.players) c.work.view_is in
    let within : p < j.tree.players = omega (arith, players, c.loop-player-test.true) in
    let next : p + 1 ≡ suc p = omega arith in
    let size = ap nat_abs (sum_is c ∙ ap (gains_below j) next) in
    omega (arith, ints, size, gains_small j (suc p), size_below-le j j.tree.players p within, fit.sizes)

pub overflow_add-gains : goal.overflow_add-gains
overflow_add-gains c = sum_fits c

pub loop-player-preserved : goal.loop-player-preserved
loop-player-preserved c = to_z-of_z w128 _ (sum_fits c) ∙ sum_is c

pub returns-clause-none_below : goal.returns-clause-none_below
returns-clause-none_below c =
    let j = c.args.work.now.judged in
    let ok : IsJudgeable j = subst (λ (s : Solving). IsJudgeable s.judged) c.work.view_is c.work.invariant.work.judgeable in
    let players = c.players-player-end.ensures ∙ ap (λ (t : Whole). t.players) c.tree-tree.ensures ∙ ap (λ (s : Solving). s.judged.tree.players) c.work.view_is in
    subst (λ (z : ℤ). pos 0 ≤ℤ z) (sym c.loop-player.invariant) (gains_low j ok c.loop-player.player (omega (arith, players, c.loop-player.auto.player-end)))

pub returns-clause-small : goal.returns-clause-small
returns-clause-small c =
    let j = c.args.work.now.judged in
    let fit : NumbersFit j = subst (λ (s : Solving). NumbersFit s.judged) c.work.view_is c.work.invariant.work.fit in
    let players = c.players-player-end.ensures ∙ ap (λ (t : Whole). t.players) c.tree-tree.ensures ∙ ap (λ (s : Solving). s.judged.tree.players) c.work.view_is in
    let last : c.loop-player.player ≡ j.tree.players = omega (arith, players, c.loop-player.auto.player-end, c.loop-player-test.false) in
    let size = ap nat_abs (c.loop-player.invariant ∙ ap (gains_below j) last) in
    omega (arith, size, gains_small j j.tree.players, fit.sizes)
