use Rattle.std.specs.Prelude.{FitsSigned}
use Rattle.std.specs.Int.{w128}
use Rattle.std.proofs.lemmas.Int.{to_z-of_z}
use Rattle.std.proofs.Common.{rules, to_z, of_z, ◌≡◌, ◌<◌, ap, subst, ◌∙◌, arith}
use Rattle.spiel_response.specs.Values.{Judged, size_below, values_below}
use Rattle.spiel_response.specs.Weighed.{IsJudgeable}
use Rattle.spiel_response.proofs.LeafSums.{size_below-le, size_below_more, values_more}
use Rattle.spiel_response.proofs.sums.values.Goals as goal

pub loop-player-init : goal.loop-player-init
loop-player-init c = record { values_are = c.new-values.ensures; size_is = search rules; small = omega arith }

pub returns-in_default-clause-fault : goal.returns-in_default-clause-fault
returns-in_default-clause-fault c =
    let j = c.args.weighed.now in
    let p = c.loop-player.player in
    let all : c.weighed.inside.tree.now.players ≡ j.tree.players = ap (λ (j : Judged). j.tree.players) c.weighed.view_is in
    let within : p < j.tree.players = omega (arith, all, c.loop-player-test.true, c.players-player-end.ensures) in
    omega (arith, c.in_default.ensures.none, c.loop-player.invariant.size_is, size_below-le j j.tree.players p within)

pub player_sums-requires-clause-judgeable : goal.player_sums-requires-clause-judgeable
player_sums-requires-clause-judgeable c = subst IsJudgeable c.weighed.view_is c.weighed.invariant

pub loop-player-preserved : goal.loop-player-preserved
loop-player-preserved c =
    let j = c.args.weighed.now in
    let p = c.loop-player.player in
    let fits : FitsSigned w128 c.in-Some.sums.value = search rules in
    record {
      values_are = c.in_ok-push.ensures.ok ∙ values_more j p c.loop-player.values (to_z w128 (of_z w128 c.in-Some.sums.value)) c.loop-player.invariant.values_are
          (to_z-of_z w128 c.in-Some.sums.value fits ∙ c.in-Some.ensures.some.value_is);
      size_is = size_below_more j p c.loop-player.size c.in-Some.sums.size c.loop-player.invariant.size_is c.in-Some.ensures.some.size_is;
      small = c.in-Some.ensures.some.small;
    }

pub returns-clause-values : goal.returns-clause-values
returns-clause-values c =
    let j = c.args.weighed.now in
    let all : c.weighed.inside.tree.now.players ≡ j.tree.players = ap (λ (j : Judged). j.tree.players) c.weighed.view_is in
    let last : c.loop-player.player ≡ j.tree.players = omega (arith, all, c.loop-player-test.false, c.loop-player.auto.player-end, c.players-player-end.ensures) in
    c.loop-player.invariant.values_are ∙ ap (values_below j) last

pub returns-clause-sizes : goal.returns-clause-sizes
returns-clause-sizes c =
    let j = c.args.weighed.now in
    let all : c.weighed.inside.tree.now.players ≡ j.tree.players = ap (λ (j : Judged). j.tree.players) c.weighed.view_is in
    let last : c.loop-player.player ≡ j.tree.players = omega (arith, all, c.loop-player-test.false, c.loop-player.auto.player-end, c.players-player-end.ensures) in
    let size = c.loop-player.invariant.size_is ∙ ap (size_below j) last in
    omega (arith, size, c.loop-player.invariant.small)
