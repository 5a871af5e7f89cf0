use Rattle.std.proofs.Common.{◌≡◌, ◌∙◌, ◌+◌, ◌*◌, ◌^◌, ◌≤◌, ap, arith, subst, sym, to_z, of_z, w64}
use Rattle.std.specs.Prelude.{◌+ℤ◌, nat_abs}
use Rattle.std.specs.Int.{w128}
use Rattle.std.proofs.lemmas.Int.{ints, to_z-of_z}
use Rattle.spiel_efg.specs.EfgPlays.{efg_from, play_short}
use Rattle.spiel_efg.proofs.Children.{play_step}
use Rattle.spiel_efg.proofs.Sums.{next_node, next_sum, next_within}
use Rattle.spiel_efg.proofs.efg.Efg.pay_along.Goals as goal

pub child-place-requires-clause-place : goal.child-place-requires-clause-place
child-place-requires-clause-place c =
    (play_step c.args.self.now.parts c.args.self.now.sound c.args.self.now.children c.args.history.now c.loop-action.action-index c.loop-action.place c.args.self.now.children_are c.requires c.loop-action-test.true c.loop-action.invariant.node).within

pub child-place-requires-clause-action : goal.child-place-requires-clause-action
child-place-requires-clause-action c =
    (play_step c.args.self.now.parts c.args.self.now.sound c.args.self.now.children c.args.history.now c.loop-action.action-index c.loop-action.place c.args.self.now.children_are c.requires c.loop-action-test.true c.loop-action.invariant.node).low

pub own-requires-in-loop-action : goal.own-requires-in-loop-action
own-requires-in-loop-action c =
    next_within c.args.self.now.parts c.args.self.now.sound c.args.self.now.children c.args.history.now c.loop-action.action-index c.loop-action.place c.child-place.result c.args.self.now.children_are c.requires c.loop-action-test.true c.loop-action.invariant.node
    c.child-place.ensures

pub plus-sum-requires-in-loop-action : goal.plus-sum-requires-in-loop-action
plus-sum-requires-in-loop-action c =
    omega (arith, ints, c.loop-action.invariant.near, c.loop-action-test.true, play_short c.args.self.now.parts (efg_from c.args.self.now.parts c.args.self.now.sound) c.args.history.now c.requires)

pub loop-action-preserved : goal.loop-action-preserved
loop-action-preserved c =
    let own_is : to_z w64 (of_z w64 c.own-in-loop-action.result) ≡ c.own-in-loop-action.result = to_z-of_z w64 c.own-in-loop-action.result (omega (arith, ints, c.own-in-loop-action.type_inv)) in
    let short = play_short c.args.self.now.parts (efg_from c.args.self.now.parts c.args.self.now.sound) c.args.history.now c.requires in
    let near : nat_abs c.plus-sum-in-loop-action.result ≤ (c.loop-action.action-index + 1 + 1) * 2 ^ 63 = omega (arith, ints, own_is, c.own-in-loop-action.type_inv, c.plus-sum-in-loop-action.ensures, c.loop-action.invariant.near) in
    let sum_is : to_z w128 (of_z w128 c.plus-sum-in-loop-action.result) ≡ c.plus-sum-in-loop-action.result = to_z-of_z w128 c.plus-sum-in-loop-action.result (omega (arith, ints, near, short, c.loop-action-test.true)) in
    record {
      node = next_node c.args.self.now.parts c.args.self.now.sound c.args.self.now.children c.args.history.now c.loop-action.action-index c.loop-action.place c.child-place.result c.args.self.now.children_are c.requires c.loop-action-test.true c.loop-action.invariant.node
          c.child-place.ensures;
      sum = sum_is ∙ c.plus-sum-in-loop-action.ensures ∙ ap (λ z. to_z w128 c.loop-action.sum-bits +ℤ z) own_is
          ∙ next_sum c.args.self.now.parts c.args.self.now.sound c.args.self.now.children c.args.history.now c.loop-action.action-index c.loop-action.place c.child-place.result c.args.self.now.children_are c.requires c.loop-action-test.true c.loop-action.invariant.node
          c.child-place.ensures c.args.player (to_z w128 c.loop-action.sum-bits) c.own-in-loop-action.result c.loop-action.invariant.sum c.own-in-loop-action.ensures;
      near = subst (λ z. nat_abs z ≤ (c.loop-action.action-index + 1 + 1) * 2 ^ 63) (sym sum_is) near;
    }
