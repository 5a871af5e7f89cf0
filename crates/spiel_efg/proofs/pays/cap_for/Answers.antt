use Rattle.std.proofs.Common.{◌≡◌, ◌∙◌, ◌++◌, ◌∷◌, ◌+◌, ◌*◌, ◌^◌, ◌≤◌, ℕ, [], ap, arith, get_or, length, refl, replicate, subst, sym, true}
use Rattle.std.specs.Prelude.{pos, ◌+ℤ◌, nat_abs}
use Rattle.std.proofs.Common.{w64, to_z, of_z}
use Rattle.std.specs.Int.{w128}
use Rattle.std.proofs.lemmas.Int.{ints, to_z-of_z}
use Rattle.spiel_efg.specs.declared.parts.EfgNode.{EfgNode}
use Rattle.spiel_efg.specs.declared.parts.NodeKind.TheVariants.{Terminal}
use Rattle.spiel_efg.specs.EfgPays.{cap_with}
use Rattle.spiel_efg.specs.Tree.{is_forest}
use Rattle.spiel_efg.proofs.Paying.{are_near, count_at, first_near, next_cap, own_at, start_cap, step_near, step_trees, stop_cap}
use Rattle.spiel_efg.proofs.pays.cap_for.Goals as goal

abbrev no_node : EfgNode
no_node = record { name = []; kind = Terminal; outcome = 0 }

pub loop-place-init : goal.loop-place-init
loop-place-init c =
    let e : c.put.new.self ≡ pos 0 ∷ [] = c.in_ok-put.ensures ∙ ap (λ w. replicate 1 (pos 0) ++ w) c.new-waiting.ensures in
    record {
      trees = subst (λ w. is_forest (length w) c.args.counts.now ≡ true) (sym e) c.requires.tree;
      near = subst (λ w. are_near 0 w ≡ true) (sym e) refl;
      low = omega arith;
      high = omega arith;
      rest = start_cap c.args.parts.now c.args.player c.put.new.self e;
    }

pub returns-in_default-cap_with : goal.returns-in_default-cap_with
returns-in_default-cap_with c =
    let start = first_near c.loop-place.place c.in-Some.above c.next.new.self c.loop-place.waiting c.in-Some.ensures c.loop-place.invariant.near in
    let above_is : to_z w128 (of_z w128 c.in-Some.above) ≡ c.in-Some.above = to_z-of_z w128 c.in-Some.above (omega (arith, ints, start, c.loop-place-test.true, c.requires.few)) in
    let own_is : to_z w64 (of_z w64 c.own.result) ≡ c.own.result = to_z-of_z w64 c.own.result (omega (arith, ints, c.own.type_inv)) in
    let at = count_at c.args.parts.now c.args.counts.now c.loop-place.place no_node c.requires.counts c.loop-place-test.true in
    let close : nat_abs c.plus-here.result ≤ (c.loop-place.place + 1) * 2 ^ 63 = omega (arith, ints, start, above_is, own_is, c.plus-here.ensures, c.own.type_inv) in
    let here_is : to_z w128 (of_z w128 c.plus-here.result) ≡ c.plus-here.result = to_z-of_z w128 c.plus-here.result (omega (arith, ints, close, c.loop-place-test.true, c.requires.few)) in
    stop_cap c.args.parts.now c.args.player c.loop-place.cap _ (get_or c.args.counts.now c.loop-place.place 0) c.loop-place.place c.in-Some.above c.plus-here.result c.next.new.self c.loop-place.waiting no_node
    c.in-Some.ensures at.1 at.0
    (c.plus-here.ensures ∙ ap (λ z. z +ℤ to_z w64 (of_z w64 c.own.result)) above_is ∙ ap (λ z. c.in-Some.above +ℤ z) (own_is ∙ c.own.ensures ∙ own_at c.args.parts.now c.args.table.now c.loop-place.place c.args.player no_node c.requires.table at.1))
    (c.in_default-cap_with.ensures ∙ ap (λ z. cap_with c.loop-place.cap (get_or c.args.counts.now c.loop-place.place 0) z) here_is) c.loop-place.invariant.rest

pub put-requires-in-loop-place : goal.put-requires-in-loop-place
put-requires-in-loop-place c =
    let step = step_trees c.args.counts.now c.loop-place.place c.in-Some.above c.plus-here.result c.next.new.self c.loop-place.waiting (replicate (get_or c.args.counts.now c.loop-place.place 0) c.plus-here.result ++ c.next.new.self)
    c.in-Some.ensures c.loop-place-test.true c.loop-place.invariant.trees refl in
    omega (arith, step.1, c.requires.few)

pub loop-place-preserved : goal.loop-place-preserved
loop-place-preserved c =
    let start = first_near c.loop-place.place c.in-Some.above c.next.new.self c.loop-place.waiting c.in-Some.ensures c.loop-place.invariant.near in
    let above_is : to_z w128 (of_z w128 c.in-Some.above) ≡ c.in-Some.above = to_z-of_z w128 c.in-Some.above (omega (arith, ints, start, c.loop-place-test.true, c.requires.few)) in
    let own_is : to_z w64 (of_z w64 c.own.result) ≡ c.own.result = to_z-of_z w64 c.own.result (omega (arith, ints, c.own.type_inv)) in
    let count : ℕ = get_or c.args.counts.now c.loop-place.place 0 in
    let after = c.put-in-loop-place.new.self in
    let at = count_at c.args.parts.now c.args.counts.now c.loop-place.place no_node c.requires.counts c.loop-place-test.true in
    let close : nat_abs c.plus-here.result ≤ (c.loop-place.place + 1) * 2 ^ 63 = omega (arith, ints, start, above_is, own_is, c.plus-here.ensures, c.own.type_inv) in
    let here_is : to_z w128 (of_z w128 c.plus-here.result) ≡ c.plus-here.result = to_z-of_z w128 c.plus-here.result (omega (arith, ints, close, c.loop-place-test.true, c.requires.few)) in
    let put : after ≡ replicate count c.plus-here.result ++ c.next.new.self = c.in_ok-put-2.ensures ∙ ap (λ z. replicate count z ++ c.next.new.self) here_is in
    let step = step_trees c.args.counts.now c.loop-place.place c.in-Some.above c.plus-here.result c.next.new.self c.loop-place.waiting after c.in-Some.ensures c.loop-place-test.true c.loop-place.invariant.trees put in
    let next = next_cap c.args.parts.now c.args.player c.loop-place.cap _ count c.loop-place.place c.in-Some-cap_with.next c.in-Some.above c.plus-here.result c.next.new.self c.loop-place.waiting after no_node
    c.in-Some.ensures at.1 at.0
    (c.plus-here.ensures ∙ ap (λ z. z +ℤ to_z w64 (of_z w64 c.own.result)) above_is ∙ ap (λ z. c.in-Some.above +ℤ z) (own_is ∙ c.own.ensures ∙ own_at c.args.parts.now c.args.table.now c.loop-place.place c.args.player no_node c.requires.table at.1))
    put (c.in-Some-cap_with.ensures ∙ ap (λ z. cap_with c.loop-place.cap (get_or c.args.counts.now c.loop-place.place 0) z) here_is) c.loop-place.invariant.high c.loop-place.invariant.rest in
    record {
      trees = step.0;
      near = step_near c.loop-place.place count c.in-Some.above c.plus-here.result c.next.new.self c.loop-place.waiting after c.in-Some.ensures c.loop-place.invariant.near close put;
      low = omega (arith, next.2, c.loop-place.invariant.low);
      high = next.1;
      rest = next.0;
    }
