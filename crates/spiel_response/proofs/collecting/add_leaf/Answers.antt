use Rattle.std.proofs.Common.{◌≡◌, ◌<◌, ◌≤◌, ℕ, true, ap, ap₂, sym, subst, ◌∙◌, arith, ℤ, pos, ◌+ℤ◌, ◌*ℤ◌, to_z, of_z, rules, refl}
use Rattle.std.specs.Prelude.{Some, None, Option, IfSome, IfNone, IsSome, nat_abs, slice_index_or, slice_set, FitsSigned}
use Rattle.std.specs.Int.{w64, w128}
use Rattle.std.proofs.lemmas.Int.{to_z-of_z}
use Rattle.spiel_tree.specs.Flat.{row_at}
use Rattle.spiel_frac.specs.Fraction.{most}
use Rattle.spiel_response.specs.Reach.{is_end}
use Rattle.spiel_response.specs.Values.{Judged, counterfactual_at, return_to}
use Rattle.spiel_response.specs.Weighed.{IsJudgeable}
use Rattle.spiel_response.proofs.Collected.{leaf_added, leaf_fits, part_small}
use Rattle.spiel_response.proofs.OwnSlots.{own_slot_within}
use Rattle.spiel_response.proofs.collecting.add_leaf.Goals as goal

-- it is a leaf
over : (c : goal.After-part) → is_end (row_at c.args.weighed.now.tree.rows c.args.row).here.place ≡ true
over c = ap (λ (j : Judged). is_end (row_at j.tree.rows c.args.row).here.place) (sym c.weighed.view_is) ∙ ap is_end (sym c.in-End.ensures)

-- the product is the leaf's part
product_is : (c : goal.After-part) → pos c.args.counterfactual *ℤ to_z w64 (of_z w64 c.row_pay.result) ≡ counterfactual_at c.args.weighed.now.tree.rows c.args.weighed.now.profile c.args.player (row_at c.args.weighed.now.tree.rows c.args.row)
product_is c =
    let fits : FitsSigned w64 c.row_pay.result = search rules in
    ap₂ (λ (n : ℕ) (z : ℤ). pos n *ℤ z) c.requires.counterfactual (to_z-of_z w64 c.row_pay.result fits ∙ c.row_pay.ensures ∙ ap (λ (j : Judged). return_to c.args.player (row_at j.tree.rows c.args.row)) c.weighed.view_is)

small : (c : goal.After-part) → nat_abs (pos c.args.counterfactual *ℤ to_z w64 (of_z w64 c.row_pay.result)) ≤ most
small c = omega (arith, ap nat_abs (product_is c), part_small c.args.weighed.now c.args.player c.args.row c.requires.within (over c), c.requires.small)

some_is : (r : Option ℤ) (x : ℤ) → nat_abs x ≤ most → IfNone r (most < nat_abs x) → IsSome r
some_is (Some y) x l none = refl
some_is None x l none = absurd (omega arith)

pub unwrap-requires : goal.unwrap-requires
unwrap-requires c = some_is c.part.result (pos c.args.counterfactual *ℤ to_z w64 (of_z w64 c.row_pay.result)) (small c) c.part.ensures.none

-- what was unwrapped
value_is : (c : goal.After-unwrap) → to_z w128 (of_z w128 c.unwrap.result) ≡ counterfactual_at c.args.weighed.now.tree.rows c.args.weighed.now.profile c.args.player (row_at c.args.weighed.now.tree.rows c.args.row)
value_is c =
    let fits : FitsSigned w128 c.unwrap.result = search rules in
    let own : FitsSigned w64 c.row_pay.result = search rules in
    let there = subst (λ (r : Option ℤ). IfSome r (λ x. (x ≡ pos c.args.counterfactual *ℤ to_z w64 (of_z w64 c.row_pay.result)) × (nat_abs x ≤ most))) c.unwrap.ensures c.part.ensures.some in
    to_z-of_z w128 c.unwrap.result fits ∙ there.0
    ∙ ap₂ (λ (n : ℕ) (z : ℤ). pos n *ℤ z) c.requires.counterfactual (to_z-of_z w64 c.row_pay.result own ∙ c.row_pay.ensures ∙ ap (λ (j : Judged). return_to c.args.player (row_at j.tree.rows c.args.row)) c.weighed.view_is)

leaf : (c : goal.After-unwrap) → is_end (row_at c.args.weighed.now.tree.rows c.args.row).here.place ≡ true
leaf c = ap (λ (j : Judged). is_end (row_at j.tree.rows c.args.row).here.place) (sym c.weighed.view_is) ∙ ap is_end (sym c.in-End.ensures)

pub add_at-requires-clause-slot : goal.add_at-requires-clause-slot
add_at-requires-clause-slot c =
    let j = c.args.weighed.now in
    omega (arith, c.requires.slot, c.requires.count, own_slot_within j (subst IsJudgeable c.weighed.view_is c.weighed.invariant) c.args.player c.args.row c.requires.player c.requires.within)

pub add_at-requires-clause-fits : goal.add_at-requires-clause-fits
add_at-requires-clause-fits c =
    let j = c.args.weighed.now in
    let ok : IsJudgeable j = subst IsJudgeable c.weighed.view_is c.weighed.invariant in
    let fits = leaf_fits j ok c.args.player c.args.row (to_z w128 (of_z w128 c.unwrap.result)) c.args.sums.now c.requires.player c.requires.within (leaf c)
    (own_slot_within j ok c.args.player c.args.row c.requires.player c.requires.within) (value_is c) c.requires.before in
    let at = ap (λ (s : ℕ). nat_abs (slice_index_or c.args.sums.now s (pos 0) +ℤ to_z w128 (of_z w128 c.unwrap.result))) c.requires.slot in
    omega (arith, fits, at, c.requires.small)

pub returns-in-End : goal.returns-in-End
returns-in-End c =
    let j = c.args.weighed.now in
    let ok : IsJudgeable j = subst IsJudgeable c.weighed.view_is c.weighed.invariant in
    let fits : FitsSigned w128 c.unwrap.result = search rules in
    let own : FitsSigned w64 c.row_pay.result = search rules in
    let there = subst (λ (r : Option ℤ). IfSome r (λ x. (x ≡ pos c.args.counterfactual *ℤ to_z w64 (of_z w64 c.row_pay.result)) × (nat_abs x ≤ most))) c.unwrap.ensures c.part.ensures.some in
    let value : to_z w128 (of_z w128 c.unwrap.result) ≡ counterfactual_at j.tree.rows j.profile c.args.player (row_at j.tree.rows c.args.row) =
    to_z-of_z w128 c.unwrap.result fits ∙ there.0
    ∙ ap₂ (λ (n : ℕ) (z : ℤ). pos n *ℤ z) c.requires.counterfactual (to_z-of_z w64 c.row_pay.result own ∙ c.row_pay.ensures ∙ ap (λ (j : Judged). return_to c.args.player (row_at j.tree.rows c.args.row)) c.weighed.view_is) in
    let over = ap (λ (j : Judged). is_end (row_at j.tree.rows c.args.row).here.place) (sym c.weighed.view_is) ∙ ap is_end (sym c.in-End.ensures) in
    let within = own_slot_within j ok c.args.player c.args.row c.requires.player c.requires.within in
    leaf_added j c.args.player c.args.row (to_z w128 (of_z w128 c.unwrap.result)) c.args.sums.now c.add_at.new.sums c.requires.within over
    (omega (arith, within, c.requires.count)) value c.requires.before
    (subst (λ (s : ℕ). c.add_at.new.sums ≡ slice_set c.args.sums.now s (slice_index_or c.args.sums.now s (pos 0) +ℤ to_z w128 (of_z w128 c.unwrap.result))) c.requires.slot c.add_at.ensures)
