use Rattle.std.proofs.Common.{rules, ◌≡◌, ◌≤◌, ◌<◌, ◌+◌, ℤ, pos, ◌+ℤ◌, ◌*ℤ◌, to_z, of_z, ap, ap₂, sym, subst, ◌∙◌, arith}
use Rattle.std.specs.Prelude.{FitsSigned, nat_abs}
use Rattle.std.specs.Int.{w64, w128}
use Rattle.std.proofs.lemmas.Int.{to_z-of_z}
use Rattle.spiel_frac.specs.Fraction.{most}
use Rattle.spiel_response.proofs.LeafParts.{fits_most, kept, size_within, at_most_more, both_sizes, passed_first, passed_second, passed_grown, passed_both, if_none}
use Rattle.spiel_response.proofs.sums.with_leaf.Goals as goal

-- the sum and its new part, which fit
added : (c : goal.After-struct_told-1) → to_z w128 (of_z w128 c.args.sums.value) +ℤ to_z w128 (of_z w128 c.in_ok-expected.expected) ≡ c.args.sums.value +ℤ c.in_ok-expected.expected
added c =
    let small : nat_abs c.args.sums.value ≤ most = omega (arith, c.requires.value, c.requires.size) in
    ap₂ (λ (x y : ℤ). x +ℤ y) (kept c.args.sums.value small) (kept c.in_ok-expected.expected c.in_ok-expected.ensures.some.1)

-- the size of the sum with its new part
grown_size : (c : goal.After-struct_told-1) → nat_abs (c.args.sums.value +ℤ c.in_ok-expected.expected) ≤ c.in_ok-grown.field-0
grown_size c =
    let back = kept c.in_ok-expected.expected c.in_ok-expected.ensures.some.1 in
    size_within c.args.sums.value c.in_ok-expected.expected c.args.sums.size c.in_ok-grown.field-0 c.requires.value (c.in_ok-grown.ensures.some.0 ∙ ap (λ z. c.args.sums.size + nat_abs z) back)

fits : (c : goal.After-struct_told-1) → FitsSigned w128 (to_z w128 (of_z w128 c.args.sums.value) +ℤ to_z w128 (of_z w128 c.in_ok-expected.expected))
fits c = subst (FitsSigned w128) (sym (added c)) (fits_most (c.args.sums.value +ℤ c.in_ok-expected.expected) (omega (arith, grown_size c, c.in_ok-grown.ensures.some.1)))

pub overflow_add-result : goal.overflow_add-result
overflow_add-result c = fits c

pub returns-clause-value : goal.returns-clause-value
returns-clause-value c = to_z-of_z w128 _ (fits c) ∙ added c ∙ ap (λ z. c.args.sums.value +ℤ z) (c.in_ok-expected.ensures.some.0 ∙ ap (λ z. pos c.args.reached *ℤ z) (to_z-of_z w64 c.args.pay (search rules)))

pub returns-clause-size : goal.returns-clause-size
returns-clause-size c =
    let pay = to_z-of_z w64 c.args.pay (search rules) in
    let expected = kept c.in_ok-expected.expected c.in_ok-expected.ensures.some.1 ∙ c.in_ok-expected.ensures.some.0 ∙ ap (λ z. pos c.args.reached *ℤ z) pay in
    let counterfactual = kept c.in_ok-counterfactual.counterfactual c.in_ok-counterfactual.ensures.some.1 ∙ c.in_ok-counterfactual.ensures.some.0 ∙ ap (λ z. pos c.args.counterfactual *ℤ z) pay in
    both_sizes c.in_ok-size.size c.args.sums.size c.in_ok-grown.field-0 (nat_abs (pos c.args.reached *ℤ c.args.pay)) (nat_abs (pos c.args.counterfactual *ℤ c.args.pay))
    (c.in_ok-grown.ensures.some.0 ∙ ap (λ z. c.args.sums.size + nat_abs z) expected)
    (c.in_ok-size.ensures.some.0 ∙ ap (λ z. c.in_ok-grown.field-0 + nat_abs z) counterfactual)

pub returns-clause-within : goal.returns-clause-within
returns-clause-within c =
    let all = to_z-of_z w128 _ (fits c) ∙ added c in
    (subst (λ z. nat_abs z ≤ c.in_ok-size.size) (sym all) (at_most_more (nat_abs (c.args.sums.value +ℤ c.in_ok-expected.expected)) c.in_ok-grown.field-0 _ c.in_ok-size.size (grown_size c) c.in_ok-size.ensures.some.0), c.in_ok-size.ensures.some.1)

pub returns-in_err-expected-clause-none : goal.returns-in_err-expected-clause-none
returns-in_err-expected-clause-none c =
    if_none c.from_residual.result (passed_first most c.args.sums.size (nat_abs (pos c.args.reached *ℤ c.args.pay)) (nat_abs (pos c.args.counterfactual *ℤ c.args.pay))
    (subst (λ z. most < nat_abs (pos c.args.reached *ℤ z)) (to_z-of_z w64 c.args.pay (search rules)) c.in_err-expected.ensures.none))

pub returns-in_err-counterfactual-clause-none : goal.returns-in_err-counterfactual-clause-none
returns-in_err-counterfactual-clause-none c =
    if_none c.from_residual-in_err-counterfactual.result (passed_second most c.args.sums.size (nat_abs (pos c.args.reached *ℤ c.args.pay)) (nat_abs (pos c.args.counterfactual *ℤ c.args.pay))
    (subst (λ z. most < nat_abs (pos c.args.counterfactual *ℤ z)) (to_z-of_z w64 c.args.pay (search rules)) c.in_err-counterfactual.ensures.none))

pub returns-in_err-grown-clause-none : goal.returns-in_err-grown-clause-none
returns-in_err-grown-clause-none c =
    let pay = to_z-of_z w64 c.args.pay (search rules) in
    let expected = kept c.in_ok-expected.expected c.in_ok-expected.ensures.some.1 ∙ c.in_ok-expected.ensures.some.0 ∙ ap (λ z. pos c.args.reached *ℤ z) pay in
    if_none c.from_residual-in_err-grown.result (passed_grown most c.args.sums.size (nat_abs (pos c.args.reached *ℤ c.args.pay)) (nat_abs (pos c.args.counterfactual *ℤ c.args.pay))
    (subst (λ z. most < c.args.sums.size + nat_abs z) expected c.in_err-grown.ensures.none))

pub returns-in_err-size-clause-none : goal.returns-in_err-size-clause-none
returns-in_err-size-clause-none c =
    let pay = to_z-of_z w64 c.args.pay (search rules) in
    let expected = kept c.in_ok-expected.expected c.in_ok-expected.ensures.some.1 ∙ c.in_ok-expected.ensures.some.0 ∙ ap (λ z. pos c.args.reached *ℤ z) pay in
    let counterfactual = kept c.in_ok-counterfactual.counterfactual c.in_ok-counterfactual.ensures.some.1 ∙ c.in_ok-counterfactual.ensures.some.0 ∙ ap (λ z. pos c.args.counterfactual *ℤ z) pay in
    if_none c.from_residual-in_err-size.result (passed_both most c.args.sums.size c.in_ok-grown.field-0 (nat_abs (pos c.args.reached *ℤ c.args.pay)) (nat_abs (pos c.args.counterfactual *ℤ c.args.pay))
    (c.in_ok-grown.ensures.some.0 ∙ ap (λ z. c.args.sums.size + nat_abs z) expected)
    (subst (λ z. most < c.in_ok-grown.field-0 + nat_abs z) counterfactual c.in_err-size.ensures.none))
