use Rattle.std.proofs.Common.{◌≡◌, ◌<◌, ◌^◌, true, ap, sym, subst, ◌∙◌, arith, map, nat_abs, List, ℕ}
use Rattle.std.specs.Prelude.{ℤ}
use Rattle.spiel_frac.specs.Fraction.{Fraction}
use Rattle.spiel_matrix.specs.Parts.{has_shape}
use Rattle.spiel_matrix.specs.Pays.{are_small, common_unit, greatest, in_parts}
use Rattle.spiel_matrix.proofs.Counting.{some_within}
use Rattle.spiel_matrix.proofs.Paying.{is_matrix_from, sizes_of_parts}
use Rattle.spiel_matrix.proofs.matrix.Matrix.of.Goals as goal

pub invariant_of-result : goal.invariant_of-result
invariant_of-result c =
    let parts = c.args.parts in
    let unit = c.in-Some.unit in
    let found = some_within (common_unit c.items.result.now) (2 ^ 62) unit (common_unit c.items.result.now) c.in-Some.ensures.value in
    let same : common_unit c.items.result.now ≡ common_unit parts.pays = ap (λ (ps : List Fraction). common_unit ps) c.items.ensures in
    let is : unit ≡ common_unit parts.pays = found.0 ∙ same in
    let shaped : has_shape parts ≡ true = sym c.has_shape.ensures ∙ c.if-not-has_shape.false in
    let small : are_small (common_unit parts.pays) parts.pays ≡ true =
    subst (λ n. are_small n parts.pays ≡ true) is (subst (λ (ps : List Fraction). are_small unit ps ≡ true) c.items-2.ensures c.in_ok-pays.ensures.fault) in
    let pays : c.in_ok-pays.pays ≡ map (in_parts (common_unit parts.pays)) parts.pays =
    c.in_ok-pays.ensures.pays ∙ ap (λ (ps : List Fraction). map (in_parts unit) ps) c.items-2.ensures ∙ ap (λ (n : ℕ). map (in_parts n) parts.pays) is in
    record {
      sound = is_matrix_from parts shaped (omega (arith, found.1, same)) small;
      unit_is = is;
      unit_low = subst (λ (ps : List Fraction). 0 < common_unit ps) c.items.ensures c.in-Some.ensures.positive;
      cap_is = c.greatest_size-cap.ensures ∙ ap (λ (ps : List ℤ). greatest (map nat_abs ps)) (c.items-3.ensures ∙ pays) ∙ ap greatest (sizes_of_parts (common_unit parts.pays) parts.pays);
      pays_are = pays;
    }
