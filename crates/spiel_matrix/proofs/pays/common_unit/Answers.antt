use Rattle.std.proofs.Common.{◌≡◌, ◌<◌, ◌∙◌, ap, subst, sym, take, ℕ, List, Option}
use Rattle.std.specs.Prelude.{slice_index_or, IfSome}
use Rattle.std.proofs.lemmas.List.{take_all}
use Rattle.spiel_frac.specs.Fraction.{Fraction}
use Rattle.spiel_matrix.specs.Pays.{common_unit, small_unit, unit_with}
use Rattle.spiel_matrix.proofs.Paying.{dens_positive_more, small_unit_positive, unit_more, unit_positive}
use Rattle.spiel_matrix.proofs.pays.common_unit.Goals as goal

pub unit_with-unit-requires : goal.unit_with-unit-requires
unit_with-unit-requires c =
    let before = take c.loop-pay.pay-index c.args.pays.now in
    subst (λ (o : Option ℕ). IfSome o (λ n. 0 < n)) (sym c.loop-pay.invariant.is) (small_unit_positive (common_unit before) (unit_positive before c.loop-pay.invariant.positive))

pub loop-pay-preserved : goal.loop-pay-preserved
loop-pay-preserved c =
    let pays = c.args.pays.now in
    let k = c.loop-pay.pay-index in
    let pay = c.pay-item.result in
    let same : pay.den ≡ (slice_index_or pays k pay).den = ap (λ (p : Fraction). p.den) c.pay-item.is in
    let positive : 0 < (slice_index_or pays k pay).den = subst (λ n. 0 < n) same c.unit_with-unit.ensures.positive in
    record {
      is = c.unit_with-unit.ensures.value ∙ ap (λ (o : Option ℕ). unit_with o pay.den) c.loop-pay.invariant.is ∙ ap (unit_with (small_unit (common_unit (take k pays)))) same
          ∙ unit_more pays k pay c.loop-pay-test.true c.loop-pay.invariant.positive positive;
      positive = dens_positive_more pays k pay c.loop-pay-test.true c.loop-pay.invariant.positive positive;
    }

pub returns-clause-positive : goal.returns-clause-positive
returns-clause-positive c =
    let pays = c.args.pays.now in
    subst (λ (ps : List Fraction). 0 < common_unit ps) (take_all c.loop-pay.pay-index pays c.loop-pay-test.false) (unit_positive (take c.loop-pay.pay-index pays) c.loop-pay.invariant.positive)
