use Rattle.std.proofs.Common.{◌≡◌, ◌+◌, ◌∙◌, take, sym, ap, ap₂, arith}
use Rattle.spiel_frac.specs.Multiples.{least_common_multiple}
use Rattle.spiel_policy.specs.Weighing.{whole_weight}
use Rattle.spiel_policy.specs.declared.entries.Pair.{Pair}
use Rattle.spiel_policy.proofs.Weights.{whole_grows, whole_large, whole_more}
use Rattle.spiel_policy.proofs.weighing.whole_weight.Goals as goal

pub returns-in_err-whole : goal.returns-in_err-whole
returns-in_err-whole c =
    let pairs = c.args.pairs.now in
    let at = c.loop-pair.pair-index in
    let pair = c.pair-item.result in
    let next : least_common_multiple c.loop-pair.whole c.den_of.result ≡ whole_weight (take (at + 1) pairs) =
    ap₂ (λ n m. least_common_multiple n m) c.loop-pair.invariant.is (c.den_of.ensures.value ∙ ap (λ (p : Pair). p.weight.den) c.pair-item.is) ∙ whole_more pairs at pair (omega arith) in
    c.from_residual.ensures ∙ sym (whole_large pairs (omega (arith, next, c.in_err-whole.ensures.none, whole_grows pairs (at + 1) c.requires)))

pub loop-pair-preserved : goal.loop-pair-preserved
loop-pair-preserved c =
    let pairs = c.args.pairs.now in
    let at = c.loop-pair.pair-index in
    let pair = c.pair-item.result in
    let next : least_common_multiple c.loop-pair.whole c.den_of.result ≡ whole_weight (take (at + 1) pairs) =
    ap₂ (λ n m. least_common_multiple n m) c.loop-pair.invariant.is (c.den_of.ensures.value ∙ ap (λ (p : Pair). p.weight.den) c.pair-item.is) ∙ whole_more pairs at pair (omega arith) in
    let is : c.in_ok-whole.whole ≡ least_common_multiple c.loop-pair.whole c.den_of.result = c.in_ok-whole.ensures.some.0 in
    record {
      is = is ∙ next;
      low = omega (arith, is, c.lcm.ensures.least.positive);
      high = c.in_ok-whole.ensures.some.1;
    }
