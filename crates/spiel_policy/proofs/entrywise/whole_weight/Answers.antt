use Rattle.std.proofs.Common.{◌≡◌, ◌∙◌, ℕ, pos, ap, refl, sym, arith, decimal}
use Rattle.spiel_frac.specs.Fraction.{lowest_terms}
use Rattle.spiel_policy.proofs.Shapes.{whole_ratio}
use Rattle.spiel_policy.proofs.entrywise.whole_weight.Goals as goal

pub returns : goal.returns
returns c =
    let n = c.in_ok-whole.whole in
    let spelled : c.as_bytes.result.now ≡ decimal n = (c.in_ok-whole.ensures.text n (omega arith)).0 refl in
    let same : c.from.result ≡ n = grind arith in
    (n, omega arith, sym c.as_bytes.ensures.value ∙ spelled, c.ratio.ensures.value ∙ ap (λ (k : ℕ). lowest_terms (pos k) (pos 1)) same ∙ whole_ratio n)
