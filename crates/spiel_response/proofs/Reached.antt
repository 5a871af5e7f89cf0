-- One step more changes a reach weight by the weight over the total.
use Rattle.std.proofs.Common.{◌≡◌, ℕ, ◌*◌, ◌/◌, ◌<◌, ◌≤◌, ap, ◌∙◌, arith, mul-le-mul}
use Rattle.std.specs.Int.{◌∣◌}
use Rattle.std.proofs.Math.Nat.{mul-div_cancel', mul-div_right}

-- in parts of L: from the products n and d of the weights and the totals, to those with w and t
pub step_reach : (scale n d w t : ℕ) → 0 < d → 0 < t → d * t ∣ scale → n * (scale / d) / t * w ≡ n * w * (scale / (d * t))
step_reach scale n d w t pd pt divides =
    let q = scale / (d * t) in
    let whole : d * t * q ≡ scale = mul-div_cancel' (d * t) divides in
    let split : scale ≡ d * (t * q) = omega (arith, whole) in
    let part : scale / d ≡ t * q = ap (λ (x : ℕ). x / d) split ∙ mul-div_right (t * q) pd in
    let up : n * (scale / d) ≡ t * (n * q) = ap (λ (x : ℕ). n * x) part ∙ (let same : n * (t * q) ≡ t * (n * q) = omega arith in same) in
    let down : n * (scale / d) / t ≡ n * q = ap (λ (x : ℕ). x / t) up ∙ mul-div_right (n * q) pt in
    ap (λ (x : ℕ). x * w) down ∙ (let same : n * q * w ≡ n * w * q = omega arith in same)

-- a reach weight is at most the scale
pub reach_within : (scale n d : ℕ) → n ≤ d → d ∣ scale → n * (scale / d) ≤ scale
reach_within scale n d le divides =
    let whole : d * (scale / d) ≡ scale = mul-div_cancel' d divides in
    let less = mul-le-mul le (let same : scale / d ≤ scale / d = omega arith in same) in
    omega (arith, whole, less)
