-- The first of the best, so far.
use Rattle.std.proofs.Common.{◌≡◌, ℕ, ◌+◌, ℤ, ◌≤ℤ◌, ◌<ℤ◌, arith, ap, sym, subst, ◌∙◌, below_more}
use Rattle.std.proofs.lemmas.Int.{ints}
use Rattle.spiel_response.specs.Greatest.{IsBestSoFar}
use Rattle.spiel_response.proofs.Integers.{at_most_same}

pub best_start : (f : ℕ → ℤ) (most : ℤ) → most ≡ f 0 → IsBestSoFar f 1 0 most
best_start f most e = record {
  best_below = omega arith;
  most_is = e;
  at_most = λ a k. let same : a ≡ 0 = omega arith in at_most_same _ _ (ap f same ∙ sym e);
  less_before = λ a k. absurd (omega arith);
}

pub best_takes : (f : ℕ → ℤ) (n best : ℕ) (most sum : ℤ) → IsBestSoFar f n best most → sum ≡ f n → most <ℤ sum → IsBestSoFar f (n + 1) n sum
best_takes f n best most sum so e more = record {
  best_below = omega arith;
  most_is = e;
  at_most = below_more (λ (a : ℕ). f a ≤ℤ sum) n (λ a k. let h = so.at_most a k in omega (arith, ints)) (at_most_same _ _ (sym e));
  less_before = λ a k. let h = so.at_most a k in omega (arith, ints);
}

pub best_keeps : (f : ℕ → ℤ) (n best : ℕ) (most sum : ℤ) → IsBestSoFar f n best most → sum ≡ f n → sum ≤ℤ most → IsBestSoFar f (n + 1) best most
best_keeps f n best most sum so e less = record {
  best_below = omega arith;
  most_is = so.most_is;
  at_most = below_more (λ (a : ℕ). f a ≤ℤ most) n so.at_most (subst (λ (x : ℤ). x ≤ℤ most) e less);
  less_before = so.less_before;
}
