-- The first of the greatest numbers.
use Rattle.std.specs.Prelude.{◌≡◌, ℕ, ◌<◌, ℤ, ◌≤ℤ◌, ◌<ℤ◌}

-- the greatest of f below n, and the first place where it stands
pub record IsBestSoFar (f : ℕ → ℤ) (n best : ℕ) (most : ℤ) : Type 0 where
  pub best_below : best < n
  pub most_is : most ≡ f best
  pub at_most : (a : ℕ) → a < n → f a ≤ℤ most
  pub less_before : (a : ℕ) → a < best → f a <ℤ most
