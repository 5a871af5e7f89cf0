-- Sizes of sums with the parts of one leaf more.
use Rattle.std.proofs.Common.{◌≡◌, ℕ, ◌+◌, ◌<◌, ◌≤◌, Option, Some, None, ℤ, ◌+ℤ◌, to_z, of_z, FitsSigned, arith}
use Rattle.std.specs.Prelude.{IfNone, nat_abs}
use Rattle.std.specs.Int.{w128}
use Rattle.std.proofs.lemmas.Int.{ints, to_z-of_z}
use Rattle.spiel_frac.specs.Fraction.{most}

pub fits_most : (z : ℤ) → nat_abs z ≤ most → FitsSigned w128 z
fits_most z l = omega (arith, ints)

pub kept : (z : ℤ) → nat_abs z ≤ most → to_z w128 (of_z w128 z) ≡ z
kept z l = to_z-of_z w128 z (fits_most z l)

size_plus : (a b : ℤ) → nat_abs (a +ℤ b) ≤ nat_abs a + nat_abs b
size_plus a b = omega (arith, ints)

chain : (x a b s n : ℕ) → x ≤ a + b → a ≤ s → n ≡ s + b → x ≤ n
chain x a b s n l m e = omega arith

pub size_within : (a b : ℤ) (s n : ℕ) → nat_abs a ≤ s → n ≡ s + nat_abs b → nat_abs (a +ℤ b) ≤ n
size_within a b s n l e = chain (nat_abs (a +ℤ b)) (nat_abs a) (nat_abs b) s n (size_plus a b) l e

pub at_most_more : (x n b size : ℕ) → x ≤ n → size ≡ n + b → x ≤ size
at_most_more x n b size l e = omega arith

pub both_sizes : (size s n a b : ℕ) → n ≡ s + a → size ≡ n + b → size ≡ s + (a + b)
both_sizes size s n a b e f = omega arith

-- a sum passes what a part of it passes
pub passed_first : (m s a b : ℕ) → m < a → m < s + (a + b)
passed_first m s a b l = omega arith

pub passed_second : (m s a b : ℕ) → m < b → m < s + (a + b)
passed_second m s a b l = omega arith

pub passed_grown : (m s a b : ℕ) → m < s + a → m < s + (a + b)
passed_grown m s a b l = omega arith

pub passed_both : (m s n a b : ℕ) → n ≡ s + a → m < n + b → m < s + (a + b)
passed_both m s n a b e l = omega arith

pub if_none : {A : Type 0} {X : Type 0} (o : Option A) → X → IfNone o X
if_none None x = x
if_none (Some a) x = tt
