-- The named games are games, and whole numbers fractions.
use Rattle.std.proofs.Common.{◌≡◌, ℕ, ◌/◌, None, Some, refl, sym, ap, ◌∙◌}
use Rattle.std.specs.Prelude.{ℤ, pos, negsuc, unsigned_abs}
use Rattle.std.specs.Int.{IsGcd}
use Rattle.std.proofs.Math.Nat.{dvd_refl, one-dvd, div-one}
use Rattle.spiel_frac.specs.Fraction.{Fraction, greatest_common_divisor, greatest_up_to, lowest_terms, signed_as}
use Rattle.spiel_frac.specs.Multiples.{least_common_multiple}
use Rattle.spiel_frac.proofs.Divisors.{greatest_common_divisor-is}
use Rattle.spiel_matrix.specs.declared.named.Kind.{Kind}
use Rattle.spiel_matrix.specs.declared.named.Kind.TheVariants.{Pennies, Rps, Dilemma, Sexes}
use Rattle.spiel_matrix.specs.Named.{named_parts, whole}
use Rattle.spiel_matrix.specs.declared.parts.MatrixParts.{MatrixParts}
use Rattle.spiel_matrix.specs.declared.fault.MatrixFault.{MatrixFault}
use Rattle.spiel_matrix.specs.declared.fault.MatrixFault.TheVariants.{Shape, PayTooFine, NoMemory}
use Rattle.spiel_matrix.specs.Parts.{matrix_fault, IsMatrixFault}

-- nothing is wrong with the parts of a named game
pub nothing_wrong : (kind : Kind) → matrix_fault (named_parts kind) ≡ None
unfolding least_common_multiple greatest_common_divisor greatest_up_to
nothing_wrong Pennies = refl
nothing_wrong Rps = refl
nothing_wrong Dilemma = refl
nothing_wrong Sexes = refl

none_or_some : (fault : MatrixFault) → None ≡ Some fault → ⊥
none_or_some fault e = cc

-- so memory alone can be wanting
pub memory_alone : (kind : Kind) (parts : MatrixParts) (fault : MatrixFault) → parts ≡ named_parts kind → IsMatrixFault parts fault → fault ≡ NoMemory
memory_alone kind parts Shape e is = let right : matrix_fault parts ≡ None = ap (λ (p : MatrixParts). matrix_fault p) e ∙ nothing_wrong kind in absurd (none_or_some Shape (sym right ∙ is))
memory_alone kind parts PayTooFine e is = let right : matrix_fault parts ≡ None = ap (λ (p : MatrixParts). matrix_fault p) e ∙ nothing_wrong kind in absurd (none_or_some PayTooFine (sym right ∙ is))
memory_alone kind parts NoMemory e is = refl

same_sign : (number : ℤ) → signed_as number (pos 1) (unsigned_abs number) ≡ number
same_sign (pos size) = refl
same_sign (negsuc size) = refl

-- a whole number over 1 is in lowest terms
pub lowest_whole : (number : ℤ) → lowest_terms number (pos 1) ≡ whole number
unfolding lowest_terms
lowest_whole number =
    let size : ℕ = unsigned_abs number in
    let is : IsGcd size 1 1 = (one-dvd size, dvd_refl 1, λ d p q. q) in
    let one : greatest_common_divisor size 1 ≡ 1 = sym (greatest_common_divisor-is size 1 1 is) in
    let over : ℕ → Fraction = λ g. record { num = signed_as number (pos 1) (size / g); den = 1 / g } in
    ap over one ∙ ap (λ n. whole (signed_as number (pos 1) n)) (div-one size) ∙ ap whole (same_sign number)
