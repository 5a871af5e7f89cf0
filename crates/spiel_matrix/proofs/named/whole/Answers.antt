use Rattle.std.proofs.Common.{◌≡◌, ◌≤◌, ap, sym, ◌∙◌, arith, Some}
use Rattle.std.specs.Prelude.{ℤ, pos, unsigned_abs}
use Rattle.std.proofs.lemmas.Int.{ints, to_z-of_z}
use mir.Val.{of_z, to_z}
use mir.Syntax.{w64, w128}
use Rattle.spiel_frac.specs.Fraction.{lowest_terms, most}
use Rattle.spiel_matrix.specs.Named.{whole}
use Rattle.spiel_matrix.proofs.Naming.{lowest_whole}
use Rattle.spiel_matrix.proofs.named.whole.Goals as goal

pub returns : goal.returns
returns c =
    let from : c.from.result ≡ c.args.number = c.from.ensures ∙ to_z-of_z w64 c.args.number c.ranges.number in
    let wide : to_z w128 (of_z w128 c.from.result) ≡ c.args.number = omega (arith, ints, from) in
    let small : unsigned_abs (to_z w128 (of_z w128 c.from.result)) ≤ most = omega (arith, ints, from) in
    let made : c.new.result ≡ Some (lowest_terms (to_z w128 (of_z w128 c.from.result)) (pos 1)) = c.new.ensures.fits (λ e. cc) small (omega arith) in
    let same : Some c.unwrap.result ≡ Some (whole c.args.number) = sym c.unwrap.ensures ∙ made ∙ ap (λ (n : ℤ). Some (lowest_terms n (pos 1))) wide ∙ ap Some (lowest_whole c.args.number) in
    cc
