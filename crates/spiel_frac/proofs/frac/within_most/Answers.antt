use Rattle.std.proofs.Common.{ap, ◌∙◌, arith, rules}
use Rattle.std.specs.Prelude.{unsigned_abs}
use Rattle.std.specs.Int.{w128}
use Rattle.std.proofs.lemmas.Int.{to_z-of_z}
use Rattle.std.proofs.lemmas.Bool.Decides.{nat_tests}
use mir.Val.{SFits}
use Rattle.spiel_frac.specs.Fraction.{within_most}
use Rattle.spiel_frac.proofs.Quotients.{unsigned_abs-signed_as, IsLowest-of_size}
use Rattle.spiel_frac.proofs.frac.within_most.Goals as goal

pub returns-then-top-gt-MOST : goal.returns-then-top-gt-MOST
unfolding within_most
returns-then-top-gt-MOST c = grind (arith, nat_tests, unsigned_abs-signed_as)

pub invariant_of-result : goal.invariant_of-result
invariant_of-result c =
    let fits : SFits w128 c.signed_as.result = search rules in
    let size = ap unsigned_abs c.signed_as.ensures ∙ unsigned_abs-signed_as _ _ c.args.top in
    rw (to_z-of_z w128 c.signed_as.result fits) (IsLowest-of_size _ c.args.top size c.requires.positive c.requires.lowest (omega arith) (omega arith))

pub returns : goal.returns
unfolding within_most
returns c = grind (arith, nat_tests, unsigned_abs-signed_as)
