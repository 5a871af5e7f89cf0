use Rattle.std.proofs.Common.{◌≡◌, ◌≢◌, ◌∙◌, ap, sym, of_z, to_z}
use Rattle.std.specs.Prelude.{pos}
use Rattle.std.specs.Int.{w128}
use Rattle.std.proofs.lemmas.Int.{to_z-of_z}
use Rattle.spiel_frac.specs.Fraction.{quotient}
use Rattle.spiel_frac.proofs.Quotients.{quotient-IfSome, quotient-IfNone, quotient-fits, quotient-zero, quotient-of_parts}
use Rattle.spiel_frac.proofs.frac.Frac.new.Goals as goal

pub returns-then-den-eq0-clause-value : goal.returns-then-den-eq0-clause-value
returns-then-den-eq0-clause-value c =
    let zero = sym (to_z-of_z w128 c.args.den c.ranges.den) ∙ ap (to_z w128) c.if-den-eq0.true in
    rw zero (sym (quotient-zero c.args.num))

value_is : (c : goal.After-within_most) → c.within_most.result ≡ quotient c.args.num c.args.den
value_is c =
    let same_num = to_z-of_z w128 c.args.num c.ranges.num in
    let same_den = to_z-of_z w128 c.args.den c.ranges.den in
    let nonzero : c.args.den ≢ pos 0 = λ e. c.if-den-eq0.false (ap (of_z w128) e) in
    let parts = simp (c.unsigned_abs.ensures.value, c.unsigned_abs-2.ensures.value, same_num, same_den) at c.in_lowest_terms-top.ensures in
    simp (same_num, same_den) at c.within_most.ensures ∙ quotient-of_parts c.args.num c.args.den _ _ nonzero parts.top parts.bottom

pub returns-clause-value : goal.returns-clause-value
returns-clause-value c = value_is c

pub returns-clause-some : goal.returns-clause-some
returns-clause-some c = rw (value_is c) (quotient-IfSome c.args.num c.args.den)

pub returns-clause-none : goal.returns-clause-none
returns-clause-none c = rw (value_is c) (quotient-IfNone c.args.num c.args.den)

pub returns-clause-fits : goal.returns-clause-fits
returns-clause-fits c = rw (value_is c) (quotient-fits c.args.num c.args.den)
