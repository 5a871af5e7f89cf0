use Rattle.std.proofs.Common.{◌≡◌, ◌<◌, sym, subst, arith, nat_le, Option, Some, None}
use Rattle.std.specs.Prelude.{IfSome, if◌then◌else◌, unsigned_abs}
use Rattle.std.proofs.lemmas.Int.{ints, to_z-of_z}
use Rattle.spiel_policy.specs.Weighing.{IsPart, parts_of}
use Rattle.spiel_policy.specs.declared.entries.Pair.{Pair}
use Rattle.spiel_policy.proofs.Weights.{parts_above, parts_refused}
use Rattle.spiel_policy.proofs.weighing.parts_of.Goals as goal

pub returns-then-num-den : goal.returns-then-num-den
returns-then-num-den c =
    let whole = c.args.whole in
    let pair = c.in-Some.pair in
    let part : IsPart whole pair = subst (λ (o : Option Pair). IfSome o (IsPart whole)) c.in-Some.is c.requires.part in
    let above : pair.weight.den < unsigned_abs pair.weight.num = grind (arith, ints, to_z-of_z) in
    subst (λ (o : Option Pair). None ≡ (if nat_le (parts_of whole o) whole then Some (parts_of whole o) else None)) (sym c.in-Some.is)
    (parts_refused whole (Some pair) (parts_above whole pair c.requires.positive part above))
