use Rattle.std.proofs.Common.{◌≡◌, [], length, sym, ap, ◌∙◌, false, eqb, arith}
use Rattle.spiel_save.proofs.FirstLine.{cut_line, whole_line}
use Rattle.spiel_save.proofs.lines.first_line.Goals as goal

pub returns-in-Some-clause-lines : goal.returns-in-Some-clause-lines
returns-in-Some-clause-lines c = cut_line c.args.bytes.now c.in-Some.parts.0.now c.in-Some.parts.1.now c.in-Some.ensures.sides

pub returns-in-None-clause-lines : goal.returns-in-None-clause-lines
returns-in-None-clause-lines c =
    let some : eqb (length c.args.bytes.now) 0 ≡ false = sym c.is_empty.ensures ∙ c.if-is_empty.false in
    whole_line c.args.bytes.now c.in-None.ensures.sides (λ empty. let none_long : length c.args.bytes.now ≡ 0 = ap length empty in let none : ⊥ = grind (arith, none_long, some) in none)
