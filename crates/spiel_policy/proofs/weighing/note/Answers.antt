use Rattle.std.proofs.Common.{sym, ap, ◌∙◌}
use Rattle.std.specs.Prelude.{is_some}
use Rattle.spiel_tree.specs.States.{numbers_of}
use Rattle.spiel_policy.proofs.Choices.{taken}
use Rattle.spiel_policy.proofs.weighing.note.Goals as goal

pub returns : goal.returns
returns c = λ before is.
    let numbers = numbers_of c.args.tree.now.players c.args.tree.now.rows c.args.state in
    let there = taken numbers before c.args.pair c.args.table.now.items c.in-Some.index c.index.result.now c.requires.rising is c.in-Some.ensures.within c.in-Some.ensures.there
    (ap is_some (sym c.index.ensures) ∙ sym c.if-is_some.ensures) in
    (there.choice, there.entries)
