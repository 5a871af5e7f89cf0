use Rattle.std.proofs.Common.{◌≡◌, ◌∷◌, [], Option, subst, arith}
use Rattle.std.specs.Prelude.{IfSome, codes, decimal}
use Rattle.json.specs.Token.{Token}
use Rattle.spiel_policy.specs.Fronts.{AreEntriesNext}
use Rattle.spiel_policy.specs.Reading.{Partial, none_given}
use Rattle.spiel_policy.proofs.Fronts.{file_next}
use Rattle.spiel_policy.proofs.entrywise.take_file.Goals as goal

pub returns-then-takes_tail-clause-next : goal.returns-then-takes_tail-clause-next
returns-then-takes_tail-clause-next c =
    let tree = c.args.tree.now in
    let begun : c.args.reader.now ≡ Token.begin_object ∷ Token.key (codes "policy") ∷ Token.number (decimal 1) ∷ Token.key (codes "states") ∷ Token.begin_array ∷ c.takes_head.new.reader = grind arith in
    let entries : AreEntriesNext tree (none_given tree) 0 c.in-Some.given c.takes_head.new.reader c.take_entries.new.reader =
    subst (λ (o : Option Partial). IfSome o (λ given. AreEntriesNext tree (none_given tree) 0 given c.takes_head.new.reader c.take_entries.new.reader)) c.in-Some.is c.in_ok-given.ensures.next in
    let closed : c.take_entries.new.reader ≡ Token.end_object ∷ [] = grind arith in
    file_next tree c.in-Some.given c.args.reader.now c.takes_head.new.reader c.take_entries.new.reader begun entries closed
