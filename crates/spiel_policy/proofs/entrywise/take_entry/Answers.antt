use Rattle.std.proofs.Common.{◌≡◌, ◌∷◌, List, sym, subst, arith}
use Rattle.std.specs.Prelude.{IfOk, IfSome}
use Rattle.json.specs.Token.{Token}
use Rattle.spiel_policy.specs.Fronts.{IsEntryNext}
use Rattle.spiel_policy.proofs.Fronts.{entry_found_shorter}
use Rattle.spiel_policy.proofs.entrywise.take_entry.Goals as goal

pub returns-clause-shorter : goal.returns-clause-shorter
returns-clause-shorter c =
    let left = c.take_members.new.reader in
    let begun : c.args.reader.now ≡ Token.begin_object ∷ c.takes_object.new.reader = grind arith in
    entry_found_shorter c.take_members.result c.args.reader.now left
    (subst (λ (old : List Token). IfOk c.take_members.result (λ found. IfSome found (λ entry. IsEntryNext entry old left))) (sym begun) c.take_members.ensures.next)
