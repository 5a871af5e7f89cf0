use Rattle.std.proofs.Common.{List, ℕ, [], Option, subst}
use Rattle.std.specs.Prelude.{IfSome}
use Rattle.json.specs.Lex.{tokens}
use Rattle.spiel_policy.specs.Fronts.{IsFileNext}
use Rattle.spiel_policy.specs.Reading.{Partial}
use Rattle.spiel_policy.proofs.Fronts.{policy_if}
use Rattle.spiel_policy.proofs.entrywise.usual_policy.Goals as goal

pub returns-in-Some-clause-answer : goal.returns-in-Some-clause-answer
returns-in-Some-clause-answer c =
    let tree = c.args.tree.now in
    let given = c.in-Some.given in
    let found : IsFileNext tree given (tokens c.in-Ok.text.now) [] =
    subst (λ (o : Option Partial). IfSome o (λ g. IsFileNext tree g (tokens c.in-Ok.text.now) [])) c.in-Some.is c.in_ok-given.ensures.next in
    policy_if tree c.args.bytes.now given c.policy_by.result c.in-Ok.ensures.cases.1 (subst (λ (bytes : List ℕ). IsFileNext tree given (tokens bytes) []) c.in-Ok.ensures.cases.0 found) c.policy_by.ensures.answer
