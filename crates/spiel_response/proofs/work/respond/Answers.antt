use Rattle.std.proofs.Common.{arith, Bool, List, true, false, get_or-set_same, get_or-set_other, ◌≡◌, ◌≤◌, ap, sym, subst, ◌∙◌, ℤ, to_z, of_z, rules}
use Rattle.std.specs.Prelude.{slice_index_or, FitsSigned, nat_abs}
use Rattle.std.specs.Int.{w128}
use Rattle.std.proofs.lemmas.Int.{to_z-of_z}
use Rattle.spiel_frac.specs.Fraction.{most}
use Rattle.spiel_response.specs.Answered.{Solving, is_made}
use Rattle.spiel_response.specs.BestResponses.{best_value, response}
use Rattle.spiel_response.specs.Values.{NumbersFit}
use Rattle.spiel_response.specs.Weighed.{IsJudgeable}
use Rattle.spiel_response.proofs.Answering.{best_value_small}
use Rattle.spiel_response.proofs.BestResponses.{only_response, response_is, response_is_best}
use Rattle.spiel_response.proofs.work.respond.Goals as goal

pub returns-clause-rule : goal.returns-clause-rule
returns-clause-rule c =
    let ok : IsJudgeable c.args.work.now.judged = subst (λ (s : Solving). IsJudgeable s.judged) c.work.view_is c.work.invariant.work.judgeable in
    response_is c.args.work.now.judged ok c.args.player c.requires

pub returns-clause-only : goal.returns-clause-only
returns-clause-only c =
    let j = c.args.work.now.judged in
    let ok : IsJudgeable j = subst (λ (s : Solving). IsJudgeable s.judged) c.work.view_is c.work.invariant.work.judgeable in
    λ d obeys i from to. only_response j ok c.args.player d (response j c.args.player) obeys (response_is j ok c.args.player c.requires) i from to

pub returns-clause-best : goal.returns-clause-best
returns-clause-best c =
    let j = c.args.work.now.judged in
    let ok : IsJudgeable j = subst (λ (s : Solving). IsJudgeable s.judged) c.work.view_is c.work.invariant.work.judgeable in
    response_is_best j ok c.args.player (response j c.args.player) c.requires (response_is j ok c.args.player c.requires)

pub returns-clause-small : goal.returns-clause-small
returns-clause-small c =
    let j = c.args.work.now.judged in
    let fit : NumbersFit j = subst (λ (s : Solving). NumbersFit s.judged) c.work.view_is c.work.invariant.work.fit in
    let fits : FitsSigned w128 c.make.result = search rules in
    let is : to_z w128 (of_z w128 c.make.result) ≡ best_value j c.args.player = to_z-of_z w128 c.make.result fits ∙ c.make.ensures.earned ∙ ap (λ (s : Solving). best_value s.judged c.args.player) c.work.view_is in
    subst (λ (z : ℤ). nat_abs z ≤ most) (sym is) (best_value_small j fit c.args.player c.requires)

pub returns-clause-made : goal.returns-clause-made
returns-clause-made c =
    let made = c.work.inside.responses.made.items in
    let players : c.work.inside.table.tree.players ≡ c.args.work.now.judged.tree.players = ap (λ (s : Solving). s.judged.tree.players) c.work.view_is in
    ap (λ (xs : List Bool). slice_index_or xs c.args.player false) c.make.ensures.made
    ∙ get_or-set_same made c.args.player true false (omega (arith, c.requires, players, c.work.invariant.answered.made_count))

pub returns-clause-others : goal.returns-clause-others
returns-clause-others c = λ p other.
    let made = c.work.inside.responses.made.items in
    ap (λ (xs : List Bool). slice_index_or xs p false) c.make.ensures.made
    ∙ get_or-set_other made c.args.player p true false other ∙ ap (λ (s : Solving). is_made s p) c.work.view_is
