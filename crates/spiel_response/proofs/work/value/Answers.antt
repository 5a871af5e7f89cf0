use Rattle.std.proofs.Common.{◌≡◌, ap, sym, subst, ◌∙◌, length, to_z, of_z, rules, arith}
use Rattle.std.specs.Prelude.{FitsSigned, ℤ, pos, nat_abs, slice_index_or, ◌≤◌}
use Rattle.std.specs.Int.{w128}
use Rattle.std.proofs.lemmas.Int.{to_z-of_z}
use Rattle.spiel_frac.specs.Fraction.{most}
use Rattle.spiel_response.specs.Answered.{Solving}
use Rattle.spiel_response.specs.Values.{value_of}
use Rattle.spiel_response.specs.Weighed.{IsWork}
use Rattle.spiel_response.proofs.Fitting.{length-values_below, value_at, value_small}
use Rattle.spiel_response.proofs.work.value.Goals as goal

work_is : (c : goal.After-result-1) → IsWork c.args.work.now.judged c.work.inside.total c.work.inside.values
work_is c = subst (λ (s : Solving). IsWork s.judged c.work.inside.total c.work.inside.values) c.work.view_is c.work.invariant.work

value_is : (c : goal.After-result-1) → to_z w128 (of_z w128 (slice_index_or c.items.result.now c.args.player (pos 0))) ≡ value_of c.args.work.now.judged c.args.player
value_is c =
    let j = c.args.work.now.judged in
    let fits : FitsSigned w128 (slice_index_or c.items.result.now c.args.player (pos 0)) = search rules in
    to_z-of_z w128 _ fits ∙ ap (λ xs. slice_index_or xs c.args.player (pos 0)) (c.items.ensures ∙ (work_is c).values_are) ∙ value_at j j.tree.players c.args.player c.requires

pub bounds-items-player : goal.bounds-items-player
bounds-items-player c =
    let j = c.args.work.now.judged in
    let work : IsWork j c.work.inside.total c.work.inside.values = subst (λ (s : Solving). IsWork s.judged c.work.inside.total c.work.inside.values) c.work.view_is c.work.invariant.work in
    omega (arith, ap length c.items.ensures, ap length work.values_are, length-values_below j j.tree.players, c.requires)

pub returns-clause-value : goal.returns-clause-value
returns-clause-value c = value_is c

pub returns-clause-small : goal.returns-clause-small
returns-clause-small c = subst (λ (z : ℤ). nat_abs z ≤ most) (sym (value_is c)) (value_small c.args.work.now.judged c.args.player c.requires (work_is c).fit)
