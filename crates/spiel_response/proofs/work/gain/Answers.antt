use Rattle.std.proofs.Common.{◌≡◌, ◌≤◌, ℤ, ap, ap₂, sym, subst, ◌∙◌, arith, rules, to_z, of_z, pos, ◌-ℤ◌}
use Rattle.std.specs.Prelude.{FitsSigned, nat_abs}
use Rattle.std.specs.Int.{w128}
use Rattle.std.proofs.lemmas.Int.{ints, to_z-of_z}
use Rattle.std.proofs.lemmas.List.{get_or_default}
use Rattle.spiel_response.specs.Answered.{IsAnswered, Solving}
use Rattle.spiel_response.specs.BestResponses.{best_value}
use Rattle.spiel_response.specs.Values.{NumbersFit, size_for, value_of}
use Rattle.spiel_response.proofs.Gains.{gain_small}
use Rattle.spiel_response.proofs.LeafSums.{size_below-le}
use Rattle.spiel_response.proofs.work.gain.Goals as goal

-- what is subtracted is what the player gains
gain_is : (c : goal.After-value) → to_z w128 (of_z w128 c.index.result.now) -ℤ to_z w128 (of_z w128 c.value.result) ≡ best_value c.args.work.now.judged c.args.player -ℤ value_of c.args.work.now.judged c.args.player
gain_is c =
    let j = c.args.work.now.judged in
    let p = c.args.player in
    let earned = c.work.inside.responses.earned.items in
    let answered : IsAnswered c.args.work.now earned c.work.inside.responses.answers.items c.work.inside.responses.sums.items =
    subst (λ (s : Solving). IsAnswered s earned c.work.inside.responses.answers.items c.work.inside.responses.sums.items) c.work.view_is c.work.invariant.answered in
    let fits : FitsSigned w128 c.index.result.now = search rules in
    let fits_value : FitsSigned w128 c.value.result = search rules in
    let best : c.index.result.now ≡ best_value j p =
    c.index.ensures ∙ get_or_default earned p c.index.result.now (pos 0) (omega (arith, c.requires.player, answered.earned_count)) ∙ answered.earned_is p c.requires.player c.requires.made in
    ap₂ (λ (a b : ℤ). a -ℤ b) (to_z-of_z w128 c.index.result.now fits ∙ best) (to_z-of_z w128 c.value.result fits_value ∙ c.value.ensures.value)

gain_fits : (c : goal.After-value) → FitsSigned w128 (to_z w128 (of_z w128 c.index.result.now) -ℤ to_z w128 (of_z w128 c.value.result))
gain_fits c =
    let j = c.args.work.now.judged in
    let fit : NumbersFit j = subst (λ (s : Solving). NumbersFit s.judged) c.work.view_is c.work.invariant.work.fit in
    let size = ap nat_abs (gain_is c) in
    omega (arith, ints, size, gain_small j c.args.player, size_below-le j j.tree.players c.args.player c.requires.player, fit.sizes)

pub overflow_sub-result : goal.overflow_sub-result
overflow_sub-result c = gain_fits c

pub returns-clause-gain : goal.returns-clause-gain
returns-clause-gain c = to_z-of_z w128 _ (gain_fits c) ∙ gain_is c

pub returns-clause-size : goal.returns-clause-size
returns-clause-size c = subst (λ (z : ℤ). nat_abs z ≤ size_for c.args.work.now.judged c.args.player) (sym (to_z-of_z w128 _ (gain_fits c) ∙ gain_is c)) (gain_small c.args.work.now.judged c.args.player)
