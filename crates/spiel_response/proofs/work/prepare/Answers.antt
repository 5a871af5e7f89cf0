use Rattle.std.proofs.Common.{arith, ◌≡◌, ◌≤◌, ◌*◌, ℕ, ℤ, length, false, ap, ap₂, subst, ◌∙◌, rules, pos, ◌*ℤ◌}
use Rattle.std.specs.Prelude.{FitsSigned, nat_abs, replicate}
use Rattle.std.specs.Int.{w64, w128}
use Rattle.std.proofs.lemmas.Int.{to_z-of_z}
use Rattle.spiel_frac.specs.Fraction.{most}
use Rattle.std.proofs.lemmas.Grind.{common_steps}
use Rattle.spiel_response.specs.Reach.{scale_of}
use Rattle.spiel_response.specs.SlotTable.{AreSlotSums}
use Rattle.spiel_response.specs.Values.{Judged, denominator_of, size_below, values_below}
use Rattle.spiel_response.specs.Weighed.{IsJudgeable}
use Rattle.spiel_response.proofs.Answered.{nothing_answered}
use Rattle.spiel_response.proofs.work.prepare.Goals as goal

pub invariant_of-result-2 : goal.invariant_of-result-2
invariant_of-result-2 c =
    let j : Judged = record { tree = c.args.tree.now; profile = c.args.policy.now } in
    let fits : FitsSigned w128 c.in-Some.total = search rules in
    let same = c.new-weighed.ensures.judged in
    let sums = c.in_ok-gathered.gathered.sums.items in
    let gathered : AreSlotSums j j.tree.players c.in_ok-gathered.gathered.starts sums c.in_ok-gathered.gathered.parents.items =
    subst (λ (w : Judged). AreSlotSums w w.tree.players c.in_ok-gathered.gathered.starts sums c.in_ok-gathered.gathered.parents.items) same c.in_ok-gathered.ensures in
    let long : c.len.result ≡ length sums = search rules in
    let whole : FitsSigned w64 c.unit.result = search rules in
    let total : c.in-Some.total ≡ denominator_of j =
    c.in-Some.ensures.some.0 ∙ ap₂ (λ (n : ℕ) (z : ℤ). pos n *ℤ z)
    (c.in_ok-scale.ensures.ok.0 ∙ ap (λ (w : Judged). scale_of w.tree.rows w.profile) same) (to_z-of_z w64 c.unit.result whole ∙ c.unit.ensures) in
    record {
      work = record {
        judgeable = subst IsJudgeable same c.new-weighed.ensures.judgeable;
        fit = record {
          denominator = subst (λ (z : ℤ). 2 * nat_abs z ≤ most) total c.in-Some.ensures.some.1;
          sizes = subst (λ (w : Judged). size_below w w.tree.players ≤ most) same c.in_ok-values.ensures.sizes;
        };
        total_is = to_z-of_z w128 c.in-Some.total fits ∙ total;
        values_are = c.in_ok-values.ensures.values ∙ ap (λ (w : Judged). values_below w w.tree.players) same;
      };
      answered = nothing_answered j c.in_ok-responses.responses.made.items c.in_ok-responses.responses.earned.items c.in_ok-responses.responses.answers.items c.in_ok-responses.responses.sums.items
          (c.in_ok-responses.ensures.made ∙ ap (λ (n : ℕ). replicate n false) c.players.ensures)
          (c.in_ok-responses.ensures.earned ∙ c.players.ensures)
          (record { sums_count = c.in_ok-responses.ensures.sums ∙ long ∙ gathered.sums_are.count; answers_count = c.in_ok-responses.ensures.answers ∙ c.states-states.ensures.count });
    }

pub returns-clause-judged : goal.returns-clause-judged
returns-clause-judged c = grind (arith, common_steps)

pub returns-clause-none_made : goal.returns-clause-none_made
returns-clause-none_made c = grind (arith, common_steps)

pub returns-clause-fits : goal.returns-clause-fits
returns-clause-fits c = grind (arith, common_steps)

pub returns-in_default-clause-fault : goal.returns-in_default-clause-fault
returns-in_default-clause-fault c = grind (arith, common_steps)

pub returns-in_err-values-clause-fault : goal.returns-in_err-values-clause-fault
returns-in_err-values-clause-fault c = grind (arith, common_steps)

pub returns-in_err-scale-clause-fault : goal.returns-in_err-scale-clause-fault
returns-in_err-scale-clause-fault c = grind (arith, common_steps)
