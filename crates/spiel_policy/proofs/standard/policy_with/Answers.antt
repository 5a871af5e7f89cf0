use Rattle.std.proofs.Common.{◌≡◌, ◌∷◌, ◌++◌, ◌+◌, ◌-◌, ◌*◌, ℕ, List, [], ap, sym, subst, ◌∙◌, arith, length}
use Rattle.std.specs.Prelude.{sum, All}
use Rattle.spiel_policy.specs.Profiles.{AreReduced, Fits, by_counts}
use Rattle.spiel_policy.specs.Kept.{weights_with, profile_with}
use Rattle.spiel_tree.specs.States.{states_below}
use Rattle.spiel_policy.proofs.Profiles.{by_counts_more, fits_with, reduced-weights_with, reduced_more, sum-weights_with, totals_more}
use Rattle.spiel_policy.proofs.standard.policy_with.Goals as goal

pub loop-state-preserved : goal.loop-state-preserved
loop-state-preserved c =
    let other = c.args.other in
    let tree = c.args.tree.now in
    let count = c.action_count-count.result in
    let ones : c.items.result.now ≡ weights_with count other = c.items.ensures ∙ c.in_ok-set_weights.ensures in
    let rest : c.from.result ≡ count - 1 = c.from.ensures in
    let total : 1 + other * c.from.result ≡ sum c.items.result.now = ap (λ (n : ℕ). 1 + other * n) rest ∙ sym (sum-weights_with count other c.action_count-count.ensures.some) ∙ ap sum (sym ones) in
    let reduced : AreReduced c.items.result.now = subst AreReduced (sym ones) (reduced-weights_with count other c.action_count-count.ensures.some (omega arith) c.requires) in
    let pushed : c.push.new.self ≡ c.loop-state.weights ++ c.items.result.now ∷ [] = c.in_ok-push.ensures.ok in
    let back = sym pushed in
    record {
      weights_are = pushed ∙ by_counts_more (λ n. weights_with n other) tree c.loop-state.state c.loop-state.weights c.items.result.now c.loop-state.invariant.weights_are
          (ones ∙ ap (λ (n : ℕ). weights_with n other) c.action_count-count.ensures.count);
      totals_are = c.in_ok-push-2.ensures.ok ∙ totals_more c.loop-state.weights c.loop-state.totals c.items.result.now (1 + other * c.from.result) c.loop-state.invariant.totals_are total
          ∙ ap (Rattle.std.proofs.Common.map sum) back;
      reduced = subst (All AreReduced) back (reduced_more c.loop-state.weights c.items.result.now c.loop-state.invariant.reduced reduced);
    }

pub returns-clause-fits : goal.returns-clause-fits
returns-clause-fits c =
    let tree = c.args.tree.now in
    let other = c.args.other in
    let last : c.loop-state.state ≡ length (states_below tree.players tree.rows) = omega (arith, c.loop-state-test.false, c.loop-state.auto.state-end, c.states-state-end.ensures.count) in
    let whole : c.new.result ≡ profile_with tree other = c.new.ensures ∙ c.loop-state.invariant.weights_are ∙ ap (by_counts (λ n. weights_with n other) tree) last in
    let reduced = subst (All AreReduced) (sym c.new.ensures ∙ whole) c.loop-state.invariant.reduced in
    subst (Fits tree) (sym whole) (fits_with tree other reduced)
