use Rattle.std.proofs.Common.{◌≡◌, ◌≤◌, ◌+◌, ◌∙◌, ℕ, suc, arith, ap, sym, subst, to_z, of_z, pos, ℤ}
use Rattle.std.specs.Prelude.{FitsSigned, nat_abs, slice_index_or}
use Rattle.std.specs.Int.{w128}
use Rattle.std.proofs.lemmas.Int.{ints, to_z-of_z}
use Rattle.spiel_tree.proofs.StateNumbers.{one_player_more}
use Rattle.spiel_response.specs.Answered.{IsPassed}
use Rattle.spiel_response.specs.BestResponses.{first_state}
use Rattle.spiel_response.proofs.Answering.{best_value_small, passed_answers, passed_earned, passed_start}
use Rattle.spiel_response.proofs.responding.pass_back.Goals as goal

pub loop-state-init : goal.loop-state-init
loop-state-init c =
    let j = c.args.table.now in
    let p = c.args.player in
    let next : suc p ≡ p + 1 = omega arith in
    let high : first_state j (suc p) ≡ c.args.high = ap (first_state j) next ∙ sym c.requires.high in
    record {
      least = omega (arith, high, c.requires.low, one_player_more p j.tree.rows);
      room = c.requires.room;
      passed = subst (λ (b : ℕ). IsPassed j p b c.args.sums.now c.args.answers.now) high (passed_start j c.requires.judgeable p c.args.sums.now c.args.answers.now c.requires.player c.requires.sums);
      others = λ i h. Rattle.std.proofs.Common.refl;
    }

last : (c : goal.After-result-1) → IsPassed c.args.table.now c.args.player (first_state c.args.table.now c.args.player) c.loop-state.sums c.loop-state.answers
last c =
    let done : c.loop-state.state ≡ first_state c.args.table.now c.args.player = omega (arith, c.requires.low, c.loop-state.invariant.least, c.loop-state-test.false) in
    subst (λ (b : ℕ). IsPassed c.args.table.now c.args.player b c.loop-state.sums c.loop-state.answers) done c.loop-state.invariant.passed

pub returns-clause-answers : goal.returns-clause-answers
returns-clause-answers c = passed_answers c.args.table.now c.requires.judgeable c.args.player c.loop-state.sums c.loop-state.answers c.requires.player (last c)

pub returns-clause-earned : goal.returns-clause-earned
returns-clause-earned c =
    let j = c.args.table.now in
    let p = c.args.player in
    let done : c.loop-state.state ≡ first_state j p = omega (arith, c.requires.low, c.loop-state.invariant.least, c.loop-state-test.false) in
    let passed = subst (λ (b : ℕ). IsPassed j p b c.loop-state.sums c.loop-state.answers) done c.loop-state.invariant.passed in
    let is = passed_earned j c.requires.judgeable p c.loop-state.sums c.loop-state.answers c.requires.player passed in
    let small = best_value_small j c.requires.fit p c.requires.player in
    let size = ap nat_abs is in
    let fits : FitsSigned w128 (slice_index_or c.loop-state.sums p (pos 0)) = omega (arith, ints, size, small) in
    to_z-of_z w128 (slice_index_or c.loop-state.sums p (pos 0)) fits ∙ is
