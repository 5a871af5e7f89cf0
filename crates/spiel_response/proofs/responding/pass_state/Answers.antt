use Rattle.std.proofs.Common.{suc, ◌+◌, ℕ, arith, subst, ◌≡◌, ◌<◌}
use Rattle.spiel_response.specs.BestResponses.{first_state}
use Rattle.spiel_response.proofs.Answering.{state_fits, state_passed}
use Rattle.spiel_response.proofs.BestResponses.{some_numbers, states_within}
use Rattle.spiel_response.proofs.OwnSlots.{parent_before}
use Rattle.spiel_response.proofs.responding.pass_state.Goals as goal

-- the state is one of the player's
to_next : (j : Rattle.spiel_response.specs.Values.Judged) (p s : ℕ) → s < first_state j (p + 1) → s < first_state j (suc p)
to_next j p s l = let next : p + 1 ≡ suc p = omega arith in subst (λ (q : ℕ). s < first_state j q) next l

pub start-requires : goal.start-requires
start-requires c = omega (arith, to_next c.args.table.now c.args.player c.args.state c.requires.to, states_within c.args.table.now c.args.player c.requires.player)

pub count-requires : goal.count-requires
count-requires c = omega (arith, to_next c.args.table.now c.args.player c.args.state c.requires.to, states_within c.args.table.now c.args.player c.requires.player)

pub parent-requires-clause-state : goal.parent-requires-clause-state
parent-requires-clause-state c = omega (arith, to_next c.args.table.now c.args.player c.args.state c.requires.to, states_within c.args.table.now c.args.player c.requires.player)

pub take_greatest-best-requires-clause-count : goal.take_greatest-best-requires-clause-count
take_greatest-best-requires-clause-count c =
    let j = c.args.table.now in
    omega (arith, c.count.ensures, some_numbers j c.requires.judgeable c.args.player c.args.state c.requires.player (to_next j c.args.player c.args.state c.requires.to))

pub take_greatest-best-requires-clause-parent : goal.take_greatest-best-requires-clause-parent
take_greatest-best-requires-clause-parent c =
    let j = c.args.table.now in
    let before = parent_before j c.requires.judgeable c.args.player c.args.state c.parent.result c.requires.player c.parent.ensures c.requires.from (to_next j c.args.player c.args.state c.requires.to) in
    omega (arith, before.0, c.start.ensures.start)

pub take_greatest-best-requires-clause-fits : goal.take_greatest-best-requires-clause-fits
take_greatest-best-requires-clause-fits c = λ a l.
    let j = c.args.table.now in
    state_fits j c.requires.judgeable c.requires.fit c.args.player c.args.state c.parent.result c.start.result a c.args.sums.now c.args.answers.now c.requires.player c.requires.from
    (to_next j c.args.player c.args.state c.requires.to) c.requires.room c.requires.later c.parent.ensures c.start.ensures.start (omega (arith, l, c.count.ensures))

pub overflow_cast-answers : goal.overflow_cast-answers
overflow_cast-answers c = omega (arith, c.take_greatest-best.ensures.greatest.best_below, c.count.type_inv)

pub bounds-answers-state : goal.bounds-answers-state
bounds-answers-state c =
    omega (arith, c.requires.room.answers_count, to_next c.args.table.now c.args.player c.args.state c.requires.to, states_within c.args.table.now c.args.player c.requires.player)

pub returns-clause-here : goal.returns-clause-here
returns-clause-here c =
    let j = c.args.table.now in
    state_passed j c.requires.judgeable c.args.player c.args.state c.parent.result c.start.result c.count.result c.take_greatest-best.result c.args.sums.now c.take_greatest-best.new.sums c.args.answers.now
    c.requires.player c.requires.from (to_next j c.args.player c.args.state c.requires.to) c.requires.room c.requires.later c.parent.ensures c.start.ensures.start c.count.ensures c.take_greatest-best.ensures.greatest c.take_greatest-best.ensures.sums
