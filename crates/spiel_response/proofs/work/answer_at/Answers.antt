use Rattle.std.proofs.Common.{◌≡◌, ◌<◌, length, ap, sym, subst, ◌∙◌, arith}
use Rattle.std.specs.Prelude.{slice_index}
use Rattle.std.proofs.lemmas.List.{get_or_default}
use Rattle.spiel_tree.specs.States.{numbers_of, state_at}
use Rattle.spiel_tree.specs.Trees.{Whole}
use Rattle.spiel_response.specs.Answered.{IsAnswered, Solving}
use Rattle.spiel_response.specs.BestResponses.{count_at, response}
use Rattle.spiel_response.specs.Weighed.{IsJudgeable}
use Rattle.spiel_response.proofs.BestResponses.{response_is}
use Rattle.spiel_response.proofs.StateOrder.{state_of_player}
use Rattle.spiel_response.proofs.work.answer_at.Goals as goal

-- the index that was kept is that of the response
index_is : (c : goal.After-row_known-1) → c.index.result.now ≡ response c.args.work.now.judged (state_at c.args.work.now.judged.tree.players c.args.work.now.judged.tree.rows c.args.state).player c.args.state
index_is c =
    let j = c.args.work.now.judged in
    let answers = c.work.inside.responses.answers.items in
    let earned = c.work.inside.responses.earned.items in
    let sums = c.work.inside.responses.sums.items in
    let answered : IsAnswered c.args.work.now earned answers sums = subst (λ (s : Solving). IsAnswered s earned answers sums) c.work.view_is c.work.invariant.answered in
    let of = state_of_player j.tree.players j.tree.rows c.args.state c.requires.state in
    c.index.ensures ∙ get_or_default answers c.args.state c.index.result.now 0 (omega (arith, c.requires.state, answered.room.answers_count))
    ∙ answered.answers_are (state_at j.tree.players j.tree.rows c.args.state).player of.low c.requires.made c.args.state of.from of.to

legal : (c : goal.After-row_known-1) → c.index.result.now < count_at c.args.work.now.judged c.args.state
legal c =
    let j = c.args.work.now.judged in
    let p = (state_at j.tree.players j.tree.rows c.args.state).player in
    let ok : IsJudgeable j = subst (λ (s : Solving). IsJudgeable s.judged) c.work.view_is c.work.invariant.work.judgeable in
    let of = state_of_player j.tree.players j.tree.rows c.args.state c.requires.state in
    omega (arith, index_is c, (response_is j ok p of.low c.args.state of.from of.to).legal)

tree_is : (c : goal.After-row_known-1) → c.tree-tree.result.now ≡ c.args.work.now.judged.tree
tree_is c = c.tree-tree.ensures ∙ ap (λ (s : Solving). s.judged.tree) c.work.view_is

pub action_at-requires-clause-index : goal.action_at-requires-clause-index
action_at-requires-clause-index c = subst (λ (t : Whole). c.index.result.now < length (numbers_of t.players t.rows c.args.state)) (sym (tree_is c)) (legal c)

answer_is : (c : goal.After-action_at) → c.action_at.result ≡ slice_index (numbers_of c.args.work.now.judged.tree.players c.args.work.now.judged.tree.rows c.args.state) c.index.result.now
answer_is c =
    c.action_at.ensures
    ∙ ap (λ (t : Whole). slice_index (numbers_of t.players t.rows c.args.state) c.index.result.now) (c.tree-tree.ensures ∙ ap (λ (s : Solving). s.judged.tree) c.work.view_is)

pub returns-clause-answer : goal.returns-clause-answer
returns-clause-answer c =
    answer_is c ∙ ap (slice_index (numbers_of c.args.work.now.judged.tree.players c.args.work.now.judged.tree.rows c.args.state)) (index_is c.before)

pub returns-clause-legal : goal.returns-clause-legal
returns-clause-legal c =
    let numbers = numbers_of c.args.work.now.judged.tree.players c.args.work.now.judged.tree.rows c.args.state in
    (c.index.result.now, legal c.before, get_or_default numbers c.index.result.now c.action_at.result 0 (legal c.before) ∙ sym (answer_is c))
