use Rattle.std.proofs.Common.{◌<◌, ◌∙◌, ap, sym, subst, arith, length, ℕ, Option}
use Rattle.std.specs.Prelude.{IfSome, count_by, is_some}
use Rattle.spiel_tree.specs.States.{numbers_of, states_below}
use Rattle.spiel_policy.specs.Reading.{Partial}
use Rattle.spiel_policy.proofs.GivenWeights.{counted_free}
use Rattle.spiel_policy.proofs.Steps.{for_more, weights_long}
use Rattle.spiel_policy.proofs.adding.add_entry.Goals as goal

pub returns-clause-for_tree : goal.returns-clause-for_tree
returns-clause-for_tree c =
    let tree = c.args.tree.now in
    let state = c.in_ok-state.state in
    let weights = c.in_ok-weights.weights in
    let there : state < length (states_below tree.players tree.rows) =
    subst (λ (o : Option ℕ). IfSome o (λ s. s < length (states_below tree.players tree.rows))) c.in_ok-state.ensures.ok_part c.state_named.ensures.within in
    for_more tree c.args.given.now c.add.new.self state c.items-2.result.now c.requires.for_tree (omega (arith, there, c.requires.for_tree.states))
    (ap length c.items-2.ensures ∙ weights_long (numbers_of tree.players tree.rows state) c.args.number c.items.result.now weights c.in_ok-weights.ensures.answer)
    c.in_ok-add.ensures

pub returns-clause-counted : goal.returns-clause-counted
returns-clause-counted c =
    let tree = c.args.tree.now in
    let state = c.in_ok-state.state in
    let there : state < length (states_below tree.players tree.rows) =
    subst (λ (o : Option ℕ). IfSome o (λ s. s < length (states_below tree.players tree.rows))) c.in_ok-state.ensures.ok_part c.state_named.ensures.within in
    ap (λ (given : Partial). count_by is_some given) c.in_ok-add.ensures
    ∙ counted_free c.args.given.now state c.items-2.result.now (omega (arith, there, c.requires.for_tree.states)) (sym c.has.ensures ∙ c.if-has.false)
