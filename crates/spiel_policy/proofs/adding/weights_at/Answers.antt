use Rattle.std.proofs.Common.{◌∙◌, sym, ap, subst, arith, ℕ, Option, map}
use Rattle.std.specs.Prelude.{All, IfSome, option_map}
use Rattle.spiel_tree.specs.States.{numbers_of}
use Rattle.spiel_policy.specs.Weighing.{IsPart, pair_for}
use Rattle.spiel_policy.specs.declared.entries.Pair.{Pair}
use Rattle.spiel_policy.specs.declared.fault.PolicyFault.TheVariants.{Sum}
use Rattle.spiel_tree.proofs.GameNumbers.{numbers_rise}
use Rattle.spiel_policy.proofs.Reduced.{IsTable, parts_divide, small_whole-is, table_is, weights_reduced}
use Rattle.spiel_policy.proofs.Steps.{ok_reduced}
use Rattle.spiel_policy.proofs.Weights.{whole_positive}
use Rattle.spiel_policy.proofs.adding.weights_at.Goals as goal

pub choices_of-requires-clause-rising : goal.choices_of-requires-clause-rising
choices_of-requires-clause-rising c = numbers_rise c.args.tree.now c.requires.game c.args.state c.requires.state

pub weights_of_whole-requires-clause-positive : goal.weights_of_whole-requires-clause-positive
weights_of_whole-requires-clause-positive c =
    let pairs = c.args.pairs.now in
    let is = small_whole-is pairs c.in_ok-whole.whole (sym c.in_ok-whole.ensures.ok_part ∙ c.whole_weight.ensures) in
    omega (arith, is.is, whole_positive pairs c.requires.fair)

pub weights_of_whole-requires-clause-parts : goal.weights_of_whole-requires-clause-parts
weights_of_whole-requires-clause-parts c =
    let pairs = c.args.pairs.now in
    let numbers = numbers_of c.args.tree.now.players c.args.tree.now.rows c.args.state in
    let is = small_whole-is pairs c.in_ok-whole.whole (sym c.in_ok-whole.ensures.ok_part ∙ c.whole_weight.ensures) in
    let table = table_is numbers pairs c.in_ok-choices.choices.items (ap (option_map (λ t. t.items)) (sym c.in_ok-choices.ensures.ok_part) ∙ c.in_ok-found.ensures) in
    subst (All (λ (choice : Option Pair). IfSome choice (IsPart c.in_ok-whole.whole))) (sym (c.as_slice.ensures.value ∙ table.is))
    (subst (λ (n : ℕ). All (λ (choice : Option Pair). IfSome choice (IsPart n)) (map (pair_for pairs) numbers)) (sym is.is) (parts_divide pairs numbers c.requires.fair))

pub returns-clause-reduced : goal.returns-clause-reduced
returns-clause-reduced c =
    let pairs = c.args.pairs.now in
    let numbers = numbers_of c.args.tree.now.players c.args.tree.now.rows c.args.state in
    let is = small_whole-is pairs c.in_ok-whole.whole (sym c.in_ok-whole.ensures.ok_part ∙ c.whole_weight.ensures) in
    let table = table_is numbers pairs c.in_ok-choices.choices.items (ap (option_map (λ t. t.items)) (sym c.in_ok-choices.ensures.ok_part) ∙ c.in_ok-found.ensures) in
    let seen : IsTable numbers pairs c.as_slice.result.now = record { is = c.as_slice.ensures.value ∙ table.is; choices = table.choices } in
    ok_reduced c.in_ok-weights_of_whole.field-0 (Sum c.args.number) c.ok_or-3.result c.ok_or-3.ensures.value
    (λ weights e. weights_reduced numbers pairs c.as_slice.result.now c.in_ok-whole.whole weights c.requires.fair seen is (e ∙ c.in_ok-weights_of_whole.ensures))
