use Rattle.std.proofs.Common.{arith, ap, ◌∙◌, refl, List, ℕ, Option, None}
use Rattle.std.proofs.lemmas.Grind.{common_steps}
use Rattle.std.specs.Prelude.{replicate}
use Rattle.spiel_tree.specs.States.{numbers_of}
use Rattle.spiel_policy.specs.declared.entries.Pair.{Pair}
use Rattle.spiel_policy.proofs.Choices.{empty_is}
use Rattle.spiel_policy.proofs.weighing.choices_of.Goals as goal

pub loop-pair-init : goal.loop-pair-init
loop-pair-init c =
    let empty : ℕ → List (Option Pair) = λ n. replicate n None in
    record {
      table = c.in_ok-table.ensures ∙ ap empty c.action_count.ensures.count ∙ empty_is (numbers_of c.args.tree.now.players c.args.tree.now.rows c.args.state);
      rest = refl;
    }

pub loop-pair-preserved : goal.loop-pair-preserved
loop-pair-preserved c = grind (arith, common_steps)

pub returns-then-not-note : goal.returns-then-not-note
returns-then-not-note c = grind (arith, common_steps)

pub returns : goal.returns
returns c = grind (arith, common_steps)
