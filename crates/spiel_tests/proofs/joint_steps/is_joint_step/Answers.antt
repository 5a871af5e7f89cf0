use Rattle.std.proofs.Common.{◌∙◌}
use Rattle.spiel_test_games.specs.StakesLaws.{both_choose}
use Rattle.spiel_tests.proofs.joint_steps.is_joint_step.Goals as goal

-- the copy stands behind the stake, as the first state does
pub apply_joint-requires-clause-choice : goal.apply_joint-requires-clause-choice
apply_joint-requires-clause-choice c =
    both_choose _ 1 _ _ (c.in_ok-state.ensures.history ∙ c.requires.behind) c.requires.first c.requires.second
