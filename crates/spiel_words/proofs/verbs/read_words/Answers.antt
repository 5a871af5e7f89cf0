use Rattle.std.proofs.Common.{arith}
use Rattle.std.proofs.lemmas.Grind.{common_steps}
use Rattle.spiel_words.proofs.verbs.read_words.Goals as goal

pub returns-in-restore-clause-ok : goal.returns-in-restore-clause-ok
returns-in-restore-clause-ok c = grind (arith, common_steps)

pub returns-in-restore-clause-err : goal.returns-in-restore-clause-err
returns-in-restore-clause-err c = grind (arith, common_steps)

pub returns-in-save-clause-ok : goal.returns-in-save-clause-ok
returns-in-save-clause-ok c = grind (arith, common_steps)

pub returns-in-save-clause-err : goal.returns-in-save-clause-err
returns-in-save-clause-err c = grind (arith, common_steps)

pub returns-in-legal-clause-ok : goal.returns-in-legal-clause-ok
returns-in-legal-clause-ok c = grind (arith, common_steps)

pub returns-in-legal-clause-err : goal.returns-in-legal-clause-err
returns-in-legal-clause-err c = grind (arith, common_steps)

pub returns-in-show-clause-ok : goal.returns-in-show-clause-ok
returns-in-show-clause-ok c = grind (arith, common_steps)

pub returns-in-show-clause-err : goal.returns-in-show-clause-err
returns-in-show-clause-err c = grind (arith, common_steps)

pub returns-in-value-clause-ok : goal.returns-in-value-clause-ok
returns-in-value-clause-ok c = grind (arith, common_steps)

pub returns-in-value-clause-err : goal.returns-in-value-clause-err
returns-in-value-clause-err c = grind (arith, common_steps)

pub returns-in-policy-clause-ok : goal.returns-in-policy-clause-ok
returns-in-policy-clause-ok c = grind (arith, common_steps)

pub returns-in-policy-clause-err : goal.returns-in-policy-clause-err
returns-in-policy-clause-err c = grind (arith, common_steps)

pub returns-in-judge-clause-ok : goal.returns-in-judge-clause-ok
returns-in-judge-clause-ok c = grind (arith, common_steps)

pub returns-in-judge-clause-err : goal.returns-in-judge-clause-err
returns-in-judge-clause-err c = grind (arith, common_steps)
