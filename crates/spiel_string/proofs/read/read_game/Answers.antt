use Rattle.spiel_string.proofs.OneAnswer.{value_is_given, fault_is_answered}
use Rattle.spiel_string.proofs.Answered.{answer_is_computed, is_answer}
use Rattle.spiel_string.proofs.WellRead.{answer_is_well}
use Rattle.spiel_string.proofs.read.read_game.Goals as goal

pub returns-clause-read : goal.returns-clause-read
returns-clause-read c = value_is_given c.args.text.now c.read_text.result c.read_text.ensures.ok c.read_text.ensures.err

pub returns-clause-fault : goal.returns-clause-fault
returns-clause-fault c = fault_is_answered c.args.text.now c.read_text.result c.read_text.ensures.ok c.read_text.ensures.err

pub returns-clause-well_formed : goal.returns-clause-well_formed
returns-clause-well_formed c = answer_is_well c.args.text.now c.read_text.result c.read_text.ensures.ok

pub returns-clause-computed : goal.returns-clause-computed
returns-clause-computed c = answer_is_computed c.args.text.now c.read_text.result c.read_text.ensures.ok c.read_text.ensures.err

pub returns-clause-exact : goal.returns-clause-exact
returns-clause-exact c = is_answer c.args.text.now
