use Rattle.spiel_save.proofs.Answered.{answer_is_computed, is_answer}
use Rattle.spiel_save.proofs.reader.read_saved.Goals as goal

pub returns-clause-computed : goal.returns-clause-computed
returns-clause-computed c = answer_is_computed c.args.bytes.now c.read_file.result c.read_file.ensures.ok c.read_file.ensures.err

pub returns-clause-exact : goal.returns-clause-exact
returns-clause-exact c = is_answer c.args.bytes.now
