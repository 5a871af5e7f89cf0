use Rattle.std.proofs.Common.{map}
use Rattle.std.specs.Prelude.{string_bytes}
use Rattle.spiel_cli.specs.Outcome.{plan_of}
use Rattle.spiel_cli.proofs.Completion.{completed, front_taken, nothing_said, nothing_written, read_fault_only, read_fault_seen, says_status, write_fault_only, write_fault_seen}
use Rattle.spiel_cli.proofs.Judgements.{has_judged, judged_told, report_comes}
use Rattle.spiel_cli.proofs.top.run.Goals as goal

pub returns-clause-outcome : goal.returns-clause-outcome
returns-clause-outcome g c = λ files known read write.
    completed (plan_of (map string_bytes c.args.words.now)) _ files c.write_answer.result _ _ _ _ known _ _ c.answer-answer.result
    c.answer-answer.ensures.follows.agrees c.answer-answer.ensures.follows.cause c.write_answer.ensures read write

pub returns-clause-front : goal.returns-clause-front
returns-clause-front g c = λ files known late.
    front_taken (plan_of (map string_bytes c.args.words.now)) _ files c.write_answer.result _ _ _ _ known c.answer-answer.result
    c.answer-answer.ensures.follows.agrees c.write_answer.ensures late

pub returns-clause-headline : goal.returns-clause-headline
returns-clause-headline g c = λ game policy brief files case is known given fits read write.
    report_comes (map string_bytes c.args.words.now) game policy brief _ files case c.write_answer.result _ _ _ _ is known given fits
    (completed (plan_of (map string_bytes c.args.words.now)) _ files c.write_answer.result _ _ _ _ known _ _ c.answer-answer.result
    c.answer-answer.ensures.follows.agrees c.answer-answer.ensures.follows.cause c.write_answer.ensures read write)
    (has_judged game policy brief _ c.answer-answer.result c.write_answer.result _ _ _ _
    (judged_told (map string_bytes c.args.words.now) game policy brief _ c.answer-answer.result is c.answer-answer.ensures.report) c.write_answer.ensures)

pub returns-clause-judged : goal.returns-clause-judged
returns-clause-judged g c = λ game policy brief is zero.
    has_judged game policy brief _ c.answer-answer.result c.write_answer.result _ _ _ _
    (judged_told (map string_bytes c.args.words.now) game policy brief _ c.answer-answer.result is c.answer-answer.ensures.report) c.write_answer.ensures zero

pub returns-clause-read_only : goal.returns-clause-read_only
returns-clause-read_only g c = read_fault_only c.write_answer.result _ _ _ _ _ _ c.answer-answer.result c.answer-answer.ensures.follows.cause c.write_answer.ensures

pub returns-clause-read_seen : goal.returns-clause-read_seen
returns-clause-read_seen g c = read_fault_seen c.write_answer.result _ _ _ _ _ _ c.answer-answer.result c.answer-answer.ensures.follows.cause c.write_answer.ensures

pub returns-clause-write_only : goal.returns-clause-write_only
returns-clause-write_only g c = write_fault_only c.write_answer.result _ _ _ _ c.answer-answer.result c.write_answer.ensures

pub returns-clause-write_seen : goal.returns-clause-write_seen
returns-clause-write_seen g c = write_fault_seen c.write_answer.result _ _ _ _ c.answer-answer.result c.write_answer.ensures

pub returns-clause-nothing : goal.returns-clause-nothing
returns-clause-nothing g c = nothing_written c.write_answer.result _ _ _ _ c.answer-answer.result c.write_answer.ensures

pub returns-clause-silent : goal.returns-clause-silent
returns-clause-silent g c = nothing_said c.write_answer.result _ _ _ _ c.answer-answer.result c.write_answer.ensures

pub returns-clause-message : goal.returns-clause-message
returns-clause-message g c = says_status c.write_answer.result _ _ _ _ c.answer-answer.result c.write_answer.ensures
