use Rattle.std.proofs.Common.{ap, ◌∙◌, eqb, arith}
use Rattle.std.specs.List.{list_any}
use Rattle.spiel_io.proofs.Memory.{past_none, past_more}
use Rattle.spiel_io.proofs.mem_shelf.MemShelf.call_fails.Goals as goal

pub returns-clause-stays_steady : goal.returns-clause-stays_steady
returns-clause-stays_steady c = λ steady. past_more c.args.self.now.failing c.args.self.now.calls c.saturating_add-self.result (omega arith) steady

pub returns-clause-passes : goal.returns-clause-passes
returns-clause-passes c = λ steady.
    c.is_listed.ensures ∙ ap (list_any (λ n. eqb n c.args.self.now.calls)) c.items.ensures ∙ past_none c.args.self.now.failing c.args.self.now.calls steady
