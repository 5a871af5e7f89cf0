use Rattle.std.proofs.Common.{sym, subst}
use Rattle.std.specs.Prelude.{IsUtf8}
use Rattle.spiel_policy.proofs.FileText.{pushed_utf8}
use Rattle.spiel_policy.proofs.writing.push_entry.Goals as goal

pub returns-clause-utf8 : goal.returns-clause-utf8
returns-clause-utf8 c = λ before.
    pushed_utf8 c.push.result c.push_comma.new.out c.as_slice.result.now c.push.new.self (c.in_ok-push_comma.ensures.utf8 before) (subst IsUtf8 (sym c.as_slice.ensures.value) c.in_ok-entry.ensures.utf8) c.push.ensures.ok
