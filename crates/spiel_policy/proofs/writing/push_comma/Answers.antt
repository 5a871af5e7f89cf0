use Rattle.std.proofs.Common.{◌∷◌, [], refl}
use Rattle.json.proofs.Printed.Utf8.{IsUtf8-are_ascii}
use Rattle.spiel_policy.proofs.FileText.{pushed_utf8}
use Rattle.spiel_policy.proofs.writing.push_comma.Goals as goal

pub returns-then-state-gt0-clause-utf8 : goal.returns-then-state-gt0-clause-utf8
returns-then-state-gt0-clause-utf8 c = λ before. pushed_utf8 c.push.result c.args.out.now (44 ∷ []) c.push.new.self before (IsUtf8-are_ascii (44 ∷ []) refl) c.push.ensures.ok
