use Rattle.std.proofs.Common.{ap}
use Rattle.std.specs.Option.{ok_or}
use Rattle.serde_json.specs.View.{view}
use Rattle.spiel_policy.specs.declared.fault.PolicyFault.TheVariants.{Json}
use Rattle.spiel_policy.proofs.JsonBytes.{json_of-none, json_of-some}
use Rattle.spiel_policy.proofs.heads.json_of.Goals as goal

pub returns-in-Ok : goal.returns-in-Ok
returns-in-Ok c = ap (λ found. ok_or found Json) (json_of-some c.args.bytes.now (view c.in-Ok.value) c.in-Ok.ensures.ok.0 c.in-Ok.ensures.ok.1)

pub returns-else-is_memory : goal.returns-else-is_memory
returns-else-is_memory c =
    ap (λ found. ok_or found Json) (json_of-none c.args.bytes.now (c.in-Err.ensures.err (λ memory. let is = c.is_memory.ensures.1 memory in cc)))
