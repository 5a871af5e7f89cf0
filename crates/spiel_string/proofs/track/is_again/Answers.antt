use Rattle.std.proofs.Common.{rules}
use Rattle.spiel_string.proofs.OpenBrackets.{again_in_last}
use Rattle.spiel_string.proofs.track.is_again.Goals as goal

pub returns-in-Some : goal.returns-in-Some
returns-in-Some c =
    again_in_last c.args.kept.now c.in-Some.frame.now c.bytes.result.now c.has_key.result (search rules) c.bytes.ensures (search rules)
