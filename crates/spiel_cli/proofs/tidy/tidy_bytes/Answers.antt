use Rattle.spiel_cli.proofs.Games.{tidied_then}
use Rattle.spiel_cli.proofs.tidy.tidy_bytes.Goals as goal

pub returns : goal.returns
returns c = tidied_then c.args.bytes.now c.in_ok-game.game.parts c.in_ok-canonical_text.field-0 c.in_ok-game.ensures c.in_ok-canonical_text.ensures
