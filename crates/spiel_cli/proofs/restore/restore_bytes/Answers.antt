use Rattle.spiel_cli.specs.Restore.{played_of}
use Rattle.spiel_cli.proofs.Games.{shown_then}
use Rattle.spiel_cli.proofs.restore.restore_bytes.Goals as goal

pub returns-clause-follows : goal.returns-clause-follows
returns-clause-follows g c =
    shown_then c.args.bytes.now (played_of c.in_ok-saved.saved) _ _ c.show_saved.result
    c.in_ok-saved.ensures.agrees c.show_saved.ensures.follows
