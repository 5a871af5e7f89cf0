use Rattle.spiel_words.specs.Found.{shape_of}
use Rattle.spiel_words.proofs.Commands.{whole_command}
use Rattle.spiel_words.proofs.rules.clap_command.Goals as goal

pub returns : goal.returns
returns c = whole_command (shape_of c.args.shape.now) _ c.with_options.result c.bare_command-command.result c.in_ok-command.command c.in_ok-command-2.command
    c.bare_command-command.ensures c.in_ok-command.ensures c.in_ok-command-2.ensures c.with_options.ensures
