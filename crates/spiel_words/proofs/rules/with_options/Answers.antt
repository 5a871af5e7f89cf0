use Rattle.std.proofs.Common.{◌∙◌, ap}
use Rattle.clap.specs.Words.{app_of}
use Rattle.spiel_words.specs.Rules.{option_rule, with_rules}
use Rattle.spiel_words.proofs.Commands.{next_rule, one_rule}
use Rattle.spiel_words.proofs.rules.with_options.Goals as goal

pub loop-name-preserved : goal.loop-name-preserved
loop-name-preserved c =
    one_rule c.loop-name.command c.in_ok-command.command c.option_arg.result _ _ _ c.loop-name.invariant c.in_ok-command.ensures c.option_arg.ensures.local c.option_arg.ensures.rule
    ∙ ap (with_rules (app_of c.args.command)) (next_rule option_rule c.args.names.now c.loop-name.name-index _ c.loop-name-test.true)
