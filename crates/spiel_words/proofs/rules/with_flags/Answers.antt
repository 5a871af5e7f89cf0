use Rattle.std.proofs.Common.{◌∙◌, ap}
use Rattle.clap.specs.Words.{app_of}
use Rattle.spiel_words.specs.Rules.{flag_rule, with_rules}
use Rattle.spiel_words.proofs.Commands.{next_rule, one_rule}
use Rattle.spiel_words.proofs.rules.with_flags.Goals as goal

pub loop-name-preserved : goal.loop-name-preserved
loop-name-preserved c =
    one_rule c.loop-name.command c.in_ok-command.command c.flag_arg.result _ _ _ c.loop-name.invariant c.in_ok-command.ensures c.flag_arg.ensures.local c.flag_arg.ensures.rule
    ∙ ap (with_rules (app_of c.args.command)) (next_rule flag_rule c.args.names.now c.loop-name.name-index _ c.loop-name-test.true)
