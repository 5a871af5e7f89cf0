use Rattle.std.proofs.Common.{◌∙◌, ap}
use Rattle.clap.specs.Words.{app_of}
use Rattle.spiel_words.specs.Rules.{place_rule, with_rules}
use Rattle.spiel_words.proofs.Commands.{next_numbered, one_rule}
use Rattle.spiel_words.proofs.rules.with_places.Goals as goal

pub loop-index-preserved : goal.loop-index-preserved
loop-index-preserved c =
    one_rule c.loop-index.command c.in_ok-command.command c.place_arg.result _ _ _ c.loop-index.invariant c.in_ok-command.ensures c.place_arg.ensures.local c.place_arg.ensures.rule
    ∙ ap (with_rules (app_of c.args.command)) (next_numbered place_rule c.args.names.now c.loop-index.index _ c.loop-index-test.true)
