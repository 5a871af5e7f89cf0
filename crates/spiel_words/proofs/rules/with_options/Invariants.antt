use Rattle.std.proofs.Common.{◌≡◌, map, take}
use Rattle.clap.specs.Words.{app_of}
use Rattle.spiel_words.specs.Found.{texts}
use Rattle.spiel_words.specs.Rules.{option_rule, with_rules}
use Rattle.spiel_words.proofs.rules.with_options.Given as goal

abbrev pub invariant-loop-name : goal.invariant-loop-name
invariant-loop-name l = app_of l.command ≡ with_rules (app_of l.initial.command) (map option_rule (texts (take l.name-index l.names)))
