use Rattle.std.proofs.Common.{◌≡◌, take}
use Rattle.clap.specs.Words.{app_of}
use Rattle.spiel_words.specs.Found.{texts}
use Rattle.spiel_words.specs.Rules.{numbered, place_rule, with_rules}
use Rattle.spiel_words.proofs.rules.with_places.Given as goal

abbrev pub invariant-loop-index : goal.invariant-loop-index
invariant-loop-index l = app_of l.command ≡ with_rules (app_of l.initial.command) (numbered place_rule 1 (texts (take l.index l.names)))
