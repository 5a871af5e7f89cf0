-- The `clap` command that reads the words of a shape.
use Rattle.std.specs.Prelude.{ℕ, suc, true, Some, List, [], ◌∷◌, ◌++◌, map, codes}
use Rattle.clap.specs.Walk.{Rule, Text}
use Rattle.clap.specs.Simple.{App, new_app, new_rule, on_top}
use Rattle.clap.specs.declared.builder.action.ArgAction.TheVariants.{Set, SetTrue}
use Rattle.clap.specs.declared.builder.value_parser.ValueParser.TheVariants.{NonEmptyString}
use Rattle.spiel_words.specs.Line.{Shape}

-- the positional word number `index`, counted from 1
abbrev pub place_rule : ℕ → Text → Rule
place_rule index name = record (new_rule name) { index = Some index; required = true; action = Some Set }

abbrev pub flag_rule : Text → Rule
flag_rule name = record (new_rule name) { long = Some name; action = Some SetTrue }

-- an option whose value isn't empty
abbrev pub option_rule : Text → Rule
option_rule name = record (new_rule name) { long = Some name; action = Some Set; parser = Some NonEmptyString }

-- what is made of each name and its number
abbrev pub numbered : (ℕ → Text → Rule) → ℕ → List Text → List Rule
numbered make index [] = []
numbered make index (name ∷ names) = make index name ∷ numbered make (suc index) names

abbrev pub rules_for : Shape → List Rule
rules_for shape = numbered place_rule 1 shape.places ++ (map flag_rule shape.flags ++ map option_rule shape.options)

-- a command with no program's name before its words, and no help
abbrev pub bare : App
bare = on_top (λ top. record top { no_binary_name = true; disable_help_flag = true }) (new_app (codes "spiel"))

abbrev pub app_for : Shape → App
app_for shape = on_top (λ top. record top { rules = rules_for shape }) bare

-- the command with more rules behind those that it has
abbrev pub with_rules : App → List Rule → App
with_rules app rules = on_top (λ top. record top { rules = top.rules ++ rules }) app
