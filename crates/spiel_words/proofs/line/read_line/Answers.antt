use Rattle.std.proofs.Common.{map, string_bytes}
use Rattle.clap.specs.Words.{app_of, found_of}
use Rattle.spiel_words.specs.Found.{shape_of}
use Rattle.spiel_words.proofs.Sayings.{all_texts, refused_usage, taken}
use Rattle.spiel_words.proofs.line.read_line.Goals as goal

pub returns-in_err-matches-clause-err : goal.returns-in_err-matches-clause-err
returns-in_err-matches-clause-err c =
    refused_usage (shape_of c.args.shape.now) (map string_bytes c.args.words.now) (app_of c.in_ok-command.command) c.in_ok-command.ensures c.requires (all_texts c.args.words.now)
    c.from_residual-in_err-matches.result c.in_err-matches.field-0.0 c.in_err-matches.ensures.kinds c.from_residual-in_err-matches.ensures.1

pub returns-clause-ok : goal.returns-clause-ok
returns-clause-ok c =
    taken (shape_of c.args.shape.now) (map string_bytes c.args.words.now) (app_of c.in_ok-command.command) c.in_ok-command.ensures c.requires (all_texts c.args.words.now)
    (found_of c.in_ok-matches.matches) c.in_ok-matches.ensures.kinds (λ simple. (c.in_ok-matches.ensures.matches simple).0)
