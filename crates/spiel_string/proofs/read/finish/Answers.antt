use Rattle.std.proofs.Common.{◌≡◌, rules, true, false}
use Rattle.spiel_string.specs.Modes.{may_end}
use Rattle.spiel_string.proofs.Finish.{found, not_ended, too_deep, repeated, is_read}
use Rattle.spiel_string.proofs.read.finish.Goals as goal

pub returns-then-not-may_end-clause-err : goal.returns-then-not-may_end-clause-err
returns-then-not-may_end-clause-err c =
    let ends : may_end c.args.reader.mode ≡ false = search rules in (c.requires.short, not_ended c.args.text.now c.args.reader c.requires.stands ends)

pub returns-then-reader-gt-MOST_BRACKETS-clause-err : goal.returns-then-reader-gt-MOST_BRACKETS-clause-err
returns-then-reader-gt-MOST_BRACKETS-clause-err c =
    let ends : may_end c.args.reader.mode ≡ true = search rules in
    too_deep c.args.text.now c.args.reader c.requires.short (found c.args.text.now c.args.reader c.requires.stands ends) (search rules)

pub returns-in-Some-clause-err : goal.returns-in-Some-clause-err
returns-in-Some-clause-err c =
    let ends : may_end c.args.reader.mode ≡ true = search rules in
    repeated c.args.text.now c.args.reader c.in-Some.at c.requires.short (found c.args.text.now c.args.reader c.requires.stands ends) (search rules) c.in-Some.is

pub returns-clause-ok : goal.returns-clause-ok
returns-clause-ok c =
    let ends : may_end c.args.reader.mode ≡ true = search rules in
    is_read c.args.text.now c.args.reader _ c.requires.short (found c.args.text.now c.args.reader c.requires.stands ends) (search rules) c.in_default.is c.game_read.ensures
