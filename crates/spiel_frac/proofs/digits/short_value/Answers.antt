use Rattle.std.proofs.Common.{◌≡◌, ◌∙◌, arith}
use Rattle.std.specs.Str.Parse.{digits_value}
use Rattle.spiel_frac.proofs.Numerals.{digits_small, short_parsed}
use Rattle.spiel_frac.proofs.digits.short_value.Goals as goal

value_is : (c : goal.After-unwrap_or) → c.unwrap_or.result ≡ digits_value 10 c.args.digits.now
value_is c = c.unwrap_or.ensures ∙ short_parsed c.args.digits.now c.parsed.result c.requires.digits c.requires.short c.parsed.ensures

pub returns-clause-value : goal.returns-clause-value
returns-clause-value c = value_is c

pub returns-clause-small : goal.returns-clause-small
returns-clause-small c = let value = value_is c in let small = digits_small c.args.digits.now c.requires.digits in omega (arith, value, small)
