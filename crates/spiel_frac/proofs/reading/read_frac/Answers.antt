use Rattle.std.proofs.Common.{◌≡◌}
use Rattle.spiel_frac.specs.Reading.{frac_of}
use Rattle.spiel_frac.proofs.ReadBack.{frac_of-ratio, frac_of-scaled, frac_of-frac_text, shape-is, spelled-is}
use Rattle.spiel_frac.proofs.reading.read_frac.Goals as goal

ratio_is : (c : goal.After-read_ratio) → c.read_ratio.result ≡ frac_of c.args.text.now
ratio_is c = frac_of-ratio c.read_ratio.result c.args.text.now c.behind_sign-size.result.now c.in-Some.above.now c.in-Some.below.now c.is_negative-negative.result c.is_negative-negative.ensures c.behind_sign-size.ensures c.in-Some.ensures.sides c.read_ratio.ensures

scaled_is : (c : goal.After-read_scaled) → c.read_scaled.result ≡ frac_of c.args.text.now
scaled_is c = frac_of-scaled c.read_scaled.result c.args.text.now c.behind_sign-size.result.now c.is_negative-negative.result c.is_negative-negative.ensures c.behind_sign-size.ensures c.in-None.ensures.sides c.read_scaled.ensures

pub returns-in-Some-clause-value : goal.returns-in-Some-clause-value
returns-in-Some-clause-value c = ratio_is c

pub returns-in-Some-clause-spelled : goal.returns-in-Some-clause-spelled
returns-in-Some-clause-spelled c = spelled-is c.read_ratio.result c.args.text.now (ratio_is c)

pub returns-in-Some-clause-shape : goal.returns-in-Some-clause-shape
returns-in-Some-clause-shape c = shape-is c.read_ratio.result c.args.text.now (ratio_is c)

pub returns-in-Some-clause-reads_back : goal.returns-in-Some-clause-reads_back
returns-in-Some-clause-reads_back c = λ f low short same. frac_of-frac_text c.read_ratio.result c.args.text.now f (ratio_is c) low short same

pub returns-in-None-clause-value : goal.returns-in-None-clause-value
returns-in-None-clause-value c = scaled_is c

pub returns-in-None-clause-spelled : goal.returns-in-None-clause-spelled
returns-in-None-clause-spelled c = spelled-is c.read_scaled.result c.args.text.now (scaled_is c)

pub returns-in-None-clause-shape : goal.returns-in-None-clause-shape
returns-in-None-clause-shape c = shape-is c.read_scaled.result c.args.text.now (scaled_is c)

pub returns-in-None-clause-reads_back : goal.returns-in-None-clause-reads_back
returns-in-None-clause-reads_back c = λ f low short same. frac_of-frac_text c.read_scaled.result c.args.text.now f (scaled_is c) low short same
