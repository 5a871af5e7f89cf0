use Rattle.std.proofs.Common.{◌≡◌, subst}
use Rattle.std.specs.Prelude.{IfOk, string_bytes}
use Rattle.spiel_frac.specs.Fraction.{Fraction, frac_text, ratio_text}
use Rattle.spiel_policy.proofs.writing.ratio.Goals as goal

pub returns : goal.returns
unfolding ratio_text
returns c = subst (λ (f : Fraction). IfOk c.frac_string.result (λ text. string_bytes text ≡ frac_text f)) c.fraction_of.ensures c.frac_string.ensures
