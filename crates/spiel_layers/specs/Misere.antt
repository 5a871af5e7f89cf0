-- A misère game: who would win loses (misère play of combinatorial games; the transform of OpenSpiel, Lanctot et al. 2019).
use Rattle.std.specs.Prelude.{neg_ℤ}
use Rattle.spiel_api.specs.Rules.{Rules}

-- each return is the negative of the inner one; all else is as it was
abbrev pub misere_rules : Rules → Rules
misere_rules inner = record inner { pay = λ h p. neg_ℤ (inner.pay h p) }
