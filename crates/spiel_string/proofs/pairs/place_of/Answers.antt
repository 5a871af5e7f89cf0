use Rattle.std.proofs.Common.{◌∙◌, sym, ℕ, List}
use Rattle.spiel_string.specs.Sorted.{key_lt}
use Rattle.spiel_string.proofs.Insertion.{position_none}
use Rattle.spiel_string.proofs.pairs.place_of.Goals as goal

pub returns-in-None-clause-place : goal.returns-in-None-clause-place
returns-in-None-clause-place g c = position_none (λ (p : List ℕ × g.row.V.Denot). key_lt c.args.key.now p.0) c.args.pairs.now (sym c.find_above.ensures ∙ c.in-None.is)
