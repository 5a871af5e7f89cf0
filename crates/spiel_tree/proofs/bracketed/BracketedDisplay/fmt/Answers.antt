use Rattle.std.proofs.Common.{rules, ◌∷◌, ℕ, ◌==◌, cond, List, get_or, ap, sym}
use Rattle.std.proofs.Output.{has_written_append, has_written_of_eq}
use Rattle.std.specs.Fmt.{decimal}
use Rattle.spiel_frac.proofs.Listings.{decimals_joined}
use Rattle.spiel_tree.proofs.bracketed.BracketedDisplay.fmt.Goals as goal

pub loop-index-preserved : goal.loop-index-preserved
loop-index-preserved g c = λ plain.
    has_written_of_eq _ _ _ _ _
    (sym (ap (λ (listed : List ℕ). 91 ∷ listed) (decimals_joined 44 c.args.self.now.0.now c.loop-index.index c.loop-index-test.true)))
    (has_written_append _ _ _ _ _ _ (c.loop-index.invariant plain) (search rules))
