use Rattle.std.proofs.Common.{sym, subst, ◌∙◌, map, None, rules}
use Rattle.std.specs.Prelude.{FitsSigned, ℤ, pos, ◌<ℤ◌}
use Rattle.std.specs.Int.{w128}
use Rattle.std.proofs.lemmas.Int.{to_z-of_z}
use Rattle.spiel_frac.specs.Multiples.{IsLeastMultiple}
use Rattle.spiel_response.specs.Reach.{leaves, scale_of, totals_to}
use Rattle.spiel_response.specs.Answered.{Solving}
use Rattle.spiel_response.proofs.Fitting.{denominator_positive}
use Rattle.spiel_response.proofs.Products.{scale_is_least}
use Rattle.spiel_response.proofs.work.Work.total.Goals as goal

pub returns-clause-positive : goal.returns-clause-positive
returns-clause-positive c =
    let fits : FitsSigned w128 c.self.inside.total = search rules in
    subst (λ (z : ℤ). pos 0 <ℤ z) (sym (to_z-of_z w128 c.self.inside.total fits ∙ c.self.invariant.work.total_is)) (denominator_positive _ c.self.invariant.work.judgeable)

pub returns-clause-least : goal.returns-clause-least
returns-clause-least c =
    subst (λ (s : Solving). IsLeastMultiple (map (totals_to s.judged.tree.rows s.judged.profile None) (leaves s.judged.tree.rows)) (scale_of s.judged.tree.rows s.judged.profile)) c.self.view_is
    (scale_is_least _ c.self.invariant.work.judgeable)
