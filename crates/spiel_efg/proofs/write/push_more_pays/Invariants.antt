use Rattle.std.proofs.Common.{◌≡◌, ◌∷◌, ◌++◌, take}
use Rattle.std.specs.Prelude.{flat_map}
use Rattle.spiel_efg.specs.Writing.{frac_piece}
use Rattle.spiel_efg.proofs.write.push_more_pays.Given as goal

abbrev pub invariant-loop-pay : goal.invariant-loop-pay
invariant-loop-pay l = l.out ≡ l.fn.out ++ flat_map (λ next. 44 ∷ frac_piece next) (take l.pay-index l.pays)
