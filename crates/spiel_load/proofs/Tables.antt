-- Tables behind one another.
use Rattle.std.proofs.Common.{◌≡◌, ◌++◌, Bool, true, false, [], ◌∷◌, Option, Some, None, Ok, Err, refl, ap, sym, ◌∙◌, subst}
use Rattle.std.specs.Prelude.{if◌then◌else◌}
use Rattle.std.specs.Str.{bytes_eq}
use Rattle.spiel_api.specs.Rules.{Rules}
use Rattle.spiel_load.specs.Asked.{IsComputed}
use Rattle.spiel_load.specs.Games.{Table, rules_among}
use Rattle.spiel_load.specs.Given.{Asked, Read, ◌>>=◌}
use Rattle.spiel_load.specs.declared.fault.LoadFault.{LoadFault}
use Rattle.spiel_load.proofs.Reading.{computed_then}

abbrev or_among : Table → Asked → Option Rules → Read (Option Rules)
or_among others asked None = rules_among others asked
or_among others asked (Some rules) = Ok (Some rules)

-- what is found among both is found among the first, or else among the others
among_both : (entries others : Table) (asked : Asked) → rules_among (entries ++ others) asked ≡ (rules_among entries asked >>= or_among others asked)
unfolding rules_among
among_both [] others asked = refl
among_both (entry ∷ entries) others asked = by (bytes_eq asked.name entry.0) (entry.1 asked) (among_both entries others asked)
  where
    by : (b : Bool) (read : Read Rules) → rules_among (entries ++ others) asked ≡ (rules_among entries asked >>= or_among others asked)
        → (if b then (read >>= λ rules. Ok (Some rules)) else rules_among (entries ++ others) asked)
        ≡ ((if b then (read >>= λ rules. Ok (Some rules)) else rules_among entries asked) >>= or_among others asked)
    by true (Ok rules) e = refl
    by true (Err fault) e = refl
    by false read e = e

module _ (entries others : Table) (asked : Asked) where
  pub found_first : (rules : Rules) → rules_among entries asked ≡ Ok (Some rules) → rules_among (entries ++ others) asked ≡ Ok (Some rules)
  found_first rules e = among_both entries others asked ∙ ap (λ r. r >>= or_among others asked) e

  pub found_next : (read : Read (Option Rules)) → rules_among entries asked ≡ Ok None → rules_among others asked ≡ read → rules_among (entries ++ others) asked ≡ read
  found_next read e f = among_both entries others asked ∙ ap (λ r. r >>= or_among others asked) e ∙ f

  pub fault_first : (fault : LoadFault) → IsComputed (rules_among entries asked) fault → IsComputed (rules_among (entries ++ others) asked) fault
  fault_first fault h = subst (λ r. IsComputed r fault) (sym (among_both entries others asked)) (computed_then (rules_among entries asked) (or_among others asked) fault h)

  pub fault_next : (fault : LoadFault) → rules_among entries asked ≡ Ok None → IsComputed (rules_among others asked) fault → IsComputed (rules_among (entries ++ others) asked) fault
  fault_next fault e h = subst (λ r. IsComputed r fault) (sym (found_next (rules_among others asked) e refl)) h
