-- What a name says that no transform has, under so many transforms.
use Rattle.std.proofs.Common.{◌≡◌, ℕ, zero, suc, None, Result, Ok, sym, ap, subst, ◌∙◌}
use Rattle.spiel_io.specs.Outside.{ShelfState}
use Rattle.spiel_io.specs.Plan.{Follows, Plan, Refuse}
use Rattle.spiel_api.specs.Rules.{Rules}
use Rattle.spiel_load.specs.Faults.{load_kind}
use Rattle.spiel_load.specs.Games.{base_rules, games}
use Rattle.spiel_load.specs.Given.{Asked}
use Rattle.spiel_load.specs.Named.{named_by, named_within, transformed}
use Rattle.spiel_load.specs.Transforms.{transform_of}
use Rattle.spiel_load.specs.declared.fault.LoadFault.{LoadFault}
use Rattle.spiel_load.specs.declared.fault.LoadFault.TheVariants.{TooDeep}

base_within : (room : ℕ) (asked : Asked) → transform_of asked.name ≡ None → named_within room asked ≡ base_rules games asked
unfolding named_within
base_within zero asked e = ap (named_by (λ transform. Refuse TooDeep) asked) e
base_within (suc room) asked e = ap (named_by (transformed (named_within room) asked) asked) e

plain_within : (room : ℕ) (asked : Asked) → transform_of asked.name ≡ None → named_within room asked ≡ named_within (suc room) asked
plain_within room asked e = base_within room asked e ∙ sym (base_within (suc room) asked e)

pub plain_follows : (room : ℕ) (asked : Asked) (old new : ShelfState) (r : Result Rules LoadFault) → transform_of asked.name ≡ None
    → Follows load_kind (named_within room asked) old new r → Follows load_kind (named_within (suc room) asked) old new r
plain_follows room asked old new r e h = subst (λ (plan : Plan Rules LoadFault). Follows load_kind plan old new r) (plain_within room asked e) h

pub plain_given : (room : ℕ) (asked : Asked) (old new : ShelfState) (rules same : Rules) → transform_of asked.name ≡ None → same ≡ rules
    → Follows load_kind (named_within room asked) old new (Ok rules) → Follows load_kind (named_within (suc room) asked) old new (Ok same)
plain_given room asked old new rules same e is h = plain_follows room asked old new (Ok same) e (subst (λ (rules : Rules). Follows load_kind (named_within room asked) old new (Ok rules)) (sym is) h)
