-- What states of an extensive game tell.
use Rattle.std.proofs.Common.{◌≡◌, ℕ, zero, suc, ◌<◌, ◌==◌, List, [], ◌∷◌, length, refl, sym, ap, subst, ◌∙◌, arith}
use Rattle.std.specs.Prelude.{slice_index}
use Rattle.spiel_efg.specs.declared.parts.EfgSet.{EfgSet}
use Rattle.spiel_efg.specs.declared.parts.NodeKind.{NodeKind}
use Rattle.spiel_efg.specs.declared.parts.NodeKind.TheVariants.{Chance, Personal}
use Rattle.spiel_efg.specs.Sets.{action_count, set_at}
use Rattle.spiel_efg.specs.Efg.{kind_numbers, kind_place, mover_at}
use Rattle.std.specs.Prelude.{slice_index_or, map, true, Bool, Option, if◌then◌else◌}
use Rattle.std.specs.List.{Contains, range_with_len}
use Rattle.std.proofs.Common.{eq-eqb}
use Rattle.std.proofs.lemmas.List.FromFn.{get_or-range_with_len, length-range_with_len}
use Rattle.spiel_api.specs.Turns.{numbers_for}
use Rattle.spiel_api.proofs.NodeLaws.{range_within}
use Rattle.spiel_api.proofs.TurnLaws.{for_numbers, some_numbers}
use Rattle.spiel_efg.specs.declared.parts.EfgParts.{EfgParts}
use Rattle.spiel_efg.specs.Sets.{kept_weights, no_set, probabilities, weights_by, whole_weights}
use Rattle.spiel_efg.specs.Efg.{kind_after, kind_weights}
use Rattle.spiel_efg.specs.Sound.{is_sound}
use Rattle.spiel_efg.specs.EfgLaws.{IsChanceSet, IsFine, IsPlayerSet, fine_after}

-- the numbers of a player at a node of this kind
abbrev legal_at : List EfgSet → NodeKind → ℕ → List ℕ
legal_at sets kind p = numbers_for (kind_place sets kind) (kind_numbers sets kind) p

-- the number at an index is the index
pub legal_index : (sets : List EfgSet) (kind : NodeKind) (p i : ℕ) → i < length (legal_at sets kind p) → i ≡ slice_index (legal_at sets kind p) i
legal_index sets kind p i l =
    let all : legal_at sets kind p ≡ kind_numbers sets kind = some_numbers (kind_place sets kind) (kind_numbers sets kind) p (omega arith) in
    let within : i < action_count sets kind = omega (arith, l, ap length all, length-range_with_len 0 (action_count sets kind)) in
    let at : slice_index (kind_numbers sets kind) i ≡ i = omega (arith, get_or-range_with_len 0 (action_count sets kind) i 0 within) in
    sym (ap (λ xs. slice_index xs i) all ∙ at)

get_map : {X Y : Type 0} (f : X → Y) (xs : List X) (k : ℕ) (d : X) (y : Y) → k < length xs → slice_index_or (map f xs) k y ≡ f (slice_index_or xs k d)
get_map f [] k d y l = absurd (omega arith)
get_map f (x ∷ xs) zero d y l = refl
get_map f (x ∷ xs) (suc k) d y l = get_map f xs k d y (omega arith)

module _ (parts : EfgParts) (is : is_sound parts ≡ true) (h : List ℕ) (place : ℕ) where
  pub chance_set : Chance place ≡ kind_after parts h → IsChanceSet parts.sets place
  chance_set e = subst (λ kind. IsFine (length parts.players) parts.sets kind) (sym e) (fine_after parts is h)

  pub player_set : Personal place ≡ kind_after parts h → IsPlayerSet (length parts.players) parts.sets place
  player_set e = subst (λ kind. IsFine (length parts.players) parts.sets kind) (sym e) (fine_after parts is h)

  pub chance_count : (p : ℕ) → Chance place ≡ kind_after parts h → length (set_at parts.sets place).actions ≡ length (legal_at parts.sets (kind_after parts h) p)
  chance_count p e = subst (λ kind. length (set_at parts.sets place).actions ≡ length (legal_at parts.sets kind p)) e (sym (length-range_with_len 0 (length (set_at parts.sets place).actions)))

  pub player_count : (p mover : ℕ) → Personal place ≡ kind_after parts h → mover ≡ mover_at parts.sets place → mover ≡ p → length (set_at parts.sets place).actions ≡ length (legal_at parts.sets (kind_after parts h) p)
  player_count p mover e f g =
      let count : ℕ = length (set_at parts.sets place).actions in
      let same : (p == mover_at parts.sets place) ≡ true = eq-eqb p (mover_at parts.sets place) (sym g ∙ f) in
      subst (λ kind. count ≡ length (legal_at parts.sets kind p)) e (subst (λ (b : Bool). count ≡ length (if b then range_with_len 0 count else [])) (sym same) (sym (length-range_with_len 0 count)))

  low : (p a : ℕ) → Contains (legal_at parts.sets (kind_after parts h) p) a → a < action_count parts.sets (kind_after parts h)
  low p a c =
      let kind : NodeKind = kind_after parts h in
      omega (arith, (range_within 0 (action_count parts.sets kind) a (for_numbers (kind_place parts.sets kind) (kind_numbers parts.sets kind) p a c)).1)

  pub chance_low : (p a : ℕ) → Chance place ≡ kind_after parts h → Contains (legal_at parts.sets (kind_after parts h) p) a → a < length (set_at parts.sets place).actions
  chance_low p a e c = subst (λ kind. a < action_count parts.sets kind) (sym e) (low p a c)

  pub player_low : (p a : ℕ) → Personal place ≡ kind_after parts h → Contains (legal_at parts.sets (kind_after parts h) p) a → a < length (set_at parts.sets place).actions
  player_low p a e c = subst (λ kind. a < action_count parts.sets kind) (sym e) (low p a c)

  pub chance_weight : (weights : List (List ℕ)) (index weight : ℕ) → weights ≡ map kept_weights parts.sets → Chance place ≡ kind_after parts h → weight ≡ slice_index (slice_index_or weights place []) index
      → weight ≡ slice_index (kind_weights parts.sets (kind_after parts h)) index
  chance_weight weights index weight e f g =
      let set = chance_set f in
      let row : slice_index_or weights place [] ≡ whole_weights (probabilities (set_at parts.sets place).actions) =
      ap (λ xs. slice_index_or xs place []) e ∙ get_map kept_weights parts.sets place no_set [] set.within ∙ ap (λ (player : Option ℕ). weights_by player (probabilities (set_at parts.sets place).actions)) set.drawn in
      subst (λ kind. weight ≡ slice_index (kind_weights parts.sets kind) index) f (g ∙ ap (λ xs. slice_index xs index) row)
