-- The fault that is computed is the one that the facts tell.
use Rattle.std.proofs.Common.{◌≡◌, ℕ, zero, suc, ◌+◌, ◌<◌, ◌≤◌, Bool, true, false, nat_lt, ltb-true, ltb-false, List, length, Option, Some, None, Result, Ok, Err, refl, ap, sym, ◌∙◌, arith}
use Rattle.std.specs.Prelude.{IfOk, if◌then◌else◌}
use Rattle.std.specs.Option.{option_map}
use Rattle.std.specs.Result.{result_unwrap_or}
use Rattle.spiel_frac.specs.declared.memory.NoMemory.{NoMemory}
use Rattle.spiel_api.specs.Rules.{Rules}
use Rattle.spiel_tree.specs.Rows.{Row, rows}
use Rattle.spiel_tree.specs.Faults.{IsFirstFault, fault_at, first_fault, first_fault_from, first_of}
use Rattle.spiel_tree.specs.Trees.{IsComputed, fault_told, tree_fault}
use Rattle.spiel_tree.specs.declared.faults.Fault.{Fault}
use Rattle.spiel_tree.specs.declared.tree.TreeFault.{TreeFault}
use Rattle.spiel_tree.specs.declared.tree.TreeFault.TheVariants as told

-- ---- the first row with a fault
first_fault_from-none : (rows : List Row) (k n : ℕ) → ((j : ℕ) → k ≤ j → j < k + n → fault_at rows j ≡ None) → first_fault_from rows k n ≡ None
first_fault_from-none rows k zero none = refl
first_fault_from-none rows k (suc n) none =
    ap (λ (fault : Option Fault). first_of fault (first_fault_from rows (suc k) n)) (none k (omega arith) (omega arith))
    ∙ first_fault_from-none rows (suc k) n (λ j l m. none j (omega arith) (omega arith))

first_fault_from-at : (rows : List Row) (k n at : ℕ) (fault : Fault) → k ≤ at → at < k + n → fault_at rows at ≡ Some fault
    → ((j : ℕ) → k ≤ j → j < at → fault_at rows j ≡ None) → first_fault_from rows k n ≡ Some fault
first_fault_from-at rows k zero at fault l m here before = absurd (omega arith)
first_fault_from-at rows k (suc n) at fault l m here before =
    by (nat_lt k at) refl (λ more. first_fault_from-at rows (suc k) n at fault more (omega arith) here (λ j past. before j (omega arith)))
  where
    by : (b : Bool) → nat_lt k at ≡ b → (suc k ≤ at → first_fault_from rows (suc k) n ≡ Some fault) → first_of (fault_at rows k) (first_fault_from rows (suc k) n) ≡ Some fault
    by true e ih =
        let more : k < at = ltb-true _ _ e in
        ap (λ (f : Option Fault). first_of f (first_fault_from rows (suc k) n)) (before k (omega arith) more) ∙ ih (omega arith)
    by false e ih =
        let same : k ≡ at = omega (arith, l, ltb-false _ _ e) in
        ap (λ (j : ℕ). first_of (fault_at rows j) (first_fault_from rows (suc k) n)) same ∙ ap (λ (f : Option Fault). first_of f (first_fault_from rows (suc k) n)) here

pub first_fault-is : (rows : List Row) (fault : Option Fault) → IsFirstFault rows fault → first_fault rows ≡ fault
first_fault-is rows None none = first_fault_from-none rows 0 (length rows) (λ j l m. none j (omega arith))
first_fault-is rows (Some fault) first =
    first_fault_from-at rows 0 (length rows) first.at fault (omega arith) (omega (arith, first.within)) first.here (λ j l m. first.before j m)

-- ---- why a game has no tree
pub tree_fault-many : (r : Rules) (limit : ℕ) → limit < length (rows r) → tree_fault r limit ≡ Some (told.TooMany limit)
unfolding tree_fault
tree_fault-many r limit many = by (nat_lt limit (length (rows r))) refl
  where
    by : (b : Bool) → nat_lt limit (length (rows r)) ≡ b → (if b then Some (told.TooMany limit) else option_map (fault_told (rows r)) (first_fault (rows r))) ≡ Some (told.TooMany limit)
    by true e = refl
    by false e = absurd (omega (arith, many, ltb-false _ _ e))

-- else the first fault that was found, if there is one
pub tree_fault-found : (r : Rules) (limit : ℕ) (all : List Row) (fault : Option Fault) → all ≡ rows r → length (rows r) ≤ limit → IsFirstFault all fault
    → tree_fault r limit ≡ option_map (fault_told all) fault
unfolding tree_fault
tree_fault-found r limit all fault same few first = by (nat_lt limit (length (rows r))) refl
  where
    by : (b : Bool) → nat_lt limit (length (rows r)) ≡ b → (if b then Some (told.TooMany limit) else option_map (fault_told (rows r)) (first_fault (rows r))) ≡ option_map (fault_told all) fault
    by true e = absurd (omega (arith, few, ltb-true _ _ e))
    by false e = ap (λ (xs : List Row). option_map (fault_told xs) (first_fault xs)) (sym same) ∙ ap (option_map (fault_told all)) (first_fault-is all fault first)

-- it is the one that was told, unless memory ran out
computed_is : (computed : Option TreeFault) (fault : TreeFault) → computed ≡ Some fault → IsComputed computed fault
computed_is computed (told.TooMany limit) e = e
computed_is computed (told.Simultaneous history) e = e
computed_is computed (told.Recall player first second) e = e
computed_is computed (told.Actions player first second) e = e
computed_is computed told.NoMemory e = tt

pub computed_told : (computed : Option TreeFault) (fault : TreeFault) (answer : Result TreeFault NoMemory) → computed ≡ Some fault → IfOk answer (λ is. is ≡ fault)
    → IsComputed computed (result_unwrap_or answer told.NoMemory)
computed_told computed fault (Ok is) e same = computed_is computed is (e ∙ ap (λ (f : TreeFault). Some f) (sym same))
computed_told computed fault (Err none) e same = tt
