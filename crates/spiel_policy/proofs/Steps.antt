-- One entry after the other.
use Rattle.std.proofs.Common.{◌≡◌, ℕ, zero, suc, ◌<◌, Bool, true, false, ◌==◌, List, [], ◌∷◌, length, map, eqb-true, refl, sym, ap, ◌∙◌, subst, Option, Some, None, Ok, Err, Result, arith}
use Rattle.std.specs.Prelude.{All, IfOk, IfSome, MatchResult, sum, slice_set, replicate, if◌then◌else◌}
use Rattle.std.specs.Option.{ok_or}
use Rattle.std.proofs.lemmas.Bool.{eqb-false}
use Rattle.std.proofs.lemmas.List.{get_or-set_same, get_or-set_other, length-map, length-replicate, length-set}
use Rattle.spiel_tree.specs.States.{numbers_of, states_below}
use Rattle.spiel_tree.specs.Trees.{Whole}
use Rattle.spiel_policy.specs.Partial.{IsFor}
use Rattle.spiel_policy.specs.Reading.{Partial, IsComputed, go_on, profile_from, small_whole, weights_at, weights_given}
use Rattle.spiel_policy.specs.Profiles.{AreReduced, Fits, Profile, weights_of}
use Rattle.spiel_policy.specs.Weighing.{choices_of, pair_for, parts_of, weights_of_whole}
use Rattle.spiel_policy.specs.declared.entries.Pair.{Pair}
use Rattle.spiel_policy.specs.declared.fault.PolicyFault.{PolicyFault}
use Rattle.spiel_policy.specs.declared.fault.PolicyFault.TheVariants.{Action, Overflow, Sum}
use Rattle.spiel_policy.proofs.Reduced.{table_is}

-- what an answer that may be a fault has, the value has
pub ok_reduced : (found : Option (List ℕ)) (fault : PolicyFault) (answer : Result (List ℕ) PolicyFault) → answer ≡ ok_or found fault → ((weights : List ℕ) → Some weights ≡ found → AreReduced weights)
    → IfOk answer AreReduced
ok_reduced found fault answer e reduced = subst (λ (r : Result (List ℕ) PolicyFault). IfOk r AreReduced) (sym e) (by found refl)
  where
    by : (o : Option (List ℕ)) → o ≡ found → IfOk (ok_or o fault) AreReduced
    by None f = tt
    by (Some weights) f = reduced weights f

-- ---- how many weights there are
whole_long : (table : List (Option Pair)) (whole : ℕ) (n count : ℕ) (weights : List ℕ) → ok_or (weights_of_whole table whole) (Sum n) ≡ Ok weights → length table ≡ count → length weights ≡ count
whole_long table whole n count weights e l = by (sum (map (parts_of whole) table) == whole) e
  where
    by : (b : Bool) → ok_or (if b then Some (map (parts_of whole) table) else None) (Sum n) ≡ Ok weights → length weights ≡ count
    by true f = let is : map (parts_of whole) table ≡ weights = cc in omega (arith, ap length is, length-map table (parts_of whole), l)
    by false f = cc

pub weights_long : (numbers : List ℕ) (n : ℕ) (pairs : List Pair) (weights : List ℕ) → weights_at numbers n pairs ≡ Ok weights → length weights ≡ length numbers
weights_long numbers n pairs weights e = by (choices_of numbers pairs) refl e
  where
    long : (table : List (Option Pair)) → choices_of numbers pairs ≡ Some table → length table ≡ length numbers
    long table f = ap length (table_is numbers pairs table (sym f)).is ∙ length-map numbers (pair_for pairs)

    by : (o : Option (List (Option Pair))) → choices_of numbers pairs ≡ o
        → go_on (λ choices. go_on (λ whole. ok_or (weights_of_whole choices whole) (Sum n)) (ok_or (small_whole pairs) (Overflow n))) (ok_or o (Action n)) ≡ Ok weights → length weights ≡ length numbers
    by None f g = cc
    by (Some table) f g = next (small_whole pairs) g
      where
        next : (w : Option ℕ) → go_on (λ whole. ok_or (weights_of_whole table whole) (Sum n)) (ok_or w (Overflow n)) ≡ Ok weights → length weights ≡ length numbers
        next None h = cc
        next (Some whole) h = whole_long table whole n (length numbers) weights h (long table f)

-- ---- the weights are for the tree
pub for_none : (tree : Whole) (given : Partial) (count : ℕ) → given ≡ replicate count None → count ≡ length (states_below tree.players tree.rows) → IsFor tree given
for_none tree given count is n = subst (IsFor tree) (sym (is ∙ ap (λ (k : ℕ). let all : Partial = replicate k None in all) n)) (record {
  states = length-replicate (length (states_below tree.players tree.rows)) None;
  numbers = λ s l. nothing (length (states_below tree.players tree.rows)) s;
})
  where
    nothing : (n s : ℕ) → IfSome (weights_given (replicate n None) s) (λ (weights : List ℕ). length weights ≡ length (numbers_of tree.players tree.rows s))
    nothing n s = subst (λ (o : Option (List ℕ)). IfSome o (λ (weights : List ℕ). length weights ≡ length (numbers_of tree.players tree.rows s))) (sym (none_there n s)) tt
      where
        none_there : (n s : ℕ) → weights_given (replicate n None) s ≡ None
        none_there zero s = refl
        none_there (suc n) zero = refl
        none_there (suc n) (suc s) = none_there n s

pub for_more : (tree : Whole) (given new : Partial) (s : ℕ) (w : List ℕ) → IsFor tree given → s < length given → length w ≡ length (numbers_of tree.players tree.rows s) → new ≡ slice_set given s (Some w) → IsFor tree new
for_more tree given new s w is l long e = subst (IsFor tree) (sym e) (record {
  states = length-set given s (Some w) ∙ is.states;
  numbers = λ t m. by t (t == s) refl (omega (arith, m, length-set given s (Some w)));
})
  where
    Has : ℕ → Option (List ℕ) → Type 0
    Has t o = IfSome o (λ (weights : List ℕ). length weights ≡ length (numbers_of tree.players tree.rows t))

    by : (t : ℕ) (b : Bool) → (t == s) ≡ b → t < length given → IfSome (weights_given (slice_set given s (Some w)) t) (λ (weights : List ℕ). length weights ≡ length (numbers_of tree.players tree.rows t))
    by t true f m =
        let same : t ≡ s = eqb-true t s f in
        subst (λ (k : ℕ). IfSome (weights_given (slice_set given s (Some w)) k) (λ (weights : List ℕ). length weights ≡ length (numbers_of tree.players tree.rows k))) (sym same)
        (subst (λ (o : Option (List ℕ)). IfSome o (λ (weights : List ℕ). length weights ≡ length (numbers_of tree.players tree.rows s))) (sym (get_or-set_same given s (Some w) None l)) long)
    by t false f m =
        subst (λ (o : Option (List ℕ)). IfSome o (λ (weights : List ℕ). length weights ≡ length (numbers_of tree.players tree.rows t))) (sym (get_or-set_other given s t (Some w) None (eqb-false t s f))) (is.numbers t m)

-- ---- where a step went on
pub went_on : {A B : Type 0} (next : A → Result B PolicyFault) (r : Result A PolicyFault) (b : B) → go_on next r ≡ Ok b → (a : A) × (r ≡ Ok a) × (next a ≡ Ok b)
went_on next (Ok a) b e = (a, refl, e)
went_on next (Err fault) b e = cc

-- ---- the profile
pub profile_long : (tree : Whole) (given : Partial) (n : ℕ) (profile : Profile) → profile_from tree n given ≡ Ok profile → length profile ≡ length given
profile_long tree [] n profile e = let is : [] ≡ profile = cc in ap length (sym is)
profile_long tree (None ∷ given) n profile e = cc
profile_long tree (Some w ∷ given) n profile e =
    let next : Profile → Result Profile PolicyFault = λ (rest : Profile). Ok (w ∷ rest) in
    let step = went_on next (profile_from tree (suc n) given) profile e in
    let is : w ∷ step.0 ≡ profile = cc (step.2) in
    ap length (sym is) ∙ ap suc (profile_long tree given (suc n) step.0 step.1)

pub profile_at : (tree : Whole) (given : Partial) (n s : ℕ) (profile : Profile) → profile_from tree n given ≡ Ok profile → s < length given → weights_given given s ≡ Some (weights_of profile s)
profile_at tree [] n s profile e l = absurd (omega arith)
profile_at tree (None ∷ given) n s profile e l = cc
profile_at tree (Some w ∷ given) n zero profile e l =
    let next : Profile → Result Profile PolicyFault = λ (rest : Profile). Ok (w ∷ rest) in
    let step = went_on next (profile_from tree (suc n) given) profile e in
    let is : w ∷ step.0 ≡ profile = cc (step.2) in
    ap (λ (ps : Profile). Some (weights_of ps 0)) is
profile_at tree (Some w ∷ given) n (suc s) profile e l =
    let next : Profile → Result Profile PolicyFault = λ (rest : Profile). Ok (w ∷ rest) in
    let step = went_on next (profile_from tree (suc n) given) profile e in
    let is : w ∷ step.0 ≡ profile = cc (step.2) in
    profile_at tree given (suc n) s step.0 step.1 (omega arith) ∙ ap (λ (ps : Profile). Some (weights_of ps (suc s))) is

pub fits_by : (tree : Whole) (given : Partial) (profile : Profile) → IsFor tree given → profile_from tree 0 given ≡ Ok profile → All AreReduced profile → Fits tree profile
fits_by tree given profile is e reduced =
    let long = profile_long tree given 0 profile e in
    record {
      states = long ∙ is.states;
      numbers = λ s l.
          let within : s < length given = omega (arith, l, long) in
          subst (λ (o : Option (List ℕ)). IfSome o (λ (weights : List ℕ). length weights ≡ length (numbers_of tree.players tree.rows s))) (profile_at tree given 0 s profile e within) (is.numbers s within);
      reduced = reduced;
    }

-- what is answered for the tree fits it
pub fits_if : (tree : Whole) (given : Partial) (answer : Result Profile PolicyFault) → IsFor tree given → MatchResult answer (λ (profile : Profile). profile_from tree 0 given ≡ Ok profile) (IsComputed (profile_from tree 0 given)) → IfOk answer (All AreReduced) → IfOk answer (Fits tree)
fits_if tree given (Ok profile) is e reduced = fits_by tree given profile is e reduced
fits_if tree given (Err fault) is e reduced = tt
