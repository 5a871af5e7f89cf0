-- The weights that were given, by the table of their places.
use Rattle.std.proofs.Common.{◌≡◌, ℕ, zero, suc, ◌+◌, ◌<◌, ◌^◌, false, cond, List, [], ◌∷◌, ◌++◌, length, drop, refl, sym, ap, ap₂, ◌∙◌, subst, Option, Some, None, Ok, Err, Result, arith, add-one, append_assoc}
use Rattle.std.specs.Prelude.{All, IfSome, option_map, slice_index_or, slice_set, replicate, count_by, is_some}
use Rattle.std.proofs.Math.Seq.{drop-cons}
use Rattle.std.proofs.lemmas.List.{map-set, get_or-map, length-set, length-map, length_push}
use Rattle.std.proofs.lemmas.List.Elements.{All-get_or, All-head, All-push, All-set, All-tail, All-weaker}
use Rattle.std.proofs.lemmas.List.Sums.{sum_by-cons, sum_by-set}
use Rattle.spiel_tree.specs.Trees.{Whole}
use Rattle.spiel_policy.specs.Kept.{KeepsPartial, partial_by}
use Rattle.spiel_policy.specs.Reading.{Partial, go_on, missing, profile_from, weights_given}
use Rattle.spiel_policy.specs.Profiles.{AreReduced, Profile, weights_of}
use Rattle.spiel_policy.specs.declared.fault.PolicyFault.{PolicyFault}

-- ---- nothing yet
pub none_by : (weights : Profile) (n : ℕ) → partial_by weights (replicate n None) ≡ replicate n None
none_by weights zero = refl
none_by weights (suc n) = ap (λ (xs : List (Option (List ℕ))). None ∷ xs) (none_by weights n)

abbrev no_options : {X : Type 0} → ℕ → List (Option X)
no_options n = replicate n None

pub none_counted : (X : Type 0) (n : ℕ) → count_by is_some (no_options {X = X} n) ≡ 0
none_counted X zero = refl
none_counted X (suc n) =
    let one : count_by is_some (no_options {X = X} (suc n)) ≡ 0 + count_by is_some (no_options {X = X} n) = sum_by-cons (λ (o : Option X). cond (is_some o) 1 0) None (no_options n) in
    omega (arith, one, none_counted X n)

-- ---- weights more
at_front : (weights : Profile) (w : List ℕ) (k : ℕ) → k < length weights → weights_of (weights ++ w ∷ []) k ≡ weights_of weights k
at_front [] w k l = absurd (omega arith)
at_front (x ∷ weights) w zero l = refl
at_front (x ∷ weights) w (suc k) l = at_front weights w k (omega arith)

at_end : (weights : Profile) (w : List ℕ) → weights_of (weights ++ w ∷ []) (length weights) ≡ w
at_end [] w = refl
at_end (x ∷ weights) w = at_end weights w

abbrev IsPlace : Profile → Option ℕ → Type 0
IsPlace weights place = IfSome place (λ (k : ℕ). k < length weights)

same_places : (weights : Profile) (w : List ℕ) (places : List (Option ℕ)) → All (IsPlace weights) places → partial_by (weights ++ w ∷ []) places ≡ partial_by weights places
same_places weights w [] within = refl
same_places weights w (place ∷ places) within =
    ap₂ (λ (x : Option (List ℕ)) (xs : List (Option (List ℕ))). x ∷ xs) (same place (All-head (IsPlace weights) place places within)) (same_places weights w places (All-tail (IsPlace weights) place places within))
  where
    same : (place : Option ℕ) → IsPlace weights place → option_map (weights_of (weights ++ w ∷ [])) place ≡ option_map (weights_of weights) place
    same None l = refl
    same (Some k) l = ap Some (at_front weights w k l)

-- weights at one more place
pub given_more : (weights : Profile) (w : List ℕ) (places : List (Option ℕ)) (s : ℕ) → All (IsPlace weights) places
    → partial_by (weights ++ w ∷ []) (slice_set places s (Some (length weights))) ≡ slice_set (partial_by weights places) s (Some w)
given_more weights w places s within =
    map-set (option_map (weights_of (weights ++ w ∷ []))) places s (Some (length weights))
    ∙ ap₂ (λ (xs : List (Option (List ℕ))) (x : Option (List ℕ)). slice_set xs s x) (same_places weights w places within) (ap Some (at_end weights w))

still_places : (weights : Profile) (w : List ℕ) (places : List (Option ℕ)) → All (IsPlace weights) places → All (IsPlace (weights ++ w ∷ [])) places
still_places weights w places within = All-weaker (IsPlace weights) (IsPlace (weights ++ w ∷ [])) later places within
  where
    later : (place : Option ℕ) → IsPlace weights place → IsPlace (weights ++ w ∷ []) place
    later None l = tt
    later (Some k) l = omega (arith, l, length_push weights w)

-- the place of an information state that has no weights
no_place : (weights : Profile) (places : List (Option ℕ)) (s : ℕ) → s < length places → weights_given (partial_by weights places) s ≡ None → slice_index_or places s None ≡ None
no_place weights places s l e = by (slice_index_or places s None) (sym (get_or-map (option_map (weights_of weights)) places s None None l) ∙ e)
  where
    by : (place : Option ℕ) → option_map (weights_of weights) place ≡ None → place ≡ None
    by None f = refl
    by (Some k) f = cc

-- one more has its weights
pub counted_more : {X : Type 0} (places : List (Option X)) (s : ℕ) (x : X) → s < length places → slice_index_or places s None ≡ None
    → count_by is_some (slice_set places s (Some x)) ≡ count_by is_some places + 1
counted_more {X} places s x l e =
    let f : Option X → ℕ = λ o. cond (is_some o) 1 0 in
    let none : f (slice_index_or places s None) ≡ 0 = ap f e in
    omega (arith, sum_by-set f places s (Some x) None l, none)

pub counted_free : (given : Partial) (s : ℕ) (w : List ℕ) → s < length given → is_some (weights_given given s) ≡ false → count_by is_some (slice_set given s (Some w)) ≡ count_by is_some given + 1
counted_free given s w l e = counted_more given s w l (by (weights_given given s) e)
  where
    by : (o : Option (List ℕ)) → is_some o ≡ false → o ≡ None
    by None f = refl
    by (Some v) f = cc

pub keeps_more : (weights : Profile) (w : List ℕ) (places : List (Option ℕ)) (s : ℕ) → KeepsPartial weights places → s < length places → weights_given (partial_by weights places) s ≡ None
    → AreReduced w → KeepsPartial (weights ++ w ∷ []) (slice_set places s (Some (length weights)))
keeps_more weights w places s keeps l free reduced = record {
  within = All-set (IsPlace (weights ++ w ∷ [])) places s (Some (length weights)) (omega (arith, length_push weights w)) (still_places weights w places keeps.within);
  count = counted_more places s (length weights) l (no_place weights places s l free) ∙ omega (arith, keeps.count, length_push weights w);
  few = subst (λ (n : ℕ). n < 2 ^ 32) (sym (length-set places s (Some (length weights)))) keeps.few;
  reduced = All-push AreReduced weights w keeps.reduced reduced;
}

within_places : (weights : Profile) (places : List (Option ℕ)) (now : Partial) (s : ℕ) → partial_by weights places ≡ now → s < length now → s < length places
within_places weights places now s is l = omega (arith, l, ap length is, length-map places (option_map (weights_of weights)))

-- what adding weights leaves, as contracts see it
pub added_keeps : (weights new : Profile) (places : List (Option ℕ)) (now : Partial) (w : List ℕ) (s place : ℕ) → KeepsPartial weights places → partial_by weights places ≡ now → s < length now → weights_given now s ≡ None
    → AreReduced w → new ≡ weights ++ w ∷ [] → place ≡ length weights → KeepsPartial new (slice_set places s (Some place))
added_keeps weights new places now w s place keeps is l free reduced pushed at =
    let free : weights_given (partial_by weights places) s ≡ None = ap (λ (g : Partial). weights_given g s) is ∙ free in
    rw (pushed, at) (keeps_more weights w places s keeps (within_places weights places now s is l) free reduced)

pub added_is : (weights new : Profile) (places : List (Option ℕ)) (now : Partial) (w : List ℕ) (s place : ℕ) → KeepsPartial weights places → partial_by weights places ≡ now
    → new ≡ weights ++ w ∷ [] → place ≡ length weights → partial_by new (slice_set places s (Some place)) ≡ slice_set now s (Some w)
added_is weights new places now w s place keeps is pushed at =
    rw (pushed, at) (given_more weights w places s keeps.within ∙ ap (λ (g : Partial). slice_set g s (Some w)) is)

-- ---- the profile, one information state after the other
then_front : (ps : Profile) (w : List ℕ) (rest : Result Profile PolicyFault)
    → go_on (λ (more : Profile). Ok (ps ++ more)) (go_on (λ (profile : Profile). Ok (w ∷ profile)) rest) ≡ go_on (λ (more : Profile). Ok ((ps ++ w ∷ []) ++ more)) rest
then_front ps w (Ok more) = ap Ok (sym (append_assoc ps (w ∷ []) more))
then_front ps w (Err fault) = refl

profile_more : (tree : Whole) (ps : Profile) (given : Partial) (n k : ℕ) (w : List ℕ) → k < length given → weights_given given k ≡ Some w
    → go_on (λ (more : Profile). Ok (ps ++ more)) (profile_from tree n (drop k given)) ≡ go_on (λ (more : Profile). Ok ((ps ++ w ∷ []) ++ more)) (profile_from tree (n + 1) (drop (k + 1) given))
profile_more tree ps given n k w l e =
    let step : profile_from tree n (drop k given) ≡ go_on (λ (profile : Profile). Ok (w ∷ profile)) (profile_from tree (suc n) (drop (suc k) given)) =
    ap (profile_from tree n) (drop-cons given k None l ∙ ap (λ (x : Option (List ℕ)). x ∷ drop (suc k) given) e) in
    ap (go_on (λ (more : Profile). Ok (ps ++ more))) step ∙ then_front ps w (profile_from tree (suc n) (drop (suc k) given))
    ∙ ap₂ (λ (m j : ℕ). go_on (λ (more : Profile). Ok ((ps ++ w ∷ []) ++ more)) (profile_from tree m (drop j given))) (sym (add-one n)) (sym (add-one k))

profile_stop : (tree : Whole) (given : Partial) (n k : ℕ) → k < length given → weights_given given k ≡ None → profile_from tree n (drop k given) ≡ Err (missing tree n)
profile_stop tree given n k l e = ap (profile_from tree n) (drop-cons given k None l ∙ ap (λ (x : Option (List ℕ)). x ∷ drop (suc k) given) e)

-- ---- the weights at a place of the table
given_at : (weights : Profile) (places : List (Option ℕ)) (now : Partial) (k : ℕ) (place : Option ℕ) → partial_by weights places ≡ now → k < length places → slice_index_or places k None ≡ place
    → weights_given now k ≡ option_map (weights_of weights) place
given_at weights places now k place is l e =
    ap (λ (g : Partial). weights_given g k) (sym is) ∙ get_or-map (option_map (weights_of weights)) places k None None l ∙ ap (option_map (weights_of weights)) e

-- an empty place
pub stops_there : (tree : Whole) (weights ps : Profile) (places : List (Option ℕ)) (now : Partial) (n k : ℕ) → partial_by weights places ≡ now → k < length places → slice_index_or places k None ≡ None
    → go_on (λ (more : Profile). Ok (ps ++ more)) (profile_from tree n (drop k now)) ≡ profile_from tree 0 now → profile_from tree 0 now ≡ Err (missing tree n)
stops_there tree weights ps places now n k is l e so_far =
    let within : k < length now = omega (arith, l, ap length is, length-map places (option_map (weights_of weights))) in
    sym so_far ∙ ap (go_on (λ (more : Profile). Ok (ps ++ more))) (profile_stop tree now n k within (given_at weights places now k None is l e))

-- a place with weights
pub record IsTaken (tree : Whole) (weights ps : Profile) (places : List (Option ℕ)) (now : Partial) (n k : ℕ) (w : List ℕ) : Type 0 where
  pub so_far : go_on (λ (more : Profile). Ok ((ps ++ w ∷ []) ++ more)) (profile_from tree (n + 1) (drop (k + 1) now)) ≡ profile_from tree 0 now
  pub reduced : AreReduced w

pub place_low : (weights : Profile) (places : List (Option ℕ)) (k place : ℕ) → KeepsPartial weights places → k < length places → slice_index_or places k None ≡ Some place → place < length weights
place_low weights places k place keeps l e = subst (IsPlace weights) e (All-get_or (IsPlace weights) places k None l keeps.within)

pub goes_on_there : (tree : Whole) (weights ps : Profile) (places : List (Option ℕ)) (now : Partial) (n k place : ℕ) (w : List ℕ) → KeepsPartial weights places → partial_by weights places ≡ now → k < length places
    → slice_index_or places k None ≡ Some place → w ≡ weights_of weights place → go_on (λ (more : Profile). Ok (ps ++ more)) (profile_from tree n (drop k now)) ≡ profile_from tree 0 now
    → IsTaken tree weights ps places now n k w
goes_on_there tree weights ps places now n k place w keeps is l e same so_far =
    let within : k < length now = omega (arith, l, ap length is, length-map places (option_map (weights_of weights))) in
    let given : weights_given now k ≡ Some w = given_at weights places now k (Some place) is l e ∙ ap Some (sym same) in
    record {
      so_far = sym (profile_more tree ps now n k w within given) ∙ so_far;
      reduced = subst AreReduced (sym same) (All-get_or AreReduced weights place [] (place_low weights places k place keeps l e) keeps.reduced);
    }
