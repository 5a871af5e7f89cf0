-- A policy file that was written reads as the profile that it was written of.
use Rattle.std.proofs.Common.{◌≡◌, ℕ, zero, suc, ◌+◌, ◌^◌, ◌<◌, ◌≤◌, Bool, true, false, ◌==◌, List, [], ◌∷◌, length, map, eqb-true, refl, sym, ap, ap₂, ◌∙◌, subst, Option, Some, None, Ok, Err, Result, arith, add-one}
use Rattle.std.specs.Prelude.{All, sum, slice_set, replicate, is_some, if◌then◌else◌}
use Rattle.std.specs.List.{range_with_len}
use Rattle.std.specs.Option.{ok_or}
use Rattle.std.proofs.lemmas.Bool.{eqb-false}
use Rattle.std.proofs.lemmas.List.{ext_get_or, get_or-map, get_or-set_same, get_or-set_other, length-map, length-replicate, length-set}
use Rattle.std.proofs.lemmas.List.Elements.{All-cons, All-get_or, All-head, All-nil, All-tail}
use Rattle.std.proofs.lemmas.List.Sums.{sum_by-cons}
use Rattle.serde_json.specs.Data.{Data, Items, depth}
use Rattle.serde_json.specs.Read.{max_depth}
use Rattle.serde_json.specs.View.{items_of}
use Rattle.spiel_tree.specs.States.{InfoState, numbers_of, state_at, states_below}
use Rattle.spiel_tree.specs.Trees.{IsGameTree, Whole}
use Rattle.spiel_policy.specs.Entries.{entry_of, entry_with}
use Rattle.spiel_policy.specs.Profiles.{AreReduced, Fits, Profile, weights_of}
use Rattle.spiel_policy.specs.Reading.{Partial, go_on, none_given, profile_from, profile_of_data, state_named, weights_at, weights_given, with_data, with_entries, with_entry, with_state}
use Rattle.spiel_policy.specs.Writing.{HasShortWeights, entries_data, entry_data, entry_data_at, file_data, pair_data, pairs_data}
use Rattle.spiel_policy.specs.declared.entries.Entry.{Entry}
use Rattle.spiel_policy.specs.declared.entries.Pair.{Pair}
use Rattle.spiel_policy.specs.declared.fault.PolicyFault.{PolicyFault}
use Rattle.spiel_policy.specs.declared.fault.PolicyFault.TheVariants.{Repeated, Shape, UnknownState}
use Rattle.spiel_tree.proofs.GameNumbers.{numbers_rise, numbers_small, players_few}
use Rattle.spiel_tree.proofs.StatePlayers.{player_low}
use Rattle.spiel_policy.proofs.InfoStates.{named}
use Rattle.spiel_policy.proofs.PlainData.{IsPlain, depth_of_items, plain_items}
use Rattle.spiel_policy.proofs.ReadBack.{pairs_for, pairs_read, small_read, weights_read}

-- ---- entries
low_weights : (weights : List ℕ) (total : ℕ) → sum weights ≤ total → All (λ w. w ≤ total) weights
low_weights [] total l = All-nil (λ w. w ≤ total)
low_weights (w ∷ weights) total l =
    let more : sum (w ∷ weights) ≡ w + sum weights = sum_by-cons (λ (n : ℕ). n) w weights in
    All-cons (λ n. n ≤ total) w weights (omega (arith, l, more)) (low_weights weights total (omega (arith, l, more)))

entry_read : (state : InfoState) (numbers weights : List ℕ) → state.player < 2 ^ 32 → All (λ n. n < 2 ^ 32) numbers → sum weights < 10 ^ 18 → 0 < sum weights
    → entry_of (entry_data state numbers weights) ≡ Some (record { player = state.player; text = state.text; pairs = pairs_for (sum weights) numbers weights })
entry_read state numbers weights low small short positive =
    ap₂ (λ (p : Option ℕ) (ps : Option (List Pair)). entry_with p (Some state.text) ps) (small_read state.player low)
    (pairs_read (sum weights) numbers weights small (low_weights weights (sum weights) (omega arith)) short positive)

-- ---- one information state after the other
-- those below s have their weights, and no others
record IsFilled (tree : Whole) (profile : Profile) (given : Partial) (s : ℕ) : Type 0 where
  pub long : length given ≡ length (states_below tree.players tree.rows)
  pub done : (t : ℕ) → t < s → weights_given given t ≡ Some (weights_of profile t)
  pub free : (t : ℕ) → s ≤ t → weights_given given t ≡ None

nothing_there : (n t : ℕ) → weights_given (replicate n None) t ≡ None
nothing_there zero t = refl
nothing_there (suc n) zero = refl
nothing_there (suc n) (suc t) = nothing_there n t

none_filled : (tree : Whole) (profile : Profile) → IsFilled tree profile (none_given tree) 0
none_filled tree profile = record {
  long = length-replicate (length (states_below tree.players tree.rows)) None;
  done = λ t l. absurd (omega arith);
  free = λ t l. nothing_there (length (states_below tree.players tree.rows)) t;
}

filled_more : (tree : Whole) (profile : Profile) (given : Partial) (s : ℕ) → IsFilled tree profile given s → s < length given → IsFilled tree profile (slice_set given s (Some (weights_of profile s))) (suc s)
filled_more tree profile given s is l = record {
  long = length-set given s (Some (weights_of profile s)) ∙ is.long;
  done = λ t m. by t m (t == s) refl;
  free = λ t m. get_or-set_other given s t (Some (weights_of profile s)) None (λ e. omega (arith, e, m)) ∙ is.free t (omega (arith, m));
}
  where
    by : (t : ℕ) → t < suc s → (b : Bool) → (t == s) ≡ b → weights_given (slice_set given s (Some (weights_of profile s))) t ≡ Some (weights_of profile t)
    by t m true e =
        let same : t ≡ s = eqb-true t s e in
        subst (λ (k : ℕ). weights_given (slice_set given s (Some (weights_of profile s))) k ≡ Some (weights_of profile k)) (sym same) (get_or-set_same given s (Some (weights_of profile s)) None l)
    by t m false e =
        let other = eqb-false t s e in
        get_or-set_other given s t (Some (weights_of profile s)) None other ∙ is.done t (below t m other)
      where
        below : (t : ℕ) → t < suc s → (t ≡ s → ⊥) → t < s
        below t m other = omega (arith, m, other)

-- what an entry that was written gives
data_read : (tree : Whole) (profile : Profile) (given : Partial) (s : ℕ) → IsGameTree tree → Fits tree profile → HasShortWeights profile → IsFilled tree profile given s → s < length (states_below tree.players tree.rows)
    → with_data tree given s (entry_data_at tree profile s) ≡ Ok (slice_set given s (Some (weights_of profile s)))
data_read tree profile given s game fits short is l =
    let state = state_at tree.players tree.rows s in
    let numbers = numbers_of tree.players tree.rows s in
    let weights = weights_of profile s in
    let pairs = pairs_for (sum weights) numbers weights in
    let within : s < length profile = omega (arith, l, fits.states) in
    let reduced : AreReduced weights = All-get_or AreReduced profile s [] within fits.reduced in
    let few : sum weights < 10 ^ 18 = All-get_or (λ (ws : List ℕ). sum ws < 10 ^ 18) profile s [] within short in
    let low : state.player < 2 ^ 32 = omega (arith, player_low tree.players tree.rows s l, players_few tree game) in
    let read = entry_read state numbers weights low (numbers_small tree game s l) few reduced.least.positive in
    let found : state_named tree state.player state.text ≡ Some s = named tree state.player state.text s l refl in
    let weighed : weights_at numbers s pairs ≡ Ok weights = weights_read numbers weights s (numbers_rise tree game s l) (fits.numbers s within) reduced in
    ap (λ (o : Option Entry). go_on (with_entry tree given s) (ok_or o (Shape s))) read
    ∙ ap (λ (o : Option ℕ). go_on (with_state tree given s pairs) (ok_or o (UnknownState s))) found
    ∙ ap (λ (o : Option (List ℕ)). if is_some o then Err (Repeated s) else go_on (λ ws. Ok (slice_set given s (Some ws))) (weights_at numbers s pairs)) (is.free s (omega arith))
    ∙ ap (λ (r : Result (List ℕ) PolicyFault). go_on (λ ws. Ok (slice_set given s (Some ws))) r) weighed

-- what all entries give
record IsRead (tree : Whole) (profile : Profile) (answer : Result Partial PolicyFault) : Type 0 where
  pub given : Partial
  pub is : answer ≡ Ok given
  pub filled : IsFilled tree profile given (length (states_below tree.players tree.rows))

entries_read : (tree : Whole) (profile : Profile) (given : Partial) (s left : ℕ) → IsGameTree tree → Fits tree profile → HasShortWeights profile → IsFilled tree profile given s
    → s + left ≡ length (states_below tree.players tree.rows) → IsRead tree profile (with_entries tree given s (items_of (map (entry_data_at tree profile) (range_with_len s left))))
entries_read tree profile given s zero game fits short is e =
    let all : s ≡ length (states_below tree.players tree.rows) = omega (arith, e) in
    record { given = given; is = refl; filled = subst (IsFilled tree profile given) all is }
entries_read tree profile given s (suc left) game fits short is e =
    let l : s < length (states_below tree.players tree.rows) = omega (arith, e) in
    let more = slice_set given s (Some (weights_of profile s)) in
    let rest = entries_read tree profile more (suc s) left game fits short (filled_more tree profile given s is (omega (arith, l, is.long))) (omega (arith, e)) in
    let items : ℕ → Items = λ n. items_of (map (entry_data_at tree profile) (range_with_len n left)) in
    record {
      given = rest.given;
      is = ap (go_on (λ (g : Partial). with_entries tree g (suc s) (items (s + 1)))) (data_read tree profile given s game fits short is l)
          ∙ ap (λ (n : ℕ). with_entries tree more (suc s) (items n)) (add-one s) ∙ rest.is;
      filled = rest.filled;
    }

-- ---- the profile
profile_all : (tree : Whole) (profile : Profile) (n : ℕ) → profile_from tree n (map Some profile) ≡ Ok profile
profile_all tree [] n = refl
profile_all tree (weights ∷ profile) n = ap (go_on (λ (rest : Profile). Ok (weights ∷ rest))) (profile_all tree profile (suc n))

filled_is : (tree : Whole) (profile : Profile) (given : Partial) → Fits tree profile → IsFilled tree profile given (length (states_below tree.players tree.rows)) → given ≡ map Some profile
filled_is tree profile given fits is =
    ext_get_or None given (map Some profile) (omega (arith, is.long, fits.states, length-map profile (λ (w : List ℕ). let o : Option (List ℕ) = Some w in o)))
    (λ k l. is.done k (omega (arith, l, is.long)) ∙ sym (get_or-map Some profile k [] None (omega (arith, l, is.long, fits.states))))

pub file_read : (tree : Whole) (profile : Profile) → IsGameTree tree → Fits tree profile → HasShortWeights profile → profile_of_data tree (file_data tree profile) ≡ Ok profile
file_read tree profile game fits short =
    let read = entries_read tree profile (none_given tree) 0 (length (states_below tree.players tree.rows)) game fits short (none_filled tree profile) (omega arith) in
    ap (go_on (profile_from tree 0)) read.is ∙ ap (profile_from tree 0) (filled_is tree profile read.given fits read.filled) ∙ profile_all tree profile 0

-- ---- its shape
pairs_plain : (total : ℕ) (numbers weights : List ℕ) → All (λ n. n < 2 ^ 32) numbers → All IsPlain (pairs_data total numbers weights)
pairs_plain total [] weights small = All-nil IsPlain
pairs_plain total (n ∷ numbers) [] small = All-nil IsPlain
pairs_plain total (n ∷ numbers) (w ∷ weights) small =
    let less = All-head (λ n. n < 2 ^ 32) n numbers small in
    let low : n < 2 ^ 64 = omega (arith, less) in
    All-cons IsPlain (pair_data total n w) (pairs_data total numbers weights) (low, (tt, tt)) (pairs_plain total numbers weights (All-tail (λ n. n < 2 ^ 32) n numbers small))

pairs_shallow : (total : ℕ) (numbers weights : List ℕ) → All (λ d. depth d ≤ 1) (pairs_data total numbers weights)
pairs_shallow total [] weights = All-nil (λ d. depth d ≤ 1)
pairs_shallow total (n ∷ numbers) [] = All-nil (λ d. depth d ≤ 1)
pairs_shallow total (n ∷ numbers) (w ∷ weights) = All-cons (λ d. depth d ≤ 1) (pair_data total n w) (pairs_data total numbers weights) (omega arith) (pairs_shallow total numbers weights)

entry_plain : (tree : Whole) (profile : Profile) (s : ℕ) → IsGameTree tree → s < length (states_below tree.players tree.rows) → IsPlain (entry_data_at tree profile s)
entry_plain tree profile s game l =
    let low : (state_at tree.players tree.rows s).player < 2 ^ 64 = omega (arith, player_low tree.players tree.rows s l, players_few tree game) in (
      plain_items (pairs_data (sum (weights_of profile s)) (numbers_of tree.players tree.rows s) (weights_of profile s)) (pairs_plain (sum (weights_of profile s)) (numbers_of tree.players tree.rows s) (weights_of profile s) (numbers_small tree game s l)),
      (low, (tt, tt)),
    )

entry_shallow : (tree : Whole) (profile : Profile) (s : ℕ) → depth (entry_data_at tree profile s) ≤ 3
entry_shallow tree profile s =
    let pairs = depth_of_items 1 (pairs_data (sum (weights_of profile s)) (numbers_of tree.players tree.rows s) (weights_of profile s)) (pairs_shallow (sum (weights_of profile s)) (numbers_of tree.players tree.rows s) (weights_of profile s)) in
    omega (arith, pairs)

pub all_entries : (P : Data → Type 0) (f : ℕ → Data) (s left n : ℕ) → ((t : ℕ) → t < n → P (f t)) → s + left ≤ n → All P (map f (range_with_len s left))
all_entries P f s zero n all l = All-nil P
all_entries P f s (suc left) n all l = All-cons P (f s) (map f (range_with_len (s + 1) left)) (all s (omega (arith, l))) (all_entries P f (s + 1) left n all (omega (arith, l)))

pub file_plain : (tree : Whole) (profile : Profile) → IsGameTree tree → IsPlain (file_data tree profile)
file_plain tree profile game =
    let count = length (states_below tree.players tree.rows) in
    let one : 1 < 2 ^ 64 = omega arith in
    (one, (plain_items (entries_data tree profile) (all_entries IsPlain (entry_data_at tree profile) 0 count count (λ t l. entry_plain tree profile t game l) (omega arith)), tt))

pub file_shallow : (tree : Whole) (profile : Profile) → depth (file_data tree profile) ≤ max_depth
file_shallow tree profile =
    let count = length (states_below tree.players tree.rows) in
    let entries = depth_of_items 3 (entries_data tree profile) (all_entries (λ d. depth d ≤ 3) (entry_data_at tree profile) 0 count count (λ t l. entry_shallow tree profile t) (omega arith)) in
    omega (arith, entries)
