-- What each mention in a sound game adds to the sets and outcomes that were seen, when its text is read again.
use Rattle.std.proofs.Common.{◌≡◌, ◌+◌, ◌^◌, ◌<◌, ◌≤◌, ◌&&◌, ◌==◌, ℕ, zero, suc, Bool, true, false, List, [], ◌∷◌, ◌++◌, length, map, take, get_or, refl, sym, ap, subst, ◌∙◌, arith, append_assoc, append-nil, Option, Some, None, Ok, not, nat_lt, lt-ltb, le-ltb, ltb-true, ltb-false, eq-eqb, if◌then◌else◌}
use Rattle.std.specs.Prelude.{◌||◌, position}
use Rattle.std.specs.List.{list_all, list_any, position_or_len}
use Rattle.std.proofs.lemmas.Bool.{and_from, and_parts, eqb-true, eqb-false, false≢true, not-true}
use Rattle.std.proofs.lemmas.List.{length-append, get_or-map, get_or-take, get_or_past, length-map, length-take-le, take-map, take-take, take_more}
use Rattle.std.proofs.lemmas.Option.{slice_get-get_or}
use Rattle.std.proofs.Math.Seq.{get_or-append_seam}
use Rattle.spiel_efg.specs.Mentions.{first_mentions, place_after, with_number}
use Rattle.spiel_efg.specs.ReadingNodes.{no_outcome, outcome_in, place_of_outcome, place_of_set, with_outcome, with_set}
use Rattle.spiel_efg.specs.Sets.{Key, are_new, are_weights, have_own_numbers, is_same_key, is_same_mover, is_set, key_of, no_set, probabilities, set_at}
use Rattle.spiel_efg.specs.Writing.{outcome_in_row, row_of}
use Rattle.spiel_efg.specs.declared.parts.EfgOutcome.{EfgOutcome}
use Rattle.spiel_efg.specs.declared.parts.EfgSet.{EfgSet}
use Rattle.spiel_efg.specs.EfgPlays.{each_passes}
use Rattle.spiel_efg.proofs.InOrder.{kept}
use Rattle.spiel_efg.proofs.ReadBackMentions.{known_outcome_kept, known_set_kept, new_outcome_added, new_set_added, no_outcome_kept}
use Rattle.spiel_efg.proofs.ReadBackNodes.{mention_of, outcome_mention_of}
use Rattle.spiel_efg.proofs.ReadingMentions.{number_of}

-- ---- the first place that passes
module _ {X : Type 0} (p : X → Bool) where
  first_len : (xs : List X) (k : ℕ) (d : X) → list_any p (take k xs) ≡ false → k < length xs → p (get_or xs k d) ≡ true → position_or_len p xs ≡ k
  first_len [] k d none l passes = absurd (omega arith)
  first_len (x ∷ xs) zero d none l passes = rw passes refl
  first_len (x ∷ xs) (suc k) d none l passes = by (p x) refl none (λ later. first_len xs k d later (omega arith) passes)
    where
      by : (b : Bool) → p x ≡ b → (b || list_any p (take k xs)) ≡ false → (list_any p (take k xs) ≡ false → position_or_len p xs ≡ k) → position_or_len p (x ∷ xs) ≡ suc k
      by true e f later = absurd cc
      by false e f later = rw e (omega (arith, later f))

  pub first_is : (xs : List X) (k : ℕ) (d : X) → list_any p (take k xs) ≡ false → k < length xs → p (get_or xs k d) ≡ true → position p xs ≡ Some k
  first_is xs k d none l passes = rw (first_len xs k d none l passes, lt-ltb k (length xs) l) refl

  none_len : (xs : List X) → list_any p xs ≡ false → position_or_len p xs ≡ length xs
  none_len [] none = refl
  none_len (x ∷ xs) none = by (p x) refl none (none_len xs)
    where
      by : (b : Bool) → p x ≡ b → (b || list_any p xs) ≡ false → (list_any p xs ≡ false → position_or_len p xs ≡ length xs) → position_or_len p (x ∷ xs) ≡ suc (length xs)
      by true e f later = absurd cc
      by false e f later = rw e (omega (arith, later f))

  pub none_is : (xs : List X) → list_any p xs ≡ false → position p xs ≡ None
  none_is xs none = rw (none_len xs none, le-ltb (length xs) (length xs) (omega arith)) refl

  record IsFirst (xs : List X) (d : X) : Type 0 where
    place : ℕ
    within : place < length xs
    passes : p (get_or xs place d) ≡ true
    none : list_any p (take place xs) ≡ false

  find_first : (xs : List X) (d : X) → list_any p xs ≡ true → IsFirst xs d
  find_first [] d e = absurd (false≢true e)
  find_first (x ∷ xs) d e = by (p x) refl e (find_first xs d)
    where
      by : (b : Bool) → p x ≡ b → (b || list_any p xs) ≡ true → (list_any p xs ≡ true → IsFirst xs d) → IsFirst (x ∷ xs) d
      by true f g later = record { place = 0; within = omega arith; passes = f; none = refl }
      by false f g later =
          let next = later g in
          let within = next.within in
          record { place = suc next.place; within = omega arith; passes = next.passes; none = ap (λ (b : Bool). b || list_any p (take next.place xs)) f ∙ next.none }

-- ---- keys of sets
own_before : (seen keys : List Key) (k : ℕ) (d : Key) → are_new seen keys ≡ true → k < length keys → list_any (is_same_key (get_or keys k d)) (seen ++ take k keys) ≡ false
own_before seen [] k d own l = absurd (omega arith)
own_before seen (key ∷ keys) zero d own l =
    let parts = and_parts (not (list_any (is_same_key key) seen)) (are_new (seen ++ key ∷ []) keys) own in
    ap (λ (ks : List Key). list_any (is_same_key key) ks) (append-nil seen) ∙ not-true (list_any (is_same_key key) seen) parts.0
own_before seen (key ∷ keys) (suc k) d own l =
    let parts = and_parts (not (list_any (is_same_key key) seen)) (are_new (seen ++ key ∷ []) keys) own in
    ap (λ (ks : List Key). list_any (is_same_key (get_or keys k d)) ks) (sym (append_assoc seen (key ∷ []) (take k keys)))
    ∙ own_before (seen ++ key ∷ []) keys k d parts.1 (omega arith)

mover_self : (player : Option ℕ) → is_same_mover player player ≡ true
mover_self None = refl
mover_self (Some player) = eq-eqb player player refl

key_self : (key : Key) → is_same_key key key ≡ true
key_self key = and_from (is_same_mover key.0 key.0) (key.1 == key.1) (mover_self key.0) (eq-eqb key.1 key.1 refl)

module _ (sets : List EfgSet) (own : have_own_numbers sets ≡ true) (sound : list_all is_set sets ≡ true) where
  abbrev keys : List Key
  keys = map key_of sets

  abbrev same : ℕ → Key → Bool
  same place = is_same_key (key_of (set_at sets place))

  -- no set before a place has its key
  before : (place : ℕ) → place < length sets → list_any (same place) (take place keys) ≡ false
  before place l =
      let at : get_or keys place (key_of no_set) ≡ key_of (set_at sets place) = get_or-map key_of sets place no_set (key_of no_set) l in
      subst (λ (key : Key). list_any (is_same_key key) (take place keys) ≡ false) at (own_before [] keys place (key_of no_set) own (omega (arith, length-map sets key_of)))

  set_known : (seen place : ℕ) → seen ≤ length sets → place < seen → place_of_set (take seen sets) (set_at sets place).player (set_at sets place).number ≡ Some place
  set_known seen place few l =
      let front : take place (map key_of (take seen sets)) ≡ take place keys =
      take-map key_of place (take seen sets) ∙ ap (λ (xs : List EfgSet). map key_of xs) (take-take place seen sets (omega arith)) ∙ sym (take-map key_of place sets) in
      let long : length (take seen sets) ≡ seen = length-take-le seen sets few in
      let at : get_or (map key_of (take seen sets)) place (key_of no_set) ≡ key_of (set_at sets place) =
      get_or-map key_of (take seen sets) place no_set (key_of no_set) (omega arith) ∙ ap key_of (get_or-take seen sets place no_set l) in
      first_is (same place) (map key_of (take seen sets)) place (key_of no_set)
      (ap (λ (ks : List Key). list_any (same place) ks) front ∙ before place (omega arith))
      (omega (arith, long, length-map (take seen sets) key_of)) (ap (same place) at ∙ key_self (key_of (set_at sets place)))

  set_new : (place : ℕ) → place < length sets → place_of_set (take place sets) (set_at sets place).player (set_at sets place).number ≡ None
  set_new place l =
      none_is (same place) (map key_of (take place sets)) (ap (λ (ks : List Key). list_any (same place) ks) (sym (take-map key_of place sets)) ∙ before place l)

  weights_at : (place : ℕ) → place < length sets → are_weights (set_at sets place).player (probabilities (set_at sets place).actions) ≡ true
  weights_at place l =
      let one : is_set (set_at sets place) ≡ true = each_passes is_set sets place no_set sound l in
      let parts = and_parts (nat_lt (set_at sets place).number (2 ^ 32)) (nat_lt 0 (length (set_at sets place).actions) && are_weights (set_at sets place).player (probabilities (set_at sets place).actions)) one in
      (and_parts (nat_lt 0 (length (set_at sets place).actions)) (are_weights (set_at sets place).player (probabilities (set_at sets place).actions)) parts.1).1

  -- so many sets were seen, and then one is mentioned in full
  pub record IsMentioned (node seen place : ℕ) : Type 0 where
    pub after : ℕ
    pub few : after ≤ length sets
    pub seen_is : Some after ≡ place_after seen place
    pub within : place < after
    pub kept : with_set node (take seen sets) (mention_of (set_at sets place)) ≡ Ok (place, take after sets)

  pub mentioned : (node seen place : ℕ) → seen ≤ length sets → place < length sets → (None ≡ place_after seen place → ⊥) → IsMentioned node seen place
  mentioned node seen place few within there = by (nat_lt place seen) refl
    where
      next : (b : Bool) → nat_lt place seen ≡ false → (place == seen) ≡ b → IsMentioned node seen place
      next true e f =
          let is : seen ≡ place = sym (eqb-true place seen f) in
          let long : length (take place sets) ≡ place = length-take-le place sets (omega arith) in
          let added : with_set node (take place sets) (mention_of (set_at sets place)) ≡ Ok (length (take place sets), take place sets ++ set_at sets place ∷ []) =
          new_set_added node (take place sets) (set_at sets place) (set_new place within) (weights_at place within) in
          record {
            after = seen + 1;
            few = omega arith;
            seen_is = rw (e, f) refl;
            within = omega arith;
            kept = subst (λ (s : ℕ). with_set node (take s sets) (mention_of (set_at sets place)) ≡ Ok (place, take (s + 1) sets)) (sym is)
                (added ∙ ap (λ (k : ℕ). Ok (k, take place sets ++ set_at sets place ∷ [])) long ∙ ap (λ (xs : List EfgSet). Ok (place, xs)) (sym (take_more sets place no_set within)));
          }
      next false e f = absurd (there (rw (e, f) refl))

      by : (b : Bool) → nat_lt place seen ≡ b → IsMentioned node seen place
      by true e =
          let l : place < seen = ltb-true place seen e in
          record {
            after = seen;
            few = few;
            seen_is = rw e refl;
            within = l;
            kept = known_set_kept node (take seen sets) (set_at sets place) place (set_known seen place few l) (get_or-take seen sets place no_set l);
          }
      by false e = next (place == seen) e refl

-- ---- outcomes
module _ (outcomes : List EfgOutcome) where
  abbrev pub numbers : List ℕ
  numbers = map number_of outcomes

  abbrev known : ℕ → ℕ → Bool
  known number x = number == x

  -- so many outcomes were seen, and then a number is mentioned
  pub record IsNumbered (node seen number : ℕ) : Type 0 where
    pub after : ℕ
    pub few : after ≤ length outcomes
    pub seen_is : with_number (0 ∷ take seen numbers) number ≡ 0 ∷ take after numbers
    pub kept : with_outcome node (take seen outcomes) (outcome_mention_of (outcome_in_row outcomes (row_of outcomes number))) ≡ Ok (take after outcomes)
    pub is : (outcome_mention_of (outcome_in_row outcomes (row_of outcomes number))).number ≡ number

  -- the outcome at a place has this number, and none before it
  row_is : (number k : ℕ) → (number == 0) ≡ false → list_any (known number) (take k numbers) ≡ false → k < length outcomes → get_or numbers k 0 ≡ number
      → outcome_in_row outcomes (row_of outcomes number) ≡ Some (outcome_in outcomes k)
  row_is number k some none l at =
      let first : position_or_len (known number) numbers ≡ k = first_len (known number) numbers k 0 none (omega (arith, l, length-map outcomes number_of)) (eq-eqb number (get_or numbers k 0) (sym at)) in
      let row : row_of outcomes number ≡ suc k = rw some (omega (arith, first)) in
      ap (λ (r : ℕ). outcome_in_row outcomes r) row ∙ slice_get-get_or outcomes k no_outcome l

  number_at : (k number : ℕ) → k < length outcomes → get_or numbers k 0 ≡ number → (outcome_in outcomes k).number ≡ number
  number_at k number l at = sym (get_or-map number_of outcomes k no_outcome 0 l) ∙ at

  module _ (node seen number : ℕ) (few : seen ≤ length outcomes) where
    none_mentioned : (number == 0) ≡ true → IsNumbered node seen number
    none_mentioned e =
        let is : 0 ≡ number = sym (eqb-true number 0 e) in
        subst (λ (n : ℕ). IsNumbered node seen n) is (record { after = seen; few = few; seen_is = refl; kept = no_outcome_kept node (take seen outcomes); is = refl })

    front : (k : ℕ) → k ≤ seen → take k (take seen numbers) ≡ take k numbers
    front k l = take-take k seen numbers l

    again_mentioned : (number == 0) ≡ false → list_any (known number) (take seen numbers) ≡ true → IsNumbered node seen number
    again_mentioned some there =
        let first = find_first (known number) (take seen numbers) 0 there in
        let k : ℕ = first.place in
        let long : length (take seen numbers) ≡ seen = length-take-le seen numbers (omega (arith, few, length-map outcomes number_of)) in
        let low : k < seen = omega (arith, first.within, long) in
        let at : get_or numbers k 0 ≡ number = sym (get_or-take seen numbers k 0 low) ∙ sym (eqb-true number (get_or (take seen numbers) k 0) first.passes) in
        let none : list_any (known number) (take k numbers) ≡ false = ap (λ (ns : List ℕ). list_any (known number) ns) (sym (front k (omega arith))) ∙ first.none in
        let row = row_is number k some none (omega arith) at in
        let is : (outcome_in outcomes k).number ≡ number = number_at k number (omega arith) at in
        let place : place_of_outcome (take seen outcomes) number ≡ Some k =
        ap (λ (ns : List ℕ). position (known number) ns) (sym (take-map number_of seen outcomes)) ∙ first_is (known number) (take seen numbers) k 0 first.none first.within first.passes in
        record {
          after = seen;
          few = few;
          seen_is = ap (λ (b : Bool). if b || list_any (known number) (take seen numbers) then 0 ∷ take seen numbers else (0 ∷ take seen numbers ++ number ∷ [])) some
              ∙ ap (λ (b : Bool). if b then 0 ∷ take seen numbers else (0 ∷ take seen numbers ++ number ∷ [])) there;
          kept = ap (λ (o : Option EfgOutcome). with_outcome node (take seen outcomes) (outcome_mention_of o)) row
              ∙ known_outcome_kept node (take seen outcomes) (outcome_in outcomes k) k (ap (λ (n : ℕ). n == 0) is ∙ some)
              (ap (λ (n : ℕ). place_of_outcome (take seen outcomes) n) is ∙ place) (get_or-take seen outcomes k no_outcome low);
          is = ap (λ (o : Option EfgOutcome). (outcome_mention_of o).number) row ∙ is;
        }

    first_mentioned : (more : List ℕ) → (number == 0) ≡ false → list_any (known number) (take seen numbers) ≡ false → first_mentions (with_number (0 ∷ take seen numbers) number) more ≡ 0 ∷ numbers → IsNumbered node seen number
    first_mentioned more some none order =
        let grown : with_number (0 ∷ take seen numbers) number ≡ 0 ∷ take seen numbers ++ number ∷ [] =
        ap (λ (b : Bool). if b || list_any (known number) (take seen numbers) then 0 ∷ take seen numbers else (0 ∷ take seen numbers ++ number ∷ [])) some
        ∙ ap (λ (b : Bool). if b then 0 ∷ take seen numbers else (0 ∷ take seen numbers ++ number ∷ [])) none in
        let long : length (take seen numbers) ≡ seen = length-take-le seen numbers (omega (arith, few, length-map outcomes number_of)) in
        let seam : get_or (0 ∷ take seen numbers ++ number ∷ []) (suc (length (take seen numbers))) 0 ≡ number = get_or-append_seam (take seen numbers) number [] 0 in
        let stays = kept (0 ∷ take seen numbers ++ number ∷ []) more (suc seen) (omega (arith, long, length-append (take seen numbers) (number ∷ []))) in
        let all : first_mentions (0 ∷ take seen numbers ++ number ∷ []) more ≡ 0 ∷ numbers = ap (λ (ns : List ℕ). first_mentions ns more) (sym grown) ∙ order in
        let at : get_or numbers seen 0 ≡ number =
        ap (λ (ns : List ℕ). get_or ns (suc seen) 0) (sym all) ∙ stays ∙ ap (λ (k : ℕ). get_or (0 ∷ take seen numbers ++ number ∷ []) (suc k) 0) (sym long) ∙ seam in
        let low : seen < length numbers = within at in
        let l : seen < length outcomes = omega (arith, low, length-map outcomes number_of) in
        let row = row_is number seen some none l at in
        let is : (outcome_in outcomes seen).number ≡ number = number_at seen number l at in
        let place : place_of_outcome (take seen outcomes) number ≡ None =
        ap (λ (ns : List ℕ). position (known number) ns) (sym (take-map number_of seen outcomes)) ∙ none_is (known number) (take seen numbers) none in
        let more_outcomes : take seen outcomes ++ outcome_in outcomes seen ∷ [] ≡ take (seen + 1) outcomes = sym (take_more outcomes seen no_outcome l) in
        record {
          after = seen + 1;
          few = omega arith;
          seen_is = grown ∙ ap (λ (n : ℕ). 0 ∷ take seen numbers ++ n ∷ []) (sym at) ∙ ap (λ (ns : List ℕ). 0 ∷ ns) (sym (take_more numbers seen 0 low));
          kept = ap (λ (o : Option EfgOutcome). with_outcome node (take seen outcomes) (outcome_mention_of o)) row
              ∙ new_outcome_added node (take seen outcomes) (outcome_in outcomes seen) (ap (λ (n : ℕ). n == 0) is ∙ some)
              (ap (λ (n : ℕ). place_of_outcome (take seen outcomes) n) is ∙ place)
              ∙ ap (λ (xs : List EfgOutcome). Ok xs) more_outcomes;
          is = ap (λ (o : Option EfgOutcome). (outcome_mention_of o).number) row ∙ is;
        }
      where
        within : get_or numbers seen 0 ≡ number → seen < length numbers
        within at = by (nat_lt seen (length numbers)) refl
          where
            by : (b : Bool) → nat_lt seen (length numbers) ≡ b → seen < length numbers
            by true e = ltb-true seen (length numbers) e
            by false e =
                let past : get_or numbers seen 0 ≡ 0 = get_or_past numbers seen 0 (omega (arith, ltb-false seen (length numbers) e)) in
                let other = eqb-false number 0 some in
                absurd (other (sym at ∙ past))

    pub numbered : (more : List ℕ) → first_mentions (with_number (0 ∷ take seen numbers) number) more ≡ 0 ∷ numbers → IsNumbered node seen number
    numbered more order = by (number == 0) refl
      where
        fresh : (b : Bool) → (number == 0) ≡ false → list_any (known number) (take seen numbers) ≡ b → IsNumbered node seen number
        fresh true some e = again_mentioned some e
        fresh false some e = first_mentioned more some e order

        by : (b : Bool) → (number == 0) ≡ b → IsNumbered node seen number
        by true e = none_mentioned e
        by false e = fresh (list_any (known number) (take seen numbers)) e refl
