-- What grows node by node stays sound: the sets and the outcomes.
use Rattle.std.proofs.Common.{◌≡◌, ℕ, ◌+◌, ◌<◌, ◌≤◌, ◌^◌, Bool, true, false, ◌&&◌, List, [], ◌∷◌, ◌++◌, length, map, refl, sym, ap, ◌∙◌, arith, nat_lt, ◌==◌, eq-eqb, append_assoc, append-nil, Option, Some, None, Result, Ok, Err, if◌then◌else◌}
use Rattle.std.specs.Prelude.{is_none, not, sum, ◌||◌}
use Rattle.std.specs.List.{list_all, list_any}
use Rattle.std.proofs.lemmas.Bool.{and_from, and_parts, eqb-true, le-ltb, lt-ltb, ltb-true}
use Rattle.std.proofs.lemmas.List.{get_or-map, get_or_append_left, length-map, length_push, map_push}
use Rattle.std.proofs.lemmas.List.Folds.{list_all-append, list_any_at}
use Rattle.std.proofs.lemmas.List.Quantifiers.{position-Some}
use Rattle.std.proofs.Math.Seq.{get_or-append_seam}
use Rattle.spiel_frac.specs.Fraction.{Fraction}
use Rattle.spiel_matrix.specs.Pays.{common_unit}
use Rattle.spiel_efg.specs.Mentions.{place_after, seen_after, with_number}
use Rattle.spiel_efg.specs.Sets.{Key, action_count, are_new, are_probabilities, are_weights, have_own_numbers, is_negative, is_same_key, is_same_mover, is_set, is_unit, key_of, no_set, probabilities, set_at, whole_weights}
use Rattle.spiel_efg.specs.Sound.{is_among, is_kind, is_outcome}
use Rattle.spiel_efg.specs.Tree.{counts_of}
use Rattle.spiel_efg.specs.ReadingNodes.{first_outcome, first_set, go_on, kind_at, outcome_in, place_of_outcome, place_of_set, place_or_last, placed, placed_at, repeats_actions, repeats_pays, tested_actions, tested_weights, with_first, with_first_pays, with_found, with_known, with_outcome, with_set, without_pays}
use Rattle.spiel_efg.specs.declared.parts.EfgAction.{EfgAction}
use Rattle.spiel_efg.specs.declared.parts.EfgNode.{EfgNode}
use Rattle.spiel_efg.specs.declared.parts.EfgOutcome.{EfgOutcome}
use Rattle.spiel_efg.specs.declared.parts.EfgSet.{EfgSet}
use Rattle.spiel_efg.specs.declared.parts.NodeKind.{NodeKind}
use Rattle.spiel_efg.specs.declared.parts.NodeKind.TheVariants.{Chance, Personal, Terminal}
use Rattle.spiel_efg.specs.declared.read_fault.EfgFault.{EfgFault}
use Rattle.spiel_efg.specs.declared.read_fault.EfgFault.TheVariants.{SetClash, ChanceSum, ChanceTooFine, OutcomeClash}
use Rattle.spiel_efg.specs.declared.read_mentions.OutcomeMention.{OutcomeMention}
use Rattle.spiel_efg.specs.declared.read_mentions.SetMention.{SetMention}
use Rattle.spiel_efg.specs.declared.read_nodes.Placed.{Placed}
use Rattle.spiel_efg.proofs.ReadingGives.{AreActions, Gives, Holds, IsOutcomeMention, IsSetMention, are_light}
use Rattle.spiel_efg.proofs.ReadingMentions.{none_seen, number_of}

pub go_then : {A B : Type 0} (P : A → Type 0) (Q : B → Type 0) (next : A → Result B EfgFault) (answer : Result A EfgFault) → Gives P answer → ((a : A) → P a → Gives Q (next a)) → Gives Q (go_on next answer)
go_then P Q next (Ok a) holds step = step a holds
go_then P Q next (Err fault) holds step = tt

-- ---- probabilities
weights_tested : (node : ℕ) (weights : List Fraction) → Gives (λ (done : Unit {0}). are_probabilities weights ≡ true) (tested_weights node weights)
unfolding tested_weights
weights_tested node weights = by (list_all (λ weight. not (is_negative weight)) weights) (is_unit (common_unit weights)) (sum (whole_weights weights) == common_unit weights) refl refl refl
  where
    by : (positive fine whole : Bool) → list_all (λ weight. not (is_negative weight)) weights ≡ positive → is_unit (common_unit weights) ≡ fine → (sum (whole_weights weights) == common_unit weights) ≡ whole
        → Gives (λ (done : Unit {0}). are_probabilities weights ≡ true) (if positive then (if fine then (if whole then Ok tt else Err (ChanceSum node)) else Err (ChanceTooFine node)) else Err (ChanceSum node))
    by true true true e f g =
        and_from (list_all (λ weight. not (is_negative weight)) weights) (is_unit (common_unit weights) && (sum (whole_weights weights) == common_unit weights)) e
        (and_from (is_unit (common_unit weights)) (sum (whole_weights weights) == common_unit weights) f g)
    by true true false e f g = tt
    by true false whole e f g = tt
    by false fine whole e f g = tt

actions_tested : (node : ℕ) (player : Option ℕ) (actions : List EfgAction) → are_light (is_none player) actions ≡ true
    → Gives (λ (done : Unit {0}). are_weights player (probabilities actions) ≡ true) (tested_actions node player actions)
actions_tested node None actions light = weights_tested node (probabilities actions)
actions_tested node (Some player) actions light = light

-- ---- a set that is new goes last
pub new_more : (seen keys : List Key) (key : Key) → are_new seen keys ≡ true → list_any (is_same_key key) (seen ++ keys) ≡ false → are_new seen (keys ++ key ∷ []) ≡ true
new_more seen [] key own other =
    let none : list_any (is_same_key key) seen ≡ false = ap (λ (ks : List Key). list_any (is_same_key key) ks) (sym (append-nil seen)) ∙ other in
    rw none refl
new_more seen (first ∷ keys) key own other =
    let parts = and_parts (not (list_any (is_same_key first) seen)) (are_new (seen ++ first ∷ []) keys) own in
    and_from (not (list_any (is_same_key first) seen)) (are_new (seen ++ first ∷ []) (keys ++ key ∷ [])) parts.0
    (new_more (seen ++ first ∷ []) keys key parts.1 (ap (λ (ks : List Key). list_any (is_same_key key) ks) (append_assoc seen (first ∷ []) keys) ∙ other))

same_mover : (p q : Option ℕ) → is_same_mover p q ≡ true → q ≡ p
same_mover None None e = refl
same_mover None (Some q) e = absurd cc
same_mover (Some p) None e = absurd cc
same_mover (Some p) (Some q) e = ap (λ (n : ℕ). Some n) (sym (eqb-true p q e))

-- the sets after a mention: those before stay where they are, and the one that is mentioned is there
pub record IsPlaced (sets : List EfgSet) (mention : SetMention) (place : ℕ) (more : List EfgSet) : Type 0 where
  pub kept : (k : ℕ) → k < length sets → set_at more k ≡ set_at sets k
  pub longer : length sets ≤ length more
  pub within : place < length more
  pub mover : (set_at more place).player ≡ mention.player
  pub seen : Some (length more) ≡ place_after (length sets) place
  pub sound : list_all is_set more ≡ true
  pub own : have_own_numbers more ≡ true

module _ (players node : ℕ) (sets : List EfgSet) (mention : SetMention) (is : IsSetMention players mention) (sound : list_all is_set sets ≡ true) (own : have_own_numbers sets ≡ true) where
  abbrev Placing : ℕ × List EfgSet → Type 0
  Placing found = IsPlaced sets mention found.0 found.1

  again_placed : (place : ℕ) → place_of_set sets mention.player mention.number ≡ Some place → IsPlaced sets mention place sets
  again_placed place e =
      let found = position-Some (is_same_key (mention.player, mention.number)) (map key_of sets) place (key_of no_set) e in
      let within : place < length sets = omega (arith, found.0, length-map sets key_of) in
      let same : is_same_key (mention.player, mention.number) (key_of (set_at sets place)) ≡ true =
      ap (λ (key : Key). is_same_key (mention.player, mention.number) key) (sym (get_or-map key_of sets place no_set (key_of no_set) within)) ∙ found.1 in
      let mover = and_parts (is_same_mover mention.player (set_at sets place).player) (mention.number == (set_at sets place).number) same in
      record {
        kept = λ k l. refl;
        longer = omega arith;
        within = within;
        mover = same_mover mention.player (set_at sets place).player mover.0;
        seen = sym (ap (λ (b : Bool). if b then Some (length sets) else (if place == length sets then Some (length sets + 1) else None)) (lt-ltb place (length sets) within));
        sound = sound;
        own = own;
      }

  abbrev one : List EfgAction → EfgSet
  one actions = first_set mention actions

  first_placed : (actions : List EfgAction) → place_of_set sets mention.player mention.number ≡ None → nat_lt 0 (length actions) ≡ true → are_weights mention.player (probabilities actions) ≡ true
      → IsPlaced sets mention (length sets) (sets ++ one actions ∷ [])
  first_placed actions e some weights =
      let pushed : List EfgSet = sets ++ one actions ∷ [] in
      let long : length pushed ≡ length sets + 1 = length_push sets (one actions) in
      let last : set_at pushed (length sets) ≡ one actions = get_or-append_seam sets (one actions) [] no_set in
      let none : list_any (is_same_key (mention.player, mention.number)) (map key_of sets) ≡ false = none_seen (is_same_key (mention.player, mention.number)) (map key_of sets) e in
      let right : is_set (one actions) ≡ true =
      and_from (nat_lt mention.number (2 ^ 32)) (nat_lt 0 (length actions) && are_weights mention.player (probabilities actions)) is.number
      (and_from (nat_lt 0 (length actions)) (are_weights mention.player (probabilities actions)) some weights) in
      record {
        kept = λ k l. get_or_append_left sets (one actions ∷ []) no_set k l;
        longer = omega (arith, long);
        within = omega (arith, long);
        mover = ap (λ (set : EfgSet). set.player) last;
        seen = ap (λ (n : ℕ). Some n) long ∙ sym (last_after (length sets));
        sound = list_all-append is_set sets (one actions ∷ []) ∙ and_from (list_all is_set sets) (is_set (one actions) && true) sound (and_from (is_set (one actions)) true right refl);
        own = ap (λ (keys : List Key). are_new [] keys) (map_push key_of sets (one actions)) ∙ new_more [] (map key_of sets) (mention.player, mention.number) own none;
      }
    where
      last_after : (n : ℕ) → place_after n n ≡ Some (n + 1)
      last_after n = rw (le-ltb n n (omega arith), eq-eqb n n refl) refl

  pub set_placed : Gives Placing (with_set node sets mention)
  unfolding with_set
  set_placed = by (place_of_set sets mention.player mention.number) refl
    where
      again : (place : ℕ) (same : Bool) → place_of_set sets mention.player mention.number ≡ Some place → Gives Placing (go_on (λ more. Ok (place, more)) (if same then Ok sets else Err (SetClash node)))
      again place true e = again_placed place e
      again place false e = tt

      first : (actions : Option (List EfgAction)) → Holds (AreActions (is_none mention.player)) actions → place_of_set sets mention.player mention.number ≡ None
          → Gives Placing (go_on (λ more. Ok (length sets, more)) (with_first node sets mention actions))
      first None holds e = tt
      first (Some actions) holds e =
          go_then (λ (more : List EfgSet). IsPlaced sets mention (length sets) more) Placing (λ more. Ok (length sets, more)) (with_first node sets mention (Some actions))
          (go_then (λ (done : Unit {0}). are_weights mention.player (probabilities actions) ≡ true) (λ (more : List EfgSet). IsPlaced sets mention (length sets) more) (λ done. Ok (sets ++ one actions ∷ [])) (tested_actions node mention.player actions)
          (actions_tested node mention.player actions holds.light)
          (λ done weights. first_placed actions e holds.some weights))
          (λ more placed. placed)

      by : (place : Option ℕ) → place_of_set sets mention.player mention.number ≡ place → Gives Placing (go_on (λ more. Ok (place_or_last sets place, more)) (with_found node sets mention place))
      by (Some place) e = again place (repeats_actions (set_at sets place).actions mention.actions) e
      by None e = first mention.actions is.actions e

-- ---- where a node is placed
pub record IsAt (players : ℕ) (sets : List EfgSet) (at : Placed) : Type 0 where
  pub kept : (k : ℕ) → k < length sets → set_at at.sets k ≡ set_at sets k
  pub longer : length sets ≤ length at.sets
  pub kind : is_kind players at.sets at.kind ≡ true
  pub count : at.count ≡ action_count at.sets at.kind
  pub seen : Some (length at.sets) ≡ seen_after (length sets) at.kind
  pub sound : list_all is_set at.sets ≡ true
  pub own : have_own_numbers at.sets ≡ true

kind_is : (players : ℕ) (sets : List EfgSet) (player : Option ℕ) (place : ℕ) → Holds (λ p. nat_lt p players ≡ true) player → place < length sets → (set_at sets place).player ≡ player
    → is_kind players sets (kind_at player place) ≡ true
kind_is players sets None place among within mover = and_from (nat_lt place (length sets)) (is_none (set_at sets place).player) (lt-ltb place (length sets) within) (ap (λ (p : Option ℕ). is_none p) mover)
kind_is players sets (Some player) place among within mover =
    and_from (nat_lt place (length sets)) (is_among players (set_at sets place).player) (lt-ltb place (length sets) within) (ap (λ (p : Option ℕ). is_among players p) mover ∙ among)

count_is : (sets : List EfgSet) (player : Option ℕ) (place : ℕ) → length (set_at sets place).actions ≡ action_count sets (kind_at player place)
count_is sets None place = refl
count_is sets (Some player) place = refl

seen_is : (seen : ℕ) (player : Option ℕ) (place : ℕ) → place_after seen place ≡ seen_after seen (kind_at player place)
seen_is seen None place = refl
seen_is seen (Some player) place = refl

pub placed_is : (players node : ℕ) (sets : List EfgSet) (mention : Option SetMention) → Holds (IsSetMention players) mention → list_all is_set sets ≡ true → have_own_numbers sets ≡ true
    → Gives (IsAt players sets) (placed node sets mention)
placed_is players node sets None holds sound own = record { kept = λ k l. refl; longer = omega arith; kind = refl; count = refl; seen = refl; sound = sound; own = own }
placed_is players node sets (Some mention) is sound own =
    go_then (λ (found : ℕ × List EfgSet). IsPlaced sets mention found.0 found.1) (IsAt players sets) (λ found. Ok (placed_at mention found.0 found.1)) (with_set node sets mention)
    (set_placed players node sets mention is sound own)
    (λ found at. record {
      kept = at.kept;
      longer = at.longer;
      kind = kind_is players found.1 mention.player found.0 is.mover at.within at.mover;
      count = count_is found.1 mention.player found.0;
      seen = at.seen ∙ seen_is (length sets) mention.player found.0;
      sound = at.sound;
      own = at.own;
    })

-- ---- the nodes before
module _ (players : ℕ) (sets more : List EfgSet) (kept : (k : ℕ) → k < length sets → set_at more k ≡ set_at sets k) (longer : length sets ≤ length more) where
  abbrev Kept : NodeKind → Type 0
  Kept kind = (is_kind players more kind ≡ true) × (action_count more kind ≡ action_count sets kind)

  kind_kept : (kind : NodeKind) → is_kind players sets kind ≡ true → Kept kind
  kind_kept (Chance place) e =
      let parts = and_parts (nat_lt place (length sets)) (is_none (set_at sets place).player) e in
      let within : place < length sets = ltb-true place (length sets) parts.0 in (
        and_from (nat_lt place (length more)) (is_none (set_at more place).player) (lt-ltb place (length more) (omega (arith, within, longer)))
            (ap (λ (set : EfgSet). is_none set.player) (kept place within) ∙ parts.1),
        ap (λ (set : EfgSet). length set.actions) (kept place within),
      )
  kind_kept (Personal place) e =
      let parts = and_parts (nat_lt place (length sets)) (is_among players (set_at sets place).player) e in
      let within : place < length sets = ltb-true place (length sets) parts.0 in (
        and_from (nat_lt place (length more)) (is_among players (set_at more place).player) (lt-ltb place (length more) (omega (arith, within, longer)))
            (ap (λ (set : EfgSet). is_among players set.player) (kept place within) ∙ parts.1),
        ap (λ (set : EfgSet). length set.actions) (kept place within),
      )
  kind_kept Terminal e = (refl, refl)

  pub kinds_kept : (nodes : List EfgNode) → list_all (λ node. is_kind players sets node.kind) nodes ≡ true → list_all (λ node. is_kind players more node.kind) nodes ≡ true
  kinds_kept [] e = refl
  kinds_kept (node ∷ nodes) e =
      let parts = and_parts (is_kind players sets node.kind) (list_all (λ node. is_kind players sets node.kind) nodes) e in
      and_from (is_kind players more node.kind) (list_all (λ node. is_kind players more node.kind) nodes) (kind_kept node.kind parts.0).0 (kinds_kept nodes parts.1)

  pub counts_kept : (nodes : List EfgNode) → list_all (λ node. is_kind players sets node.kind) nodes ≡ true → counts_of more nodes ≡ counts_of sets nodes
  counts_kept [] e = refl
  counts_kept (node ∷ nodes) e =
      let parts = and_parts (is_kind players sets node.kind) (list_all (λ node. is_kind players sets node.kind) nodes) e in
      let one : action_count more node.kind ≡ action_count sets node.kind = (kind_kept node.kind parts.0).1 in
      ap (λ (count : ℕ). count ∷ counts_of more nodes) one ∙ ap (λ (counts : List ℕ). action_count sets node.kind ∷ counts) (counts_kept nodes parts.1)

-- ---- outcomes
pub record AreMore (players : ℕ) (outcomes : List EfgOutcome) (number : ℕ) (more : List EfgOutcome) : Type 0 where
  pub whole : list_all (is_outcome players) more ≡ true
  pub first : with_number (0 ∷ map number_of outcomes) number ≡ 0 ∷ map number_of more

module _ (players node : ℕ) (outcomes : List EfgOutcome) (mention : OutcomeMention) (is : IsOutcomeMention players mention) (whole : list_all (is_outcome players) outcomes ≡ true) where
  abbrev More : List EfgOutcome → Type 0
  More more = AreMore players outcomes mention.number more

  abbrev noted : Bool → List ℕ
  noted seen = if seen then 0 ∷ map number_of outcomes else (0 ∷ map number_of outcomes ++ mention.number ∷ [])

  seen_zero : (mention.number == 0) ≡ true → More outcomes
  seen_zero e = record { whole = whole; first = ap noted (ap (λ (b : Bool). b || list_any (λ (x : ℕ). mention.number == x) (map number_of outcomes)) e) }

  seen_again : (place : ℕ) → (mention.number == 0) ≡ false → place_of_outcome outcomes mention.number ≡ Some place → More outcomes
  seen_again place e f =
      let found = position-Some (λ (x : ℕ). mention.number == x) (map number_of outcomes) place 0 f in
      let there : list_any (λ (x : ℕ). mention.number == x) (map number_of outcomes) ≡ true = list_any_at (λ (x : ℕ). mention.number == x) (map number_of outcomes) place 0 found.0 found.1 in
      record { whole = whole; first = ap noted (ap (λ (b : Bool). b || list_any (λ (x : ℕ). mention.number == x) (map number_of outcomes)) e ∙ there) }

  seen_first : (pays : List Fraction) → length pays ≡ players → (mention.number == 0) ≡ false → place_of_outcome outcomes mention.number ≡ None → More (outcomes ++ first_outcome mention pays ∷ [])
  seen_first pays long e f =
      let one : EfgOutcome = first_outcome mention pays in
      let none : list_any (λ (x : ℕ). mention.number == x) (map number_of outcomes) ≡ false = none_seen (λ (x : ℕ). mention.number == x) (map number_of outcomes) f in
      record {
        whole = list_all-append (is_outcome players) outcomes (one ∷ [])
            ∙ and_from (list_all (is_outcome players) outcomes) (is_outcome players one && true) whole
            (and_from (is_outcome players one) true (and_from (nat_lt mention.number (2 ^ 32)) (length pays == players) is.number (eq-eqb (length pays) players long)) refl);
        first = ap noted (ap (λ (b : Bool). b || list_any (λ (x : ℕ). mention.number == x) (map number_of outcomes)) e ∙ none)
            ∙ ap (λ (ns : List ℕ). 0 ∷ ns) (sym (map_push number_of outcomes one));
      }

  pub outcome_is : Gives More (with_outcome node outcomes mention)
  unfolding with_outcome
  outcome_is = by (mention.number == 0) refl
    where
      zero_pays : (pays : Option (List Fraction)) → (mention.number == 0) ≡ true → Gives More (without_pays node outcomes pays)
      zero_pays None e = seen_zero e
      zero_pays (Some pays) e = tt

      again : (place : ℕ) (same : Bool) → (mention.number == 0) ≡ false → place_of_outcome outcomes mention.number ≡ Some place → Gives More (if same then Ok outcomes else Err (OutcomeClash node))
      again place true e f = seen_again place e f
      again place false e f = tt

      first : (pays : Option (List Fraction)) → Holds (λ pays. length pays ≡ players) pays → (mention.number == 0) ≡ false → place_of_outcome outcomes mention.number ≡ None → Gives More (with_first_pays node outcomes mention pays)
      first None holds e f = tt
      first (Some pays) long e f = seen_first pays long e f

      known : (place : Option ℕ) → (mention.number == 0) ≡ false → place_of_outcome outcomes mention.number ≡ place → Gives More (with_known node outcomes mention place)
      known (Some place) e f = again place (repeats_pays (outcome_in outcomes place).pays mention.pays) e f
      known None e f = first mention.pays is.pays e f

      by : (none : Bool) → (mention.number == 0) ≡ none → Gives More (if none then without_pays node outcomes mention.pays else with_known node outcomes mention (place_of_outcome outcomes mention.number))
      by true e = zero_pays mention.pays e
      by false e = known (place_of_outcome outcomes mention.number) e refl
