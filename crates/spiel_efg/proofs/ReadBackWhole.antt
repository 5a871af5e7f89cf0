-- A sound game whose fractions are short is read back from its text.
use Rattle.std.proofs.Common.{◌≡◌, ◌^◌, ◌<◌, ◌≤◌, ◌&&◌, ◌==◌, ℕ, zero, suc, Bool, true, false, List, [], ◌∷◌, ◌++◌, length, map, take, get_or, refl, sym, ap, subst, ◌∙◌, arith, append_assoc, append-nil, Option, Some, None, Ok, nat_lt, ltb-true, ltb-false}
use Rattle.std.specs.Prelude.{ℤ, pos, negsuc, nat_abs, unsigned_abs, All, is_none, slice_get}
use Rattle.std.specs.Int.{IsGcd}
use Rattle.std.specs.List.{list_all, range_with_len}
use Rattle.std.proofs.lemmas.Bool.{and_parts, eqb-true, false≢true}
use Rattle.std.proofs.lemmas.List.{get_or-take, length-map, length-take-le, take_all}
use Rattle.std.proofs.lemmas.List.FromFn.{length-range_with_len}
use Rattle.std.proofs.lemmas.Nat.Gcd.{IsGcd-from_zero, IsGcd-swap, same_from_IsGcd}
use Rattle.std.proofs.lemmas.Option.{slice_get-get_or, slice_get_past}
use Rattle.spiel_frac.specs.Fraction.{Fraction, IsLowest}
use Rattle.spiel_efg.specs.EfgPlays.{IsEfg, each_passes, efg_from}
use Rattle.spiel_efg.specs.Mentions.{are_equal, are_outcomes_in_order, first_mentions, seen_after, sets_in}
use Rattle.spiel_efg.specs.Reading.{game_of_file, seed}
use Rattle.spiel_efg.specs.ReadingNodes.{grown_by, kind_at, no_outcome, one_tree, placed, with_node}
use Rattle.spiel_efg.specs.Sets.{action_count, are_weights, is_set, is_zero, no_set, probabilities, set_at}
use Rattle.spiel_efg.specs.Sound.{is_among, is_kind, is_outcome, is_sound}
use Rattle.spiel_efg.specs.Tree.{counts_of, most_nodes, subtrees}
use Rattle.spiel_efg.specs.Writing.{AreShort, IsShort, efg_text, outcome_in_row, row_of, set_at_node}
use Rattle.spiel_efg.specs.declared.parts.EfgAction.{EfgAction}
use Rattle.spiel_efg.specs.declared.parts.EfgNode.{EfgNode}
use Rattle.spiel_efg.specs.declared.parts.EfgOutcome.{EfgOutcome}
use Rattle.spiel_efg.specs.declared.parts.EfgParts.{EfgParts}
use Rattle.spiel_efg.specs.declared.parts.EfgSet.{EfgSet}
use Rattle.spiel_efg.specs.declared.parts.NodeKind.{NodeKind}
use Rattle.spiel_efg.specs.declared.parts.NodeKind.TheVariants.{Chance, Personal, Terminal}
use Rattle.spiel_efg.specs.declared.read_nodes.Grown.{Grown}
use Rattle.spiel_efg.specs.declared.read_nodes.Placed.{Placed}
use Rattle.spiel_efg.proofs.InOrder.{equal_self, equal_true, late, mention_step}
use Rattle.spiel_efg.proofs.ReadBackFiles.{grown_of, text_read}
use Rattle.spiel_efg.proofs.ReadBackGrowth.{Waits, tree_waits}
use Rattle.spiel_efg.proofs.ReadBackLines.{IsShortAction}
use Rattle.spiel_efg.proofs.ReadBackMentions.{node_added, set_placed}
use Rattle.spiel_efg.proofs.ReadBackNodes.{IsReadable, IsReadableMaybe}
use Rattle.spiel_efg.proofs.ReadBackSteps.{IsMentioned, mentioned, numbered, numbers}
use Rattle.spiel_efg.proofs.ReadBackTrees.{Grows, IsPlayed, IsReadableNode, IsReadableSet, node_mention, set_mention_of}
use Rattle.spiel_efg.proofs.ReadingMentions.{number_of}
use Rattle.spiel_efg.proofs.ReadingSound.{fine_game, outcome_of}
use Rattle.spiel_efg.proofs.WrittenFiles.{IsWritableNode, MaybeOutcome, MaybeSet}
use Rattle.spiel_efg.proofs.WrittenLines.{IsSmallPlayer, IsWritable, IsWritableSet, no_weight}

-- ---- fractions
-- what is zero in lowest terms is the weight of a player's action
weightless : (f : Fraction) → is_zero f ≡ true → IsLowest f → f ≡ no_weight
weightless f zero_is lowest = by f.num zero_is lowest.lowest
  where
    by : (num : ℤ) → (nat_abs num == 0) ≡ true → IsGcd (unsigned_abs num) f.den 1 → record { num = num; den = f.den } ≡ no_weight
    by (pos n) e gcd =
        let none : n ≡ 0 = eqb-true n 0 e in
        let zero_gcd : IsGcd 0 f.den 1 = subst (λ (k : ℕ). IsGcd k f.den 1) none gcd in
        let one : f.den ≡ 1 = same_from_IsGcd f.den 0 f.den 1 (IsGcd-from_zero f.den 0 refl) (IsGcd-swap 0 f.den 1 zero_gcd) in
        let first : ℕ → Fraction = λ k. record { num = pos k; den = f.den } in
        let second : ℕ → Fraction = λ k. record { num = pos 0; den = k } in
        ap first none ∙ ap second one
    by (negsuc n) e gcd = let none : suc n ≡ 0 = eqb-true (suc n) 0 e in absurd (omega arith)

each_zero : (actions : List EfgAction) (k : ℕ) (d : EfgAction) → list_all is_zero (probabilities actions) ≡ true → k < length actions → is_zero (get_or actions k d).weight ≡ true
each_zero [] k d e l = absurd (omega arith)
each_zero (action ∷ actions) zero d e l = (and_parts (is_zero action.weight) (list_all is_zero (probabilities actions)) e).0
each_zero (action ∷ actions) (suc k) d e l = each_zero actions k d (and_parts (is_zero action.weight) (list_all is_zero (probabilities actions)) e).1 (omega arith)

short_actions : (player : Option ℕ) (actions : List EfgAction) → are_weights player (probabilities actions) ≡ true → All (λ action. IsShort action.weight) actions → All (IsShortAction player) actions
short_actions None actions e short = short
short_actions (Some player) actions e short = λ k d l. weightless (get_or actions k d).weight (each_zero actions k d e l) (short k d l).lowest

written_action : (player : Option ℕ) (action : EfgAction) → IsShortAction player action → IsWritable player action
written_action None action short = short.parts
written_action (Some player) action none = none

small_player : (players : ℕ) (player : Option ℕ) → players ≤ 64 → is_among players player ≡ true → IsSmallPlayer player
small_player players None few e = tt
small_player players (Some player) few e = omega (arith, ltb-true player players e)

drawn : (player : Option ℕ) → is_none player ≡ true → player ≡ None
drawn None e = refl
drawn (Some player) e = absurd (false≢true e)

played : (players : ℕ) (one : EfgSet) → players ≤ 64 → is_among players one.player ≡ true → IsPlayed players one
played players one few e = by one.player refl
  where
    by : (player : Option ℕ) → one.player ≡ player → IsPlayed players one
    by None f = absurd (false≢true (sym (ap (is_among players) f) ∙ e))
    by (Some mover) f =
        let low : mover < players = ltb-true mover players (sym (ap (is_among players) f) ∙ e) in
        record { mover = mover; is = f; among = low; small = omega arith }

kind_of_chance : (player : Option ℕ) (place : ℕ) → is_none player ≡ true → kind_at player place ≡ Chance place
kind_of_chance None place e = refl
kind_of_chance (Some player) place e = absurd (false≢true e)

kind_of_player : (players : ℕ) (player : Option ℕ) (place : ℕ) → is_among players player ≡ true → kind_at player place ≡ Personal place
kind_of_player players None place e = absurd (false≢true e)
kind_of_player players (Some player) place e = refl

-- what holds of none, and of each item, holds of what stands at a place
got : {X : Type 0} (P : Option X → Type 0) (xs : List X) (d : X) → P None → ((k : ℕ) → k < length xs → P (Some (get_or xs k d))) → (k : ℕ) → P (slice_get xs k)
got P xs d none each k = by (nat_lt k (length xs)) refl
  where
    by : (b : Bool) → nat_lt k (length xs) ≡ b → P (slice_get xs k)
    by true e = let l : k < length xs = ltb-true k (length xs) e in subst P (sym (slice_get-get_or xs k d l)) (each k l)
    by false e = subst P (sym (slice_get_past xs k (ltb-false k (length xs) e))) none

abbrev grown_at : List EfgSet → List EfgOutcome → List EfgNode → List ℕ → Grown
grown_at sets outcomes nodes to_come = record { sets = sets; outcomes = outcomes; nodes = nodes; to_come = to_come }

module _ (parts : EfgParts) (is : is_sound parts ≡ true) where
  abbrev sound : IsEfg parts
  sound = efg_from parts is

  abbrev players : ℕ
  players = length parts.players

  -- ---- the nodes grow
  record SetStep (node seen : ℕ) (kind : NodeKind) : Type 0 where
    after : ℕ
    few : after ≤ length parts.sets
    seen_is : Some after ≡ seen_after seen kind
    placed_is : placed node (take seen parts.sets) (set_mention_of (set_at_node parts.sets kind)) ≡ Ok (record { kind = kind; count = action_count parts.sets kind; sets = take after parts.sets })

  abbrev placed_with : NodeKind → EfgSet → List EfgSet → Placed
  placed_with kind one sets = record { kind = kind; count = length one.actions; sets = sets }

  place_step : (node seen place : ℕ) (kind : NodeKind) → (m : IsMentioned parts.sets sound.own sound.sets node seen place) → place < length parts.sets → kind_at (set_at parts.sets place).player place ≡ kind
      → placed node (take seen parts.sets) (set_mention_of (slice_get parts.sets place)) ≡ Ok (placed_with kind (set_at parts.sets place) (take m.after parts.sets))
  place_step node seen place kind m within e =
      let one : EfgSet = set_at parts.sets place in
      ap (λ (o : Option EfgSet). placed node (take seen parts.sets) (set_mention_of o)) (slice_get-get_or parts.sets place no_set within)
      ∙ set_placed node (take seen parts.sets) (take m.after parts.sets) one place m.kept
      ∙ ap (λ (k : NodeKind). Ok (placed_with k (set_at (take m.after parts.sets) place) (take m.after parts.sets))) e
      ∙ ap (λ (x : EfgSet). Ok (placed_with kind x (take m.after parts.sets))) (get_or-take m.after parts.sets place no_set m.within)

  set_step : (node seen : ℕ) (kind : NodeKind) → seen ≤ length parts.sets → is_kind players parts.sets kind ≡ true → (None ≡ seen_after seen kind → ⊥) → SetStep node seen kind
  set_step node seen (Chance place) few e there =
      let two = and_parts (nat_lt place (length parts.sets)) (is_none (set_at parts.sets place).player) e in
      let within : place < length parts.sets = ltb-true place (length parts.sets) two.0 in
      let m = mentioned parts.sets sound.own sound.sets node seen place few within there in
      record { after = m.after; few = m.few; seen_is = m.seen_is; placed_is = place_step node seen place (Chance place) m within (kind_of_chance (set_at parts.sets place).player place two.1) }
  set_step node seen (Personal place) few e there =
      let two = and_parts (nat_lt place (length parts.sets)) (is_among players (set_at parts.sets place).player) e in
      let within : place < length parts.sets = ltb-true place (length parts.sets) two.0 in
      let m = mentioned parts.sets sound.own sound.sets node seen place few within there in
      record { after = m.after; few = m.few; seen_is = m.seen_is; placed_is = place_step node seen place (Personal place) m within (kind_of_player players (set_at parts.sets place).player place two.1) }
  set_step node seen Terminal few e there = record { after = seen; few = few; seen_is = refl; placed_is = refl }

  grows_all : (rest front : List EfgNode) (s o : ℕ) (to_come : List ℕ) → s ≤ length parts.sets → o ≤ length parts.outcomes
      → first_mentions (range_with_len 0 s) (sets_in rest) ≡ range_with_len 0 (length parts.sets)
      → first_mentions (0 ∷ take o (numbers parts.outcomes)) (map outcome_of rest) ≡ 0 ∷ numbers parts.outcomes
      → list_all (λ node. is_kind players parts.sets node.kind) rest ≡ true → Waits (counts_of parts.sets rest) to_come
      → Grows (grown_at (take s parts.sets) (take o parts.outcomes) front to_come) (map (node_mention parts) rest) (grown_at parts.sets parts.outcomes (front ++ rest) [])
  grows_all [] front s o (count ∷ to_come) few_sets few_outcomes ordered listed kinds w = absurd (false≢true w)
  grows_all [] front s o [] few_sets few_outcomes ordered listed kinds w =
      let sets_all : take s parts.sets ≡ parts.sets = take_all s parts.sets (omega (arith, ap length ordered, length-range_with_len 0 s, length-range_with_len 0 (length parts.sets))) in
      let long = length-map parts.outcomes number_of in
      let outcomes_all : take o parts.outcomes ≡ parts.outcomes = take_all o parts.outcomes (omega (arith, ap length listed, length-take-le o (numbers parts.outcomes) (omega (arith, few_outcomes, long)), long)) in (
        ap (λ (xs : List EfgSet). grown_at xs (take o parts.outcomes) front []) sets_all
            ∙ ap (λ (xs : List EfgOutcome). grown_at parts.sets xs front []) outcomes_all
            ∙ ap (λ (xs : List EfgNode). grown_at parts.sets parts.outcomes xs []) (sym (append-nil front)),
        refl,
      )
  grows_all (node ∷ rest) front s o to_come few_sets few_outcomes ordered listed kinds w =
      let two = and_parts (is_kind players parts.sets node.kind) (list_all (λ node. is_kind players parts.sets node.kind) rest) kinds in
      let set = set_step (length front) s node.kind few_sets two.0
      (λ e. false≢true (sym (late s (length parts.sets) node rest e) ∙ ap (λ (xs : List ℕ). are_equal xs (range_with_len 0 (length parts.sets))) ordered ∙ equal_self (range_with_len 0 (length parts.sets)))) in
      let outcome = numbered parts.outcomes (length front) o node.outcome few_outcomes (map outcome_of rest) listed in
      let grown : Grown = grown_at (take s parts.sets) (take o parts.outcomes) front to_come in
      let to_come_next : List ℕ = grown_by (subtrees parts.sets node) to_come in
      let next : Grown = grown_at (take set.after parts.sets) (take outcome.after parts.outcomes) (front ++ node ∷ []) to_come_next in
      let at : Placed = record { kind = node.kind; count = action_count parts.sets node.kind; sets = take set.after parts.sets } in
      let numbered_node : ℕ → EfgNode = λ n. record { name = node.name; kind = node.kind; outcome = n } in
      let added : with_node grown (node_mention parts node) ≡ Ok next =
      node_added grown (node_mention parts node) at (take outcome.after parts.outcomes) set.placed_is outcome.kept
      ∙ ap (λ (n : ℕ). Ok (grown_at (take set.after parts.sets) (take outcome.after parts.outcomes) (front ++ numbered_node n ∷ []) to_come_next)) outcome.is in
      let later : Grows next (map (node_mention parts) rest) (grown_at parts.sets parts.outcomes ((front ++ node ∷ []) ++ rest) []) =
      grows_all rest (front ++ node ∷ []) set.after outcome.after to_come_next set.few outcome.few (sym (mention_step s node rest set.after set.seen_is) ∙ ordered)
      (ap (λ (seen : List ℕ). first_mentions seen (map outcome_of rest)) (sym outcome.seen_is) ∙ listed) two.1 w.1.1 in (
        w.0,
        (
          w.1.0,
          (
            next,
            (
              added,
              subst (λ (nodes : List EfgNode). Grows next (map (node_mention parts) rest) (grown_at parts.sets parts.outcomes nodes [])) (append_assoc front (node ∷ []) rest) later,
            ),
          ),
        ),
      )

  outcomes_parts : (list_all (is_outcome players) parts.outcomes ≡ true) × (are_outcomes_in_order parts.outcomes parts.nodes ≡ true)
  outcomes_parts = and_parts (list_all (is_outcome players) parts.outcomes) (are_outcomes_in_order parts.outcomes parts.nodes) sound.outcomes

  grows : Grows seed (map (node_mention parts) parts.nodes) (grown_of parts)
  grows =
      grows_all parts.nodes [] 0 0 one_tree (omega arith) (omega arith) (equal_true (first_mentions [] (sets_in parts.nodes)) (range_with_len 0 (length parts.sets)) sound.ordered)
      (equal_true (first_mentions (0 ∷ []) (map outcome_of parts.nodes)) (0 ∷ numbers parts.outcomes) outcomes_parts.1)
      sound.kinds (tree_waits (counts_of parts.sets parts.nodes) sound.tree sound.shallow)

  -- ---- what is written is read
  module _ (short : AreShort parts) where
    record SetFits (place : ℕ) : Type 0 where
      number : (set_at parts.sets place).number < 2 ^ 32
      some : 0 < length (set_at parts.sets place).actions
      actions : All (IsShortAction (set_at parts.sets place).player) (set_at parts.sets place).actions

    set_fits : (place : ℕ) → place < length parts.sets → SetFits place
    set_fits place l =
        let one : EfgSet = set_at parts.sets place in
        let parts_of = and_parts (nat_lt one.number (2 ^ 32)) (nat_lt 0 (length one.actions) && are_weights one.player (probabilities one.actions)) (each_passes is_set parts.sets place no_set sound.sets l) in
        let more = and_parts (nat_lt 0 (length one.actions)) (are_weights one.player (probabilities one.actions)) parts_of.1 in
        record { number = ltb-true one.number (2 ^ 32) parts_of.0; some = ltb-true 0 (length one.actions) more.0; actions = short_actions one.player one.actions more.1 (short.weights place no_set l) }

    readable : (place : ℕ) → place < length parts.sets → IsReadable players (set_at parts.sets place)
    readable place l = let fits = set_fits place l in record { number = fits.number; some = fits.some; actions = fits.actions }

    writable : (place : ℕ) → place < length parts.sets → IsSmallPlayer (set_at parts.sets place).player → IsWritableSet (set_at parts.sets place)
    writable place l small =
        let fits = set_fits place l in
        record { number = fits.number; player = small; actions = λ k d m. written_action (set_at parts.sets place).player (get_or (set_at parts.sets place).actions k d) (fits.actions k d m) }

    abbrev SetIsRead : NodeKind → Type 0
    SetIsRead kind = MaybeSet (set_at_node parts.sets kind) × IsReadableSet players kind (set_at_node parts.sets kind)

    set_is_read : (kind : NodeKind) → is_kind players parts.sets kind ≡ true → SetIsRead kind
    set_is_read (Chance place) e =
        let two = and_parts (nat_lt place (length parts.sets)) (is_none (set_at parts.sets place).player) e in
        let l : place < length parts.sets = ltb-true place (length parts.sets) two.0 in
        let none : (set_at parts.sets place).player ≡ None = drawn (set_at parts.sets place).player two.1 in
        subst (λ (o : Option EfgSet). MaybeSet o × IsReadableSet players (Chance place) o) (sym (slice_get-get_or parts.sets place no_set l))
        (writable place l (subst IsSmallPlayer (sym none) tt), (none, readable place l))
    set_is_read (Personal place) e =
        let two = and_parts (nat_lt place (length parts.sets)) (is_among players (set_at parts.sets place).player) e in
        let l : place < length parts.sets = ltb-true place (length parts.sets) two.0 in
        subst (λ (o : Option EfgSet). MaybeSet o × IsReadableSet players (Personal place) o) (sym (slice_get-get_or parts.sets place no_set l))
        (writable place l (small_player players (set_at parts.sets place).player sound.players_high two.1), (played players (set_at parts.sets place) sound.players_high two.1, readable place l))
    set_is_read Terminal e = (tt, tt)

    abbrev OutcomeIsRead : Option EfgOutcome → Type 0
    OutcomeIsRead one = MaybeOutcome one × IsReadableMaybe players one

    outcome_is_read : (row : ℕ) → OutcomeIsRead (outcome_in_row parts.outcomes row)
    outcome_is_read zero = (tt, tt)
    outcome_is_read (suc k) = got OutcomeIsRead parts.outcomes no_outcome (tt, tt) one k
      where
        one : (k : ℕ) → k < length parts.outcomes → OutcomeIsRead (Some (get_or parts.outcomes k no_outcome))
        one k l =
            let outcome : EfgOutcome = get_or parts.outcomes k no_outcome in
            let two = and_parts (nat_lt outcome.number (2 ^ 32)) (length outcome.pays == players) (each_passes (is_outcome players) parts.outcomes k no_outcome outcomes_parts.0 l) in
            let number : outcome.number < 2 ^ 32 = ltb-true outcome.number (2 ^ 32) two.0 in
            let pays = short.pays k no_outcome l in (
              record { number = number; pays = λ i d m. (pays i d m).parts },
              record { number = number; count = eqb-true (length outcome.pays) players two.1; pays = pays },
            )

    node_is_read : (node : EfgNode) → is_kind players parts.sets node.kind ≡ true → IsWritableNode parts node × IsReadableNode players parts node
    node_is_read node e =
        let set = set_is_read node.kind e in
        let outcome = outcome_is_read (row_of parts.outcomes node.outcome) in
        (record { set = set.0; outcome = outcome.0 }, record { set = set.1; outcome = outcome.1 })

    pub text_reads_back : game_of_file (efg_text parts) ≡ Ok parts
    text_reads_back =
        let each : (k : ℕ) (d : EfgNode) → k < length parts.nodes → IsWritableNode parts (get_or parts.nodes k d) × IsReadableNode players parts (get_or parts.nodes k d) =
        λ k d l. node_is_read (get_or parts.nodes k d) (each_passes (λ node. is_kind players parts.sets node.kind) parts.nodes k d sound.kinds l) in
        let few : length parts.nodes ≤ most_nodes = omega (arith, sound.nodes_few, length-map parts.nodes (subtrees parts.sets)) in
        fine_game (efg_text parts) parts (text_read parts sound.players_count few (λ k d l. (each k d l).0) (λ k d l. (each k d l).1) grows) is
