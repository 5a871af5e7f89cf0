-- What is read has the form of a game: all but the sizes of payoffs is right.
use Rattle.std.proofs.Common.{◌≡◌, ℕ, zero, suc, ◌+◌, ◌≤◌, Bool, true, false, ◌&&◌, List, [], ◌∷◌, ◌++◌, length, map, refl, sym, ap, ◌∙◌, arith, nat_le, append_assoc, append-nil, Ok, Err, Result, if◌then◌else◌}
use Rattle.std.specs.Prelude.{fold, ⊤}
use Rattle.std.specs.List.{cons_option, list_all, range_with_len}
use Rattle.std.proofs.lemmas.Bool.{and_from, le-leb, ltb-false}
use Rattle.std.proofs.lemmas.List.{length-map, length_push, map_push}
use Rattle.std.proofs.lemmas.List.Folds.{list_all-append}
use Rattle.std.proofs.lemmas.List.Sums.{fold-append}
use Rattle.spiel_string.specs.Tokens.{file_tokens}
use Rattle.spiel_string.specs.declared.token.Token.{Token}
use Rattle.spiel_string.specs.declared.token.TokenFault.{TokenFault}
use Rattle.spiel_string.specs.declared.token.TokenFault.TheVariants.{Unclosed, NoMemory as NoMemoryForTokens}
use Rattle.spiel_efg.specs.EfgPays.{are_pays_fine}
use Rattle.spiel_efg.specs.Mentions.{are_equal, are_sets_in_order, are_outcomes_in_order, first_mentions, set_of, sets_in, with_number}
use Rattle.spiel_efg.specs.Reading.{begun_at, behind_head, ended, fine_parts, game_of_file, is_too_deep, is_whole, node_at, parts_at, parts_of_file, parts_with, seed, too_large, tree_at, with_mention, with_tokens}
use Rattle.spiel_efg.specs.ReadingLines.{head_at, node_behind}
use Rattle.spiel_efg.specs.ReadingNodes.{go_on, grown_with, placed, settled, taken, with_node, with_outcome}
use Rattle.spiel_efg.specs.ReadingTokens.{IsComputed, Mark, Rest, and_then, begins_at, rest_from}
use Rattle.spiel_efg.specs.Sets.{have_own_numbers, is_set}
use Rattle.spiel_efg.specs.Sound.{are_outcomes, are_sets, has_form, is_kind, is_outcome, is_player_count, is_sound}
use Rattle.spiel_efg.specs.Tree.{are_shallow, counts_of, is_forest, is_shallow, is_tree, most_moves, most_nodes, subtrees}
use Rattle.spiel_efg.specs.declared.parts.EfgNode.{EfgNode}
use Rattle.spiel_efg.specs.declared.parts.EfgOutcome.{EfgOutcome}
use Rattle.spiel_efg.specs.declared.parts.EfgParts.{EfgParts}
use Rattle.spiel_efg.specs.declared.parts.NodeKind.{NodeKind}
use Rattle.spiel_efg.specs.declared.parts.NodeKind.TheVariants.{Chance, Personal, Terminal}
use Rattle.spiel_efg.specs.declared.read_fault.EfgFault.{EfgFault}
use Rattle.spiel_efg.specs.declared.read_fault.EfgFault.TheVariants.{TooLarge, PayTooFine}
use Rattle.spiel_efg.specs.declared.read_mentions.Begins.{Begins}
use Rattle.spiel_efg.specs.declared.read_mentions.Head.{Head}
use Rattle.spiel_efg.specs.declared.read_mentions.NodeMention.{NodeMention}
use Rattle.spiel_efg.specs.declared.read_nodes.Grown.{Grown}
use Rattle.spiel_efg.specs.declared.read_nodes.Placed.{Placed}
use Rattle.spiel_efg.proofs.InOrder.{equal_self, mention_step}
use Rattle.spiel_efg.proofs.ReadingForests.{forest_more, settled_twice, shallow_more, still, waits}
use Rattle.spiel_efg.proofs.ReadingGives.{Gives, IsHead, IsNodeMention, Reads, given, gives_then, head_reads, node_reads, reads_any, reads_then}
use Rattle.spiel_efg.proofs.ReadingGrowth.{AreMore, IsAt, counts_kept, go_then, kinds_kept, outcome_is, placed_is}
use Rattle.spiel_efg.proofs.ReadingLists.{passed_on}
use Rattle.spiel_efg.proofs.ReadingMentions.{number_of}

abbrev pub outcome_of : EfgNode → ℕ
outcome_of node = node.outcome

-- ---- what has grown is sound
pub record IsGrown (players : ℕ) (grown : Grown) : Type 0 where
  pub sound : list_all is_set grown.sets ≡ true
  pub own : have_own_numbers grown.sets ≡ true
  pub kinds : list_all (λ node. is_kind players grown.sets node.kind) grown.nodes ≡ true
  pub in_order : first_mentions [] (sets_in grown.nodes) ≡ range_with_len 0 (length grown.sets)
  pub whole : list_all (is_outcome players) grown.outcomes ≡ true
  pub numbered : first_mentions (0 ∷ []) (map outcome_of grown.nodes) ≡ 0 ∷ map number_of grown.outcomes
  pub steady : settled grown.to_come ≡ grown.to_come
  pub forest : (counts : List ℕ) → is_forest 1 (counts_of grown.sets grown.nodes ++ counts) ≡ is_forest (still grown.to_come) counts
  pub shallow : (counts : List ℕ) → are_shallow (0 ∷ []) (counts_of grown.sets grown.nodes ++ counts) ≡ are_shallow (waits grown.to_come) counts

seed_grown : (players : ℕ) → IsGrown players seed
seed_grown players = record { sound = refl; own = refl; kinds = refl; in_order = refl; whole = refl; numbered = refl; steady = refl; forest = λ counts. refl; shallow = λ counts. refl }

mentions_push : (seen : List ℕ) (nodes : List EfgNode) (node : EfgNode) → first_mentions seen (sets_in (nodes ++ node ∷ [])) ≡ first_mentions (first_mentions seen (sets_in nodes)) (sets_in (node ∷ []))
mentions_push seen [] node = refl
mentions_push seen (first ∷ nodes) node = by first.kind (λ now. mentions_push now nodes node)
  where
    by : (kind : NodeKind) → ((now : List ℕ) → first_mentions now (sets_in (nodes ++ node ∷ [])) ≡ first_mentions (first_mentions now (sets_in nodes)) (sets_in (node ∷ []))) → fold with_number seen (cons_option (set_of kind) (sets_in (nodes ++ node ∷ []))) ≡ fold with_number (fold with_number seen (cons_option (set_of kind) (sets_in nodes))) (sets_in (node ∷ []))
    by (Chance place) later = later (with_number seen place)
    by (Personal place) later = later (with_number seen place)
    by Terminal later = later seen

-- ---- a node more
module _ (players : ℕ) (grown : Grown) (mention : NodeMention) (at : Placed) (outcomes : List EfgOutcome) (is : IsGrown players grown) (not_whole : is_whole grown.to_come ≡ false) (low : length grown.to_come ≤ suc most_moves)
    (placed_at : IsAt players grown.sets at) (more : AreMore players grown.outcomes mention.outcome.number outcomes) where
  abbrev new : EfgNode
  new = record { name = mention.name; kind = at.kind; outcome = mention.outcome.number }

  counts_pushed : (counts : List ℕ) → counts_of at.sets (grown.nodes ++ new ∷ []) ++ counts ≡ counts_of grown.sets grown.nodes ++ at.count ∷ counts
  counts_pushed counts =
      ap (λ (cs : List ℕ). cs ++ counts) (map_push (subtrees at.sets) grown.nodes new)
      ∙ append_assoc (counts_of at.sets grown.nodes) (subtrees at.sets new ∷ []) counts
      ∙ ap (λ (cs : List ℕ). cs ++ subtrees at.sets new ∷ counts) (counts_kept players grown.sets at.sets placed_at.kept placed_at.longer grown.nodes is.kinds)
      ∙ ap (λ (count : ℕ). counts_of grown.sets grown.nodes ++ count ∷ counts) (sym placed_at.count)

  grown_step : IsGrown players (grown_with grown mention at outcomes)
  grown_step = record {
    sound = placed_at.sound;
    own = placed_at.own;
    kinds = list_all-append (λ (node : EfgNode). is_kind players at.sets node.kind) grown.nodes (new ∷ [])
        ∙ and_from (list_all (λ (node : EfgNode). is_kind players at.sets node.kind) grown.nodes) (is_kind players at.sets at.kind && true)
        (kinds_kept players grown.sets at.sets placed_at.kept placed_at.longer grown.nodes is.kinds) (and_from (is_kind players at.sets at.kind) true placed_at.kind refl);
    in_order = mentions_push [] grown.nodes new
        ∙ ap (λ (seen : List ℕ). first_mentions seen (sets_in (new ∷ []))) is.in_order
        ∙ mention_step (length grown.sets) new [] (length at.sets) placed_at.seen;
    whole = more.whole;
    numbered = ap (λ (ns : List ℕ). first_mentions (0 ∷ []) ns) (map_push outcome_of grown.nodes new)
        ∙ fold-append with_number (0 ∷ []) (map outcome_of grown.nodes) (mention.outcome.number ∷ [])
        ∙ ap (λ (seen : List ℕ). with_number seen mention.outcome.number) is.numbered
        ∙ more.first;
    steady = settled_twice (at.count ∷ taken grown.to_come);
    forest = λ counts. ap (is_forest 1) (counts_pushed counts) ∙ is.forest (at.count ∷ counts) ∙ forest_more at.count grown.to_come counts is.steady not_whole;
    shallow = λ counts. ap (are_shallow (0 ∷ [])) (counts_pushed counts) ∙ is.shallow (at.count ∷ counts) ∙ shallow_more at.count grown.to_come counts is.steady not_whole low;
  }

  pushed_few : (count : ℕ) → length grown.nodes ≤ count → length (grown.nodes ++ new ∷ []) ≤ count + 1
  pushed_few count few = omega (arith, few, length_push grown.nodes new)

-- so many nodes have come at most
pub record IsGrownTo (players count : ℕ) (grown : Grown) : Type 0 where
  pub is : IsGrown players grown
  pub few : length grown.nodes ≤ count

node_grown : (players count : ℕ) (grown : Grown) (mention : NodeMention) → IsGrownTo players count grown → is_whole grown.to_come ≡ false → length grown.to_come ≤ suc most_moves → IsNodeMention players mention
    → Gives (IsGrownTo players (count + 1)) (with_node grown mention)
unfolding with_node
node_grown players count grown mention to not_whole low m =
    go_then (IsAt players grown.sets) (IsGrownTo players (count + 1))
    (λ at. go_on (λ outcomes. Ok (grown_with grown mention at outcomes)) (with_outcome (length grown.nodes) grown.outcomes mention.outcome))
    (placed (length grown.nodes) grown.sets mention.set)
    (placed_is players (length grown.nodes) grown.sets mention.set m.set to.is.sound to.is.own)
    (λ at place. go_then (AreMore players grown.outcomes mention.outcome.number) (IsGrownTo players (count + 1)) (λ outcomes. Ok (grown_with grown mention at outcomes)) (with_outcome (length grown.nodes) grown.outcomes mention.outcome)
    (outcome_is players (length grown.nodes) grown.outcomes mention.outcome m.outcome to.is.whole)
    (λ outcomes more. record {
      is = grown_step players grown mention at outcomes to.is not_whole low place more;
      few = pushed_few players grown mention at outcomes to.is not_whole low place more count to.few;
    }))

mention_reads : (P : Grown → Type 0) (grown : Grown) (left : Rest) (answer : Result Grown EfgFault) → Gives P answer → Reads P (with_mention grown left answer)
mention_reads P grown left (Ok more) holds = holds
mention_reads P grown left (Err fault) holds = tt

abbrev Low : Grown → Begins → Type 0
Low grown begin = length grown.to_come ≤ suc most_moves

begun_reads : (grown : Grown) (rest : Rest) → Reads (Low grown) (begun_at grown rest)
begun_reads grown rest = reads_then (λ (begin : Begins). ⊤) (Low grown) (λ begin left. if is_too_deep grown.to_come then Err TooLarge else Ok (begin, left)) (begins_at rest) (reads_any (begins_at rest))
    (λ begin left any. by begin left (is_too_deep grown.to_come) refl)
  where
    by : (begin : Begins) (left : Rest) (deep : Bool) → is_too_deep grown.to_come ≡ deep → Reads (Low grown) (if deep then Err TooLarge else Ok (begin, left))
    by begin left true e = tt
    by begin left false e = ltb-false (suc most_moves) (length grown.to_come) e

node_at_reads : (players count : ℕ) (grown : Grown) (rest : Rest) → IsGrownTo players count grown → is_whole grown.to_come ≡ false → Reads (IsGrownTo players (count + 1)) (node_at players grown rest)
unfolding node_at
node_at_reads players count grown rest to not_whole =
    reads_then (Low grown) (IsGrownTo players (count + 1)) (λ begin inner. and_then (λ mention left. with_mention grown left (with_node grown mention)) (node_behind players begin inner)) (begun_at grown rest) (begun_reads grown rest)
    (λ begin inner low. reads_then (IsNodeMention players) (IsGrownTo players (count + 1)) (λ mention left. with_mention grown left (with_node grown mention)) (node_behind players begin inner) (node_reads players begin inner)
    (λ mention left m. mention_reads (IsGrownTo players (count + 1)) grown left (with_node grown mention) (node_grown players count grown mention to not_whole low m)))

-- ---- the tree
pub record IsTree (players : ℕ) (grown : Grown) : Type 0 where
  pub is : IsGrown players grown
  pub few : length grown.nodes ≤ most_nodes
  pub whole : is_whole grown.to_come ≡ true

tree_reads : (more count players : ℕ) (grown : Grown) (rest : Rest) → IsGrownTo players count grown → count + more ≤ most_nodes → Reads (IsTree players) (tree_at more players grown rest)
unfolding tree_at
tree_reads zero count players grown rest to l = by (is_whole grown.to_come) refl
  where
    by : (whole : Bool) → is_whole grown.to_come ≡ whole → Reads (IsTree players) (if whole then Ok (grown, rest) else and_then too_large (begins_at rest))
    by true e = record { is = to.is; few = omega (arith, to.few, l); whole = e }
    by false e = reads_then (λ (begin : Begins). ⊤) (IsTree players) too_large (begins_at rest) (reads_any (begins_at rest)) (λ begin left any. tt)
tree_reads (suc more) count players grown rest to l = by (is_whole grown.to_come) refl (λ next left now. tree_reads more (count + 1) players next left now (omega (arith, l)))
  where
    by : (whole : Bool) → is_whole grown.to_come ≡ whole → ((next : Grown) (left : Rest) → IsGrownTo players (count + 1) next → Reads (IsTree players) (tree_at more players next left)) → Reads (IsTree players) (if whole then Ok (grown, rest) else and_then (tree_at more players) (node_at players grown rest))
    by true e later = record { is = to.is; few = omega (arith, to.few, l); whole = e }
    by false e later = reads_then (IsGrownTo players (count + 1)) (IsTree players) (tree_at more players) (node_at players grown rest) (node_at_reads players count grown rest to e) later

-- ---- the parts
abbrev Formed : EfgParts → Type 0
Formed parts = has_form parts ≡ true

none_to_come : (to_come : List ℕ) → is_whole to_come ≡ true → to_come ≡ []
none_to_come [] e = refl
none_to_come (count ∷ to_come) e = absurd cc

module _ (head : Head) (grown : Grown) (is : IsHead head) (tree : IsTree (length head.players) grown) where
  abbrev players : ℕ
  players = length head.players

  abbrev counts : List ℕ
  counts = counts_of grown.sets grown.nodes

  sets_are : are_sets players grown.sets grown.nodes ≡ true
  sets_are =
      and_from (list_all is_set grown.sets) (have_own_numbers grown.sets && (list_all (λ node. is_kind players grown.sets node.kind) grown.nodes && are_sets_in_order grown.sets grown.nodes)) tree.is.sound
      (and_from (have_own_numbers grown.sets) (list_all (λ node. is_kind players grown.sets node.kind) grown.nodes && are_sets_in_order grown.sets grown.nodes) tree.is.own
      (and_from (list_all (λ node. is_kind players grown.sets node.kind) grown.nodes) (are_sets_in_order grown.sets grown.nodes) tree.is.kinds
      (ap (λ (seen : List ℕ). are_equal seen (range_with_len 0 (length grown.sets))) tree.is.in_order ∙ equal_self (range_with_len 0 (length grown.sets)))))

  tree_is : is_tree counts ≡ true
  tree_is =
      let none : grown.to_come ≡ [] = none_to_come grown.to_come tree.whole in
      and_from (nat_le (length counts) most_nodes) (is_forest 1 counts && is_shallow counts) (le-leb (length counts) most_nodes (omega (arith, tree.few, length-map grown.nodes (subtrees grown.sets))))
      (and_from (is_forest 1 counts) (is_shallow counts)
      (ap (is_forest 1) (sym (append-nil counts)) ∙ tree.is.forest [] ∙ ap (λ (to_come : List ℕ). is_forest (still to_come) []) none)
      (ap (are_shallow (0 ∷ [])) (sym (append-nil counts)) ∙ tree.is.shallow [] ∙ ap (λ (to_come : List ℕ). are_shallow (waits to_come) []) none))

  outcomes_are : are_outcomes players grown.outcomes grown.nodes ≡ true
  outcomes_are =
      and_from (list_all (is_outcome players) grown.outcomes) (are_outcomes_in_order grown.outcomes grown.nodes) tree.is.whole
      (ap (λ (seen : List ℕ). are_equal seen (0 ∷ map number_of grown.outcomes)) tree.is.numbered ∙ equal_self (0 ∷ map number_of grown.outcomes))

  form_is : Formed (parts_with head grown)
  form_is =
      and_from (is_player_count players) (are_sets players grown.sets grown.nodes && (is_tree counts && are_outcomes players grown.outcomes grown.nodes)) is.few
      (and_from (are_sets players grown.sets grown.nodes) (is_tree counts && are_outcomes players grown.outcomes grown.nodes) sets_are
      (and_from (is_tree counts) (are_outcomes players grown.outcomes grown.nodes) tree_is outcomes_are))

ended_gives : (parts : EfgParts) (marks : List Mark) (rest : Rest) → Formed parts → Gives Formed (ended parts marks rest)
ended_gives parts [] rest holds = holds
ended_gives parts (mark ∷ marks) rest holds = tt

parts_form : (rest : Rest) → Gives Formed (parts_at rest)
unfolding parts_at
parts_form rest =
    gives_then IsHead Formed behind_head (head_at rest) (head_reads rest)
    (λ head behind is. gives_then (IsTree (length head.players)) Formed (λ grown left. ended (parts_with head grown) left.marks left) (tree_at most_nodes (length head.players) seed behind)
    (tree_reads most_nodes 0 (length head.players) seed behind (record { is = seed_grown (length head.players); few = omega arith }) (omega arith))
    (λ grown left tree. ended_gives (parts_with head grown) left.marks left (form_is head grown is tree)))

tokens_form : (bytes : List ℕ) (answer : Result (List Token) TokenFault) → Gives Formed (with_tokens bytes answer)
tokens_form bytes (Ok tokens) = parts_form (rest_from bytes tokens 0)
tokens_form bytes (Err (Unclosed at)) = tt
tokens_form bytes (Err NoMemoryForTokens) = tt

file_form : (bytes : List ℕ) → Gives Formed (parts_of_file bytes)
unfolding parts_of_file
file_form bytes = tokens_form bytes (file_tokens bytes)

-- the parts that a file gives have the form of a game
pub form_of_file : (bytes : List ℕ) (parts : EfgParts) → parts_of_file bytes ≡ Ok parts → has_form parts ≡ true
form_of_file bytes parts e = given Formed (parts_of_file bytes) parts (file_form bytes) e

-- ---- the game
abbrev by_pays : EfgParts → Bool → Result EfgParts EfgFault
by_pays parts fine = if fine then Ok parts else Err PayTooFine

sound_is_fine : (bytes : List ℕ) (parts : EfgParts) → parts_of_file bytes ≡ Ok parts → is_sound parts ≡ are_pays_fine parts
sound_is_fine bytes parts e = ap (λ (form : Bool). form && are_pays_fine parts) (form_of_file bytes parts e)

game_by : (bytes : List ℕ) (parts : EfgParts) → parts_of_file bytes ≡ Ok parts → game_of_file bytes ≡ by_pays parts (is_sound parts)
unfolding game_of_file
game_by bytes parts e = ap (go_on fine_parts) e ∙ ap (by_pays parts) (sym (sound_is_fine bytes parts e))

-- what is wrong with the parts is wrong with the game
pub fault_passed : (bytes : List ℕ) (fault : EfgFault) → IsComputed (parts_of_file bytes) fault → IsComputed (game_of_file bytes) fault
unfolding game_of_file
fault_passed bytes fault computed = passed_on (parts_of_file bytes) (go_on fine_parts (parts_of_file bytes)) fault (λ f e. ap (go_on fine_parts) e) computed

-- a sound game was read
pub fine_game : (bytes : List ℕ) (parts : EfgParts) → parts_of_file bytes ≡ Ok parts → is_sound parts ≡ true → game_of_file bytes ≡ Ok parts
fine_game bytes parts e sound = game_by bytes parts e ∙ ap (by_pays parts) sound

-- what is read isn't sound only where its payoffs are too fine
pub too_fine : (bytes : List ℕ) (parts : EfgParts) → parts_of_file bytes ≡ Ok parts → is_sound parts ≡ false → game_of_file bytes ≡ Err PayTooFine
too_fine bytes parts e unsound = game_by bytes parts e ∙ ap (by_pays parts) unsound
