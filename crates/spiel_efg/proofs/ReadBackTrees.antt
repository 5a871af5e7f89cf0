-- What is written of a node, and of all nodes, is read again.
use Rattle.std.proofs.Common.{◌≡◌, ◌^◌, ◌<◌, ◌≤◌, ℕ, zero, suc, true, false, List, [], ◌∷◌, ◌++◌, length, map, refl, sym, ap, ◌∙◌, arith, append_assoc, Option, Some, None, Ok, Err}
use Rattle.std.specs.Prelude.{flat_map, All, if◌then◌else◌}
use Rattle.std.specs.Fmt.{decimal}
use Rattle.spiel_efg.specs.Reading.{begun_at, is_too_deep, is_whole, node_at, tree_at, with_mention}
use Rattle.spiel_efg.specs.ReadingTokens.{Mark, Read, Rest, and_then, begins_at, left_mark, right_mark, text_mark, word_mark, player_at, text_at}
use Rattle.spiel_efg.specs.ReadingLines.{mentioned, node_behind, outcome_mention_at, set_mention_at, set_of}
use Rattle.spiel_efg.specs.ReadingNodes.{with_node}
use Rattle.spiel_efg.specs.Writing.{kind_word, outcome_in_row, row_of, set_at_node}
use Rattle.spiel_efg.specs.declared.parts.EfgOutcome.{EfgOutcome}
use Rattle.spiel_efg.specs.declared.parts.EfgNode.{EfgNode}
use Rattle.spiel_efg.specs.declared.parts.EfgParts.{EfgParts}
use Rattle.spiel_efg.specs.declared.parts.EfgSet.{EfgSet}
use Rattle.spiel_efg.specs.declared.parts.NodeKind.{NodeKind}
use Rattle.spiel_efg.specs.declared.parts.NodeKind.TheVariants as kind
use Rattle.spiel_efg.specs.declared.read_fault.EfgFault.TheVariants.{TooLarge}
use Rattle.spiel_efg.specs.declared.read_mentions.Begins.{Begins}
use Rattle.spiel_efg.specs.declared.read_mentions.Begins.TheVariants.{Chance, Personal, Terminal}
use Rattle.spiel_efg.specs.declared.read_mentions.NodeMention.{NodeMention}
use Rattle.spiel_efg.specs.declared.read_mentions.OutcomeMention.{OutcomeMention}
use Rattle.spiel_efg.specs.declared.read_mentions.SetMention.{SetMention}
use Rattle.spiel_efg.specs.declared.read_nodes.Grown.{Grown}
use Rattle.spiel_efg.proofs.WrittenLines.{action_marks, listed_marks, outcome_marks, player_marks, set_marks}
use Rattle.spiel_efg.proofs.WrittenFiles.{line_marks, mention_marks}
use Rattle.spiel_efg.proofs.ReadBackLines.{Reads, player_read, reads_same, reads_then, rest_of}
use Rattle.spiel_efg.proofs.ReadBackNodes.{IsBehindLine, IsReadable, IsReadableMaybe, mention_of, numbered_marks, outcome_mention_of, outcome_read, set_read}

-- ---- the set of a node
abbrev pub begin_of : NodeKind → Begins
begin_of (kind.Chance place) = Chance
begin_of (kind.Personal place) = Personal
begin_of kind.Terminal = Terminal

abbrev pub set_mention_of : Option EfgSet → Option SetMention
set_mention_of None = None
set_mention_of (Some one) = Some (mention_of one)

-- a set that one of so many players moves at
pub record IsPlayed (players : ℕ) (one : EfgSet) : Type 0 where
  pub mover : ℕ
  pub is : one.player ≡ Some mover
  pub among : mover < players
  pub small : suc mover < 2 ^ 32

-- the set of a node is one of chance, or of a player, as the node is
abbrev pub IsReadableSet : ℕ → NodeKind → Option EfgSet → Type 0
IsReadableSet players (kind.Chance place) None = ⊥
IsReadableSet players (kind.Chance place) (Some one) = (one.player ≡ None) × IsReadable players one
IsReadableSet players (kind.Personal place) None = ⊥
IsReadableSet players (kind.Personal place) (Some one) = IsPlayed players one × IsReadable players one
IsReadableSet players kind.Terminal None = Unit {0}
IsReadableSet players kind.Terminal (Some one) = ⊥

-- the marks of a set, and others behind them
marks_behind : (one : EfgSet) (player : Option ℕ) (more : List Mark) → one.player ≡ player → set_marks one ++ more ≡ player_marks player ++ numbered_marks one more
marks_behind one player more e =
    let inner : List Mark = word_mark (decimal one.number) ∷ text_mark one.name ∷ listed_marks one.player one.actions in
    append_assoc (player_marks one.player) inner more
    ∙ ap (λ (ms : List Mark). player_marks one.player ++ word_mark (decimal one.number) ∷ text_mark one.name ∷ left_mark ∷ ms) (append_assoc (flat_map (action_marks one.player) one.actions) (right_mark ∷ []) more)
    ∙ ap (λ (p : Option ℕ). player_marks p ++ numbered_marks one more) e

abbrev player_then : ℕ → Rest → Read SetMention
player_then player left = set_mention_at (Some player) left

node_set_read : (players : ℕ) (node_kind : NodeKind) (set : Option EfgSet) (n : ℕ) (more : List Mark) → IsReadableSet players node_kind set
    → Reads (set_of players (begin_of node_kind) (rest_of n (mention_marks set ++ more))) (set_mention_of set) more
unfolding set_of
node_set_read players (kind.Chance place) None n more fit = absurd fit
node_set_read players (kind.Chance place) (Some one) n more fit =
    let marks : set_marks one ++ more ≡ numbered_marks one more = marks_behind one None more fit.0 in
    let same : set_mention_at None (rest_of n (set_marks one ++ more)) ≡ set_mention_at one.player (rest_of n (numbered_marks one more)) =
    ap (λ (ms : List Mark). set_mention_at None (rest_of n ms)) marks ∙ ap (λ (p : Option ℕ). set_mention_at p (rest_of n (numbered_marks one more))) (sym fit.0) in
    reads_then mentioned (set_mention_at None (rest_of n (set_marks one ++ more))) (mention_of one) (Some (mention_of one)) more more
    (reads_same (set_mention_at None (rest_of n (set_marks one ++ more))) (set_mention_at one.player (rest_of n (numbered_marks one more))) (mention_of one) more same (set_read players one n more fit.1))
    (λ m. record { before = m; is = refl })
node_set_read players (kind.Personal place) None n more fit = absurd fit
node_set_read players (kind.Personal place) (Some one) n more fit =
    let player : ℕ = fit.0.mover in
    let inner : List Mark = numbered_marks one more in
    let marks : set_marks one ++ more ≡ word_mark (decimal (suc player)) ∷ inner = marks_behind one (Some player) more fit.0.is in
    let named : Read SetMention = and_then player_then (player_at players (rest_of n (set_marks one ++ more))) in
    let same : named ≡ and_then player_then (player_at players (rest_of n (word_mark (decimal (suc player)) ∷ inner))) = ap (λ (ms : List Mark). and_then player_then (player_at players (rest_of n ms))) marks in
    reads_then mentioned named (mention_of one) (Some (mention_of one)) more more
    (reads_same named (and_then player_then (player_at players (rest_of n (word_mark (decimal (suc player)) ∷ inner)))) (mention_of one) more same
    (reads_then player_then (player_at players (rest_of n (word_mark (decimal (suc player)) ∷ inner))) player (mention_of one) inner more (player_read players player n inner fit.0.among fit.0.small)
    (λ m. reads_same (set_mention_at (Some player) (rest_of m inner)) (set_mention_at one.player (rest_of m inner)) (mention_of one) more (ap (λ (p : Option ℕ). set_mention_at p (rest_of m inner)) (sym fit.0.is)) (set_read players one m more fit.1))))
    (λ m. record { before = m; is = refl })
node_set_read players kind.Terminal None n more fit = record { before = n; is = refl }
node_set_read players kind.Terminal (Some one) n more fit = absurd fit

-- ---- a node
abbrev pub set_in : EfgParts → EfgNode → Option EfgSet
set_in parts node = set_at_node parts.sets node.kind

abbrev pub outcome_of : EfgParts → EfgNode → Option EfgOutcome
outcome_of parts node = outcome_in_row parts.outcomes (row_of parts.outcomes node.outcome)

-- what is mentioned by a node that is written
abbrev pub node_mention : EfgParts → EfgNode → NodeMention
node_mention parts node = record { name = node.name; set = set_mention_of (set_in parts node); outcome = outcome_mention_of (outcome_of parts node) }

pub record IsReadableNode (players : ℕ) (parts : EfgParts) (node : EfgNode) : Type 0 where
  pub set : IsReadableSet players node.kind (set_in parts node)
  pub outcome : IsReadableMaybe players (outcome_of parts node)

abbrev outcome_then : List ℕ → Option SetMention → OutcomeMention → Rest → Read NodeMention
outcome_then name set outcome left = Ok (record { name = name; set = set; outcome = outcome }, left)

abbrev set_then : ℕ → List ℕ → Option SetMention → Rest → Read NodeMention
set_then players name set rest = and_then (outcome_then name set) (outcome_mention_at players rest)

abbrev name_then : ℕ → Begins → List ℕ → Rest → Read NodeMention
name_then players begin name rest = and_then (set_then players name) (set_of players begin rest)

pub line_read : (players : ℕ) (parts : EfgParts) (node : EfgNode) (n : ℕ) (more : List Mark) → IsReadableNode players parts node → IsBehindLine more
    → Reads (node_behind players (begin_of node.kind) (rest_of n (text_mark node.name ∷ ((mention_marks (set_in parts node) ++ outcome_marks (outcome_of parts node)) ++ more)))) (node_mention parts node) more
unfolding node_behind
line_read players parts node n more fit behind =
    let set : List Mark = mention_marks (set_in parts node) in
    let outcome : List Mark = outcome_marks (outcome_of parts node) in
    let begin : Begins = begin_of node.kind in
    let done : NodeMention = node_mention parts node in
    reads_then (name_then players begin) (text_at (rest_of n (text_mark node.name ∷ ((set ++ outcome) ++ more)))) node.name done ((set ++ outcome) ++ more) more (record { before = suc n; is = refl })
    (λ m. reads_then (set_then players node.name) (set_of players begin (rest_of m ((set ++ outcome) ++ more))) (set_mention_of (set_in parts node)) done (outcome ++ more) more
    (reads_same (set_of players begin (rest_of m ((set ++ outcome) ++ more))) (set_of players begin (rest_of m (set ++ (outcome ++ more)))) (set_mention_of (set_in parts node)) (outcome ++ more)
    (ap (λ (ms : List Mark). set_of players begin (rest_of m ms)) (append_assoc set outcome more)) (node_set_read players node.kind (set_in parts node) m (outcome ++ more) fit.set))
    (λ k. reads_then (outcome_then node.name (set_mention_of (set_in parts node))) (outcome_mention_at players (rest_of k (outcome ++ more))) (outcome_mention_of (outcome_of parts node)) done more more
    (outcome_read players (outcome_of parts node) k more fit.outcome behind) (λ j. record { before = j; is = refl })))

-- ---- all nodes
-- nodes with these mentions come one after the other, and then the tree is whole
abbrev pub Grows : Grown → List NodeMention → Grown → Type 0
Grows grown [] last = (grown ≡ last) × (is_whole grown.to_come ≡ true)
Grows grown (mention ∷ mentions) last =
    (is_whole grown.to_come ≡ false) × ((is_too_deep grown.to_come ≡ false) × ((next : Grown) × ((with_node grown mention ≡ Ok next) × Grows next mentions last)))

begins_is : (node_kind : NodeKind) (n : ℕ) (more : List Mark) → begins_at (rest_of n (word_mark (kind_word node_kind) ∷ more)) ≡ Ok (begin_of node_kind, rest_of (suc n) more)
begins_is (kind.Chance place) n more = refl
begins_is (kind.Personal place) n more = refl
begins_is kind.Terminal n more = refl

abbrev deep_or : Grown → Begins → Rest → Read Begins
deep_or grown begin left = if is_too_deep grown.to_come then Err TooLarge else Ok (begin, left)

begun_read : (grown : Grown) (node_kind : NodeKind) (n : ℕ) (more : List Mark) → is_too_deep grown.to_come ≡ false → Reads (begun_at grown (rest_of n (word_mark (kind_word node_kind) ∷ more))) (begin_of node_kind) more
begun_read grown node_kind n more shallow =
    reads_then (deep_or grown) (begins_at (rest_of n (word_mark (kind_word node_kind) ∷ more))) (begin_of node_kind) (begin_of node_kind) more more (record { before = suc n; is = begins_is node_kind n more })
    (λ m. record { before = m; is = rw shallow refl })

abbrev grown_then : Grown → NodeMention → Rest → Read Grown
grown_then grown mention left = with_mention grown left (with_node grown mention)

abbrev behind_then : ℕ → Grown → Begins → Rest → Read Grown
behind_then players grown begin inner = and_then (grown_then grown) (node_behind players begin inner)

pub node_read : (players : ℕ) (parts : EfgParts) (node : EfgNode) (grown next : Grown) (n : ℕ) (more : List Mark) → IsReadableNode players parts node → IsBehindLine more → is_too_deep grown.to_come ≡ false
    → with_node grown (node_mention parts node) ≡ Ok next → Reads (node_at players grown (rest_of n (line_marks parts node ++ more))) next more
unfolding node_at
node_read players parts node grown next n more fit behind shallow grows =
    let inner : List Mark = text_mark node.name ∷ ((mention_marks (set_in parts node) ++ outcome_marks (outcome_of parts node)) ++ more) in
    reads_then (behind_then players grown) (begun_at grown (rest_of n (word_mark (kind_word node.kind) ∷ inner))) (begin_of node.kind) next inner more (begun_read grown node.kind n inner shallow)
    (λ m. reads_then (grown_then grown) (node_behind players (begin_of node.kind) (rest_of m inner)) (node_mention parts node) next more more (line_read players parts node m more fit behind)
    (λ k. record { before = k; is = ap (with_mention grown (rest_of k more)) grows }))

lines_behind : (parts : EfgParts) (nodes : List EfgNode) → IsBehindLine (flat_map (line_marks parts) nodes)
lines_behind parts [] = record { no_text = refl; no_brace = refl }
lines_behind parts (node ∷ nodes) = record { no_text = refl; no_brace = refl }

-- a tree of at most so many nodes
pub tree_read : (fuel players : ℕ) (parts : EfgParts) (nodes : List EfgNode) (grown last : Grown) (n : ℕ) → length nodes ≤ fuel → All (IsReadableNode players parts) nodes → Grows grown (map (node_mention parts) nodes) last
    → Reads (tree_at fuel players grown (rest_of n (flat_map (line_marks parts) nodes))) last []
unfolding tree_at
tree_read zero players parts [] grown last n few fit grows =
    let ok : Grown → Read Grown = λ g. Ok (g, rest_of n []) in
    record { before = n; is = rw grows.1 (ap ok grows.0) }
tree_read (suc fuel) players parts [] grown last n few fit grows =
    let ok : Grown → Read Grown = λ g. Ok (g, rest_of n []) in
    record { before = n; is = rw grows.1 (ap ok grows.0) }
tree_read zero players parts (node ∷ nodes) grown last n few fit grows = absurd (omega arith)
tree_read (suc fuel) players parts (node ∷ nodes) grown last n few fit grows =
    let rest : List Mark = flat_map (line_marks parts) nodes in
    let step : tree_at (suc fuel) players grown (rest_of n (line_marks parts node ++ rest)) ≡ and_then (tree_at fuel players) (node_at players grown (rest_of n (line_marks parts node ++ rest))) = rw grows.0 refl in
    reads_same (tree_at (suc fuel) players grown (rest_of n (line_marks parts node ++ rest))) (and_then (tree_at fuel players) (node_at players grown (rest_of n (line_marks parts node ++ rest)))) last [] step
    (reads_then (tree_at fuel players) (node_at players grown (rest_of n (line_marks parts node ++ rest))) grows.1.1.0 last rest []
    (node_read players parts node grown grows.1.1.0 n rest (fit 0 node (omega arith)) (lines_behind parts nodes) grows.1.0 grows.1.1.1.0)
    (λ m. tree_read fuel players parts nodes grows.1.1.0 last m (omega arith) (λ k d l. fit (suc k) d (omega arith)) grows.1.1.1.1))
