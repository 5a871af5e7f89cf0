-- The tokens of a whole file that is written.
use Rattle.std.proofs.Common.{◌≡◌, ℕ, suc, true, false, List, [], ◌∷◌, ◌++◌, refl, ap, subst, arith, append-nil, Option, Some, None}
use Rattle.std.specs.Prelude.{flat_map, codes, slice_index_or, All}
use Rattle.std.specs.Fmt.{decimal}
use Rattle.std.proofs.lemmas.Fmt.{decimal_digit}
use Rattle.spiel_string.specs.Quoting.{quoted}
use Rattle.spiel_string.specs.Tokens.{begins_word, is_of_word, is_token_word, kind}
use Rattle.spiel_string.proofs.TokenSteps.{space_kind}
use Rattle.spiel_efg.specs.Reading.{parts_at, parts_of_file}
use Rattle.spiel_efg.specs.ReadingTokens.{Mark, word_mark, text_mark, left_mark, right_mark}
use Rattle.spiel_efg.specs.Writing.{action_pieces, efg_text, head_lines, in_braces, number_piece, player_piece, kind_word, mention_pieces, node_line, outcome_in_row, outcome_pieces, row_of, set_at_node, text_piece}
use Rattle.spiel_efg.specs.declared.parts.EfgOutcome.{EfgOutcome}
use Rattle.spiel_efg.specs.declared.parts.EfgSet.{EfgSet}
use Rattle.spiel_efg.specs.declared.parts.EfgNode.{EfgNode}
use Rattle.spiel_efg.specs.declared.parts.EfgParts.{EfgParts}
use Rattle.spiel_efg.specs.declared.parts.NodeKind.{NodeKind}
use Rattle.spiel_efg.specs.declared.parts.NodeKind.TheVariants.{Chance, Personal, Terminal}
use Rattle.spiel_efg.proofs.WrittenMarks.{IsMarked, IsMarkedLine, file_marks, join, joined_at, line_of, line_then, lines_join, no_lines, space_line, starts_space, text_line, word_marked}
use Rattle.spiel_efg.proofs.WrittenLines.{IsWritableOutcome, IsWritableSet, braces_marks, each_then, flat_starts, number_marks, outcome_marked, outcome_marks, set_marked, set_marks, text_marks}

-- no word begins with these bytes, whatever stands behind them
abbrev pub AlwaysStarts : List ℕ → Type 0
AlwaysStarts bytes = (rest : List ℕ) → begins_word (bytes ++ rest) ≡ false

always_space : (bytes : List ℕ) → AlwaysStarts (32 ∷ bytes)
always_space bytes rest = ap is_of_word (space_kind 32 refl)

join_line : (a b : List ℕ) (ms ns : List Mark) → IsMarked a ms → AlwaysStarts b → IsMarkedLine b ns → IsMarkedLine (a ++ b) (ms ++ ns)
join_line a b ms ns one starts two before rest = joined_at a b ms ns before rest (one before (b ++ rest) (starts rest)) (two (before ++ a) rest)

-- ---- the line of a node
abbrev pub mention_marks : Option EfgSet → List Mark
mention_marks None = []
mention_marks (Some one) = set_marks one

abbrev pub MaybeSet : Option EfgSet → Type 0
MaybeSet None = Unit {0}
MaybeSet (Some one) = IsWritableSet one

abbrev pub MaybeOutcome : Option EfgOutcome → Type 0
MaybeOutcome None = Unit {0}
MaybeOutcome (Some one) = IsWritableOutcome one

abbrev pub line_marks : EfgParts → EfgNode → List Mark
line_marks parts node =
    word_mark (kind_word node.kind) ∷ text_mark node.name ∷ (mention_marks (set_at_node parts.sets node.kind) ++ outcome_marks (outcome_in_row parts.outcomes (row_of parts.outcomes node.outcome)))

-- what is written of a node is read
pub record IsWritableNode (parts : EfgParts) (node : EfgNode) : Type 0 where
  pub set : MaybeSet (set_at_node parts.sets node.kind)
  pub outcome : MaybeOutcome (outcome_in_row parts.outcomes (row_of parts.outcomes node.outcome))

outcome_line : (one : Option EfgOutcome) → MaybeOutcome one → IsMarkedLine (outcome_pieces one ++ 10 ∷ []) (outcome_marks one)
outcome_line one fit = subst (IsMarkedLine (outcome_pieces one ++ 10 ∷ [])) (append-nil (outcome_marks one)) (line_of (outcome_pieces one) (outcome_marks one) 10 refl (marked one fit))
  where
    marked : (one : Option EfgOutcome) → MaybeOutcome one → IsMarked (outcome_pieces one) (outcome_marks one)
    marked None fit = subst (λ (digits : List ℕ). IsMarked (32 ∷ digits) (word_mark (decimal 0) ∷ [])) (decimal_digit 0 (omega arith)) (number_marks 0 (omega arith))
    marked (Some one) fit = outcome_marked one fit

outcome_starts : (one : Option EfgOutcome) → AlwaysStarts (outcome_pieces one ++ 10 ∷ [])
outcome_starts None rest = ap is_of_word (space_kind 32 refl)
outcome_starts (Some one) rest = ap is_of_word (space_kind 32 refl)

mention_line : (set : Option EfgSet) (pieces : List ℕ) (marks : List Mark) → MaybeSet set → AlwaysStarts pieces → IsMarkedLine pieces marks → IsMarkedLine (mention_pieces set ++ pieces) (mention_marks set ++ marks)
mention_line None pieces marks fit starts line = line
mention_line (Some one) pieces marks fit starts line = join_line (mention_pieces (Some one)) pieces (set_marks one) marks (set_marked one fit) starts line

mention_starts : (set : Option EfgSet) (pieces : List ℕ) → AlwaysStarts pieces → AlwaysStarts (mention_pieces set ++ pieces)
mention_starts None pieces starts = starts
mention_starts (Some one) pieces starts = by one.player
  where
    by : (player : Option ℕ) → AlwaysStarts ((player_piece player ++ (number_piece one.number ++ (text_piece one.name ++ in_braces (flat_map (action_pieces one.player) one.actions)))) ++ pieces)
    by None rest = ap is_of_word (space_kind 32 refl)
    by (Some player) rest = ap is_of_word (space_kind 32 refl)

c_word : is_token_word (codes "c") ≡ true
unfolding kind
c_word = refl

p_word : is_token_word (codes "p") ≡ true
unfolding kind
p_word = refl

t_word : is_token_word (codes "t") ≡ true
unfolding kind
t_word = refl

kind_marked : (node_kind : NodeKind) → IsMarked (kind_word node_kind) (word_mark (kind_word node_kind) ∷ [])
kind_marked (Chance place) = word_marked (codes "c") c_word
kind_marked (Personal place) = word_marked (codes "p") p_word
kind_marked Terminal = word_marked (codes "t") t_word

pub node_marked : (parts : EfgParts) (node : EfgNode) → IsWritableNode parts node → IsMarkedLine (node_line parts node) (line_marks parts node)
node_marked parts node fit =
    let set : Option EfgSet = set_at_node parts.sets node.kind in
    let outcome : Option EfgOutcome = outcome_in_row parts.outcomes (row_of parts.outcomes node.outcome) in
    let ending : List ℕ = outcome_pieces outcome ++ 10 ∷ [] in
    let mention : List ℕ = mention_pieces set ++ ending in
    let mention_all : List Mark = mention_marks set ++ outcome_marks outcome in
    let lined : IsMarkedLine mention mention_all = mention_line set ending (outcome_marks outcome) fit.set (outcome_starts outcome) (outcome_line outcome fit.outcome) in
    let named : IsMarkedLine (text_piece node.name ++ mention) (text_mark node.name ∷ mention_all) =
    join_line (text_piece node.name) mention (text_mark node.name ∷ []) mention_all (text_marks node.name) (mention_starts set ending (outcome_starts outcome)) lined in
    join_line (kind_word node.kind) (text_piece node.name ++ mention) (word_mark (kind_word node.kind) ∷ []) (text_mark node.name ∷ mention_all) (kind_marked node.kind) (always_space (quoted node.name ++ mention)) named

-- ---- the head
efg_word : is_token_word (codes "EFG") ≡ true
unfolding kind
efg_word = refl

two_word : is_token_word (codes "2") ≡ true
unfolding kind
two_word = refl

r_word : is_token_word (codes "R") ≡ true
unfolding kind
r_word = refl

words_marked : IsMarked (codes "EFG 2 R") (word_mark (codes "EFG") ∷ word_mark (codes "2") ∷ word_mark (codes "R") ∷ [])
words_marked =
    join (codes "EFG") (codes " 2 R") (word_mark (codes "EFG") ∷ []) (word_mark (codes "2") ∷ word_mark (codes "R") ∷ []) (word_marked (codes "EFG") efg_word) (starts_space (codes "2 R"))
    (line_then (32 ∷ []) (codes "2 R") [] (word_mark (codes "2") ∷ word_mark (codes "R") ∷ []) (space_line 32 refl)
    (join (codes "2") (codes " R") (word_mark (codes "2") ∷ []) (word_mark (codes "R") ∷ []) (word_marked (codes "2") two_word) (starts_space (codes "R"))
    (line_then (32 ∷ []) (codes "R") [] (word_mark (codes "R") ∷ []) (space_line 32 refl) (word_marked (codes "R") r_word))))

abbrev pub name_marks : List ℕ → List Mark
name_marks name = text_mark name ∷ []

abbrev pub head_marks : EfgParts → List Mark
head_marks parts =
    word_mark (codes "EFG") ∷ word_mark (codes "2") ∷ word_mark (codes "R") ∷ text_mark parts.title ∷ left_mark ∷ ((flat_map name_marks parts.players ++ right_mark ∷ []) ++ text_mark parts.comment ∷ [])

pub head_marked : (parts : EfgParts) → IsMarkedLine (head_lines parts) (head_marks parts)
head_marked parts =
    let names : List ℕ = flat_map text_piece parts.players in
    let list_marks : List Mark = left_mark ∷ (flat_map name_marks parts.players ++ right_mark ∷ []) in
    let comment : IsMarkedLine (10 ∷ (quoted parts.comment ++ 10 ∷ [])) (text_mark parts.comment ∷ []) =
    lines_join (10 ∷ []) (quoted parts.comment ++ 10 ∷ []) [] (text_mark parts.comment ∷ []) (space_line 10 refl)
    (lines_join (quoted parts.comment) (10 ∷ []) (text_mark parts.comment ∷ []) [] (text_line parts.comment) (space_line 10 refl)) in
    let players : IsMarked (in_braces names) list_marks =
    braces_marks names (flat_map name_marks parts.players) (flat_starts text_piece parts.players (λ name. starts_space (quoted name)))
    (each_then text_piece name_marks parts.players (λ name. starts_space (quoted name)) (λ k d l. text_marks (slice_index_or parts.players k d))) in
    let ending : List ℕ = in_braces names ++ 10 ∷ (quoted parts.comment ++ 10 ∷ []) in
    let behind : IsMarkedLine ending (list_marks ++ text_mark parts.comment ∷ []) =
    join_line (in_braces names) (10 ∷ (quoted parts.comment ++ 10 ∷ [])) list_marks (text_mark parts.comment ∷ []) players (λ rest. ap is_of_word (space_kind 10 refl)) comment in
    join_line (codes "EFG 2 R") (text_piece parts.title ++ ending) (word_mark (codes "EFG") ∷ word_mark (codes "2") ∷ word_mark (codes "R") ∷ []) (text_mark parts.title ∷ (list_marks ++ text_mark parts.comment ∷ []))
    words_marked (always_space (quoted parts.title ++ ending))
    (join_line (text_piece parts.title) ending (text_mark parts.title ∷ []) (list_marks ++ text_mark parts.comment ∷ []) (text_marks parts.title) (λ rest. ap is_of_word (space_kind 32 refl)) behind)

-- ---- the file
nodes_marked : (parts : EfgParts) (nodes : List EfgNode) → All (IsWritableNode parts) nodes → IsMarkedLine (flat_map (node_line parts) nodes) (flat_map (line_marks parts) nodes)
nodes_marked parts [] each = no_lines
nodes_marked parts (node ∷ nodes) each =
    lines_join (node_line parts node) (flat_map (node_line parts) nodes) (line_marks parts node) (flat_map (line_marks parts) nodes)
    (node_marked parts node (each 0 node (omega arith))) (nodes_marked parts nodes (λ k d l. each (suc k) d (omega arith)))

abbrev pub efg_marks : EfgParts → List Mark
efg_marks parts = head_marks parts ++ flat_map (line_marks parts) parts.nodes

-- what a written file gives is what its marks give
pub file_read : (parts : EfgParts) → All (IsWritableNode parts) parts.nodes → parts_of_file (efg_text parts) ≡ parts_at (record { before = 0; marks = efg_marks parts })
unfolding parts_of_file efg_text
file_read parts each =
    file_marks (head_lines parts ++ flat_map (node_line parts) parts.nodes) (efg_marks parts)
    (lines_join (head_lines parts) (flat_map (node_line parts) parts.nodes) (head_marks parts) (flat_map (line_marks parts) parts.nodes) (head_marked parts) (nodes_marked parts parts.nodes each))
