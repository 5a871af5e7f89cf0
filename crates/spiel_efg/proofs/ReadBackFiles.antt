-- What is written of a game is read again, where its nodes grow to what they came from.
use Rattle.std.proofs.Common.{◌≡◌, ◌+◌, ◌≤◌, ℕ, suc, true, List, [], ◌∷◌, ◌++◌, length, map, refl, ap, ◌∙◌, arith, append_assoc, Result, Ok}
use Rattle.std.specs.Prelude.{flat_map, All, codes}
use Rattle.spiel_efg.specs.Reading.{behind_head, ended, parts_at, parts_of_file, parts_with, seed, tree_at}
use Rattle.spiel_efg.specs.ReadingTokens.{Mark, Read, Rest, and_then, left_at, left_mark, right_mark, text_mark, word_mark, name_at, text_at}
use Rattle.spiel_efg.specs.ReadingLines.{closed, few_players, format_at, head_at, items_in, players_at, texts_at, with_front}
use Rattle.spiel_efg.specs.Sound.{is_player_count}
use Rattle.spiel_efg.specs.Tree.{most_nodes}
use Rattle.spiel_efg.specs.Writing.{efg_text}
use Rattle.spiel_efg.specs.declared.parts.EfgParts.{EfgParts}
use Rattle.spiel_efg.specs.declared.read_fault.EfgFault.{EfgFault}
use Rattle.spiel_efg.specs.declared.read_mentions.Head.{Head}
use Rattle.spiel_efg.specs.declared.read_nodes.Grown.{Grown}
use Rattle.spiel_efg.proofs.WrittenFiles.{IsWritableNode, efg_marks, file_read, head_marks, line_marks, name_marks}
use Rattle.spiel_efg.proofs.ReadBackLines.{Reads, reads_same, reads_then, rest_of}
use Rattle.spiel_efg.proofs.ReadBackTrees.{Grows, IsReadableNode, node_mention, tree_read}

-- ---- the head
abbrev pub head_of : EfgParts → Head
head_of parts = record { title = parts.title; players = parts.players; comment = parts.comment }

format_read : (n : ℕ) (more : List Mark) → Reads (format_at (rest_of n (word_mark (codes "EFG") ∷ word_mark (codes "2") ∷ word_mark (codes "R") ∷ more))) tt more
unfolding format_at
format_read n more = record { before = suc (suc (suc n)); is = refl }

abbrev same_text : List ℕ → List ℕ
same_text said = said

names_read : (names : List (List ℕ)) (n : ℕ) (more : List Mark) → items_in same_text n (flat_map name_marks names ++ right_mark ∷ more) ≡ (names, rest_of (n + length names) (right_mark ∷ more))
names_read [] n more =
    let here : ℕ → List (List ℕ) × Rest = λ m. ([], rest_of m (right_mark ∷ more)) in
    ap here (omega arith)
names_read (name ∷ names) n more =
    let place : suc n + length names ≡ n + length (name ∷ names) = omega arith in
    let here : ℕ → List (List ℕ) × Rest = λ m. (name ∷ names, rest_of m (right_mark ∷ more)) in
    ap (with_front name) (names_read names (suc n) more) ∙ ap here place

few_read : (names : List (List ℕ)) (n : ℕ) (more : List Mark) → is_player_count (length names) ≡ true → Reads (few_players names (rest_of n more)) names more
few_read names n more e = record { before = n; is = rw e refl }

abbrev brace_then : Unit {0} → Rest → Read (List (List ℕ))
brace_then brace inner = and_then few_players (and_then closed (Ok (texts_at inner)))

pub players_read : (names : List (List ℕ)) (n : ℕ) (more : List Mark) → is_player_count (length names) ≡ true → Reads (players_at (rest_of n (left_mark ∷ (flat_map name_marks names ++ right_mark ∷ more)))) names more
unfolding players_at
players_read names n more e =
    let marks : List Mark = flat_map name_marks names ++ right_mark ∷ more in
    let ok : List (List ℕ) × Rest → Read (List (List ℕ)) = λ found. Ok found in
    reads_then brace_then (left_at (rest_of n (left_mark ∷ marks))) tt names marks more (record { before = suc n; is = refl })
    (λ m. reads_then few_players (and_then closed (Ok (texts_at (rest_of m marks)))) names names more more
    (reads_then closed (Ok (texts_at (rest_of m marks))) names names (right_mark ∷ more) more (record { before = m + length names; is = ap ok (names_read names m more) }) (λ k. record { before = suc k; is = refl }))
    (λ k. few_read names k more e))

abbrev head_done : List ℕ → List (List ℕ) → List ℕ → Rest → Read Head
head_done title players comment left = Ok (record { title = title; players = players; comment = comment }, left)

abbrev head_with_players : List ℕ → List (List ℕ) → Rest → Read Head
head_with_players title players rest = and_then (head_done title players) (name_at rest)

abbrev head_with_title : List ℕ → Rest → Read Head
head_with_title title rest = and_then (head_with_players title) (players_at rest)

abbrev head_with_format : Unit {0} → Rest → Read Head
head_with_format format rest = and_then head_with_title (text_at rest)

pub head_read : (parts : EfgParts) (n : ℕ) (more : List Mark) → is_player_count (length parts.players) ≡ true → Reads (head_at (rest_of n (head_marks parts ++ more))) (head_of parts) more
unfolding head_at
head_read parts n more e =
    let names : List Mark = flat_map name_marks parts.players in
    let behind_names : List Mark = text_mark parts.comment ∷ more in
    let listed : List Mark = left_mark ∷ (names ++ right_mark ∷ behind_names) in
    let titled : List Mark = text_mark parts.title ∷ listed in
    let front : List Mark → List Mark = λ ms. word_mark (codes "EFG") ∷ word_mark (codes "2") ∷ word_mark (codes "R") ∷ text_mark parts.title ∷ left_mark ∷ ms in
    let marks : head_marks parts ++ more ≡ front (names ++ right_mark ∷ behind_names) =
    ap front (append_assoc (names ++ right_mark ∷ []) (text_mark parts.comment ∷ []) more ∙ append_assoc names (right_mark ∷ []) (text_mark parts.comment ∷ more)) in
    reads_same (head_at (rest_of n (head_marks parts ++ more))) (head_at (rest_of n (front (names ++ right_mark ∷ behind_names)))) (head_of parts) more (ap (λ (ms : List Mark). head_at (rest_of n ms)) marks)
    (reads_then head_with_format (format_at (rest_of n (front (names ++ right_mark ∷ behind_names)))) tt (head_of parts) titled more (format_read n titled)
    (λ m. reads_then head_with_title (text_at (rest_of m titled)) parts.title (head_of parts) listed more (record { before = suc m; is = refl })
    (λ k. reads_then (head_with_players parts.title) (players_at (rest_of k listed)) parts.players (head_of parts) behind_names more (players_read parts.players k behind_names e)
    (λ j. reads_then (head_done parts.title parts.players) (name_at (rest_of j behind_names)) parts.comment (head_of parts) more more (record { before = suc j; is = refl })
    (λ i. record { before = i; is = refl })))))

-- ---- the file
abbrev tree_then : Head → Grown → Rest → Result EfgParts EfgFault
tree_then head grown left = ended (parts_with head grown) left.marks left

-- the game is read from its text, where its nodes grow to its sets, outcomes and nodes
abbrev pub grown_of : EfgParts → Grown
grown_of parts = record { sets = parts.sets; outcomes = parts.outcomes; nodes = parts.nodes; to_come = [] }

pub text_read : (parts : EfgParts) → is_player_count (length parts.players) ≡ true → length parts.nodes ≤ most_nodes → All (IsWritableNode parts) parts.nodes → All (IsReadableNode (length parts.players) parts) parts.nodes
    → Grows seed (map (node_mention parts) parts.nodes) (grown_of parts) → parts_of_file (efg_text parts) ≡ Ok parts
unfolding parts_at
text_read parts count few writable readable grows =
    let lines : List Mark = flat_map (line_marks parts) parts.nodes in
    let head : Reads (head_at (rest_of 0 (efg_marks parts))) (head_of parts) lines = head_read parts 0 lines count in
    let tree : Reads (tree_at most_nodes (length parts.players) seed (rest_of head.before lines)) (grown_of parts) [] = tree_read most_nodes (length parts.players) parts parts.nodes seed (grown_of parts) head.before few readable grows in
    file_read parts writable ∙ ap (and_then behind_head) head.is ∙ ap (and_then (tree_then (head_of parts))) tree.is
