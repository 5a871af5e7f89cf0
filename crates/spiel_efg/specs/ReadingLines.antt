-- The grammar of a game's file: its head, and the line of a node.
use Rattle.std.specs.Prelude.{ℕ, zero, suc, ◌&&◌, ◌||◌, Bool, true, false, nat_le, if◌then◌else◌, List, [], ◌∷◌, length, codes, pos, Option, Some, None, is_none, Ok, Err}
use Rattle.spiel_frac.specs.Fraction.{Fraction}
use Rattle.spiel_efg.specs.ReadingTokens.{Mark, text_mark, Rest, Read, and_then, stop, behind, behind_comma, is_left_in, is_word, left_at, name_at, next_word, number_at, passed, player_at, right_at, text_at, whole_at, word_at}
use Rattle.spiel_efg.specs.declared.parts.EfgAction.{EfgAction}
use Rattle.spiel_efg.specs.declared.read_fault.EfgFault.TheVariants.{Players}
use Rattle.spiel_efg.specs.declared.read_mentions.Begins.{Begins}
use Rattle.spiel_efg.specs.declared.read_mentions.Begins.TheVariants.{Chance, Personal, Terminal}
use Rattle.spiel_efg.specs.declared.read_mentions.Head.{Head}
use Rattle.spiel_efg.specs.declared.read_mentions.NodeMention.{NodeMention}
use Rattle.spiel_efg.specs.declared.read_mentions.OutcomeMention.{OutcomeMention}
use Rattle.spiel_efg.specs.declared.read_mentions.SetMention.{SetMention}

-- ---- lists
-- one more before those that were read
abbrev pub with_front : {A : Type 0} → A → List A × Rest → List A × Rest
with_front item found = (item ∷ found.0, found.1)

-- what is made of each text, of those that stand next
abbrev pub items_in : {A : Type 0} → (List ℕ → A) → ℕ → List Mark → List A × Rest
items_in make before (text_mark said ∷ marks) = with_front (make said) (items_in make (suc before) marks)
items_in make before marks = ([], record { before = before; marks = marks })

abbrev pub items_at : {A : Type 0} → (List ℕ → A) → Rest → List A × Rest
items_at make rest = items_in make rest.before rest.marks

abbrev pub texts_at : Rest → List (List ℕ) × Rest
texts_at rest = items_at (λ said. said) rest

-- an action of a player, which has no probability
abbrev pub unweighted : List ℕ → EfgAction
unweighted name = record { name = name; weight = record { num = pos 0; den = 1 } }

abbrev pub weighted : List ℕ → Fraction → EfgAction
weighted name weight = record { name = name; weight = weight }

-- an action before others, where its probability was read
abbrev pub with_weight : List ℕ → Read Fraction → Read (List EfgAction) → Read (List EfgAction)
with_weight name (Ok weight) (Ok more) = Ok (with_front (weighted name weight.0) more)
with_weight name (Ok weight) (Err fault) = Err fault
with_weight name (Err fault) more = Err fault

-- texts with a number behind each, as many as stand next
abbrev pub chances_in : ℕ → List Mark → Read (List EfgAction)
chances_in before (text_mark name ∷ mark ∷ marks) =
    with_weight name (number_at (record { before = suc before; marks = mark ∷ marks })) (chances_in (suc (suc before)) marks)
chances_in before (text_mark name ∷ []) = stop (record { before = suc before; marks = [] })
chances_in before marks = Ok ([], record { before = before; marks = marks })

-- the actions that stand next, with probabilities or without
abbrev pub listed_at : Bool → Rest → Read (List EfgAction)
listed_at true rest = chances_in rest.before rest.marks
listed_at false rest = Ok (items_at unweighted rest)

-- at least one
abbrev pub some_of : {A : Type 0} → List A → Rest → Read (List A)
some_of [] rest = stop rest
some_of (item ∷ items) rest = Ok (item ∷ items, rest)

-- so many numbers, with a comma or without behind each
abbrev pub pays_at : ℕ → Rest → Read (List Fraction)
pays_at zero rest = Ok ([], rest)
pays_at (suc count) rest = and_then (λ pay more. and_then (λ pays left. Ok (pay ∷ pays, left)) (pays_at count (behind_comma more))) (number_at rest)

-- what was read, and a closing brace behind it
abbrev pub closed : {A : Type 0} → A → Rest → Read A
closed found rest = and_then (λ done left. Ok (found, left)) (right_at rest)

-- a part in braces that may be left out
abbrev pub in_braces : {A : Type 0} → (Rest → Read A) → Rest → Read (Option A)
in_braces inner rest = if is_left_in rest.marks then and_then (λ found left. Ok (Some found, left)) (and_then closed (inner (behind rest))) else Ok (None, rest)

-- ---- a node
abbrev pub actions_at : Bool → Rest → Read (Option (List EfgAction))
actions_at with_chances rest = in_braces (λ inner. and_then some_of (listed_at with_chances inner)) rest

-- a set of a player, or of chance
unfoldable pub set_mention_at : Option ℕ → Rest → Read SetMention
set_mention_at player rest =
    and_then (λ number behind_number.
    and_then (λ name behind_name.
    and_then (λ actions left. Ok (record { player = player; number = number; name = name; actions = actions }, left))
    (actions_at (is_none player) behind_name))
    (name_at behind_number))
    (whole_at rest)

abbrev pub mentioned : SetMention → Rest → Read (Option SetMention)
mentioned set rest = Ok (Some set, rest)

-- the set of a node, by the word that the node began with
unfoldable pub set_of : ℕ → Begins → Rest → Read (Option SetMention)
set_of players Chance rest = and_then mentioned (set_mention_at None rest)
set_of players Personal rest = and_then mentioned (and_then (λ player left. set_mention_at (Some player) left) (player_at players rest))
set_of players Terminal rest = Ok (None, rest)

unfoldable pub outcome_mention_at : ℕ → Rest → Read OutcomeMention
outcome_mention_at players rest =
    and_then (λ number behind_number.
    and_then (λ name behind_name.
    and_then (λ pays left. Ok (record { number = number; name = name; pays = pays }, left))
    (in_braces (pays_at players) behind_name))
    (name_at behind_number))
    (whole_at rest)

-- what stands behind the word that a node begins with
unfoldable pub node_behind : ℕ → Begins → Rest → Read NodeMention
node_behind players begin rest =
    and_then (λ name behind_name.
    and_then (λ set behind_set.
    and_then (λ outcome left. Ok (record { name = name; set = set; outcome = outcome }, left))
    (outcome_mention_at players behind_set))
    (set_of players begin behind_name))
    (text_at rest)

-- ---- the head
-- the numbers of a file are rational or decimal, which makes no difference
abbrev pub form_at : Rest → Read (Unit {0})
form_at rest = passed (is_word (codes "R") (next_word rest) || is_word (codes "D") (next_word rest)) rest

-- 1 to 64 players
abbrev pub few_players : List (List ℕ) → Rest → Read (List (List ℕ))
few_players players rest = if nat_le 1 (length players) && nat_le (length players) 64 then Ok (players, rest) else Err Players

-- the players in braces; for this reading there may be any number
unfoldable pub players_at : Rest → Read (List (List ℕ))
players_at rest = and_then (λ brace inner. and_then few_players (and_then closed (Ok (texts_at inner)))) (left_at rest)

-- the three words that a file begins with
unfoldable pub format_at : Rest → Read (Unit {0})
format_at rest =
    and_then (λ efg behind_efg.
    and_then (λ version behind_version. form_at behind_version)
    (word_at (codes "2") behind_efg))
    (word_at (codes "EFG") rest)

-- the head: what stands above the nodes
unfoldable pub head_at : Rest → Read Head
head_at rest =
    and_then (λ format behind_format.
    and_then (λ title behind_title.
    and_then (λ players behind_players.
    and_then (λ comment left. Ok (record { title = title; players = players; comment = comment }, left))
    (name_at behind_players))
    (players_at behind_title))
    (text_at behind_format))
    (format_at rest)
