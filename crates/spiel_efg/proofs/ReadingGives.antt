-- What the mentions that were read come to: numbers, players, actions and payoffs as a sound game has them.
use Rattle.std.proofs.Common.{◌≡◌, ℕ, zero, suc, ◌-◌, ◌^◌, Bool, true, false, ◌&&◌, List, [], ◌∷◌, length, refl, ap, subst, arith, nat_le, nat_lt, Option, Some, None, Result, Ok, Err, if◌then◌else◌}
use Rattle.std.specs.Prelude.{is_none, ⊤}
use Rattle.std.specs.List.{list_all}
use Rattle.std.specs.Option.{option_and_then}
use Rattle.std.specs.Str.Parse.{digits_value}
use Rattle.std.proofs.lemmas.Bool.{leb-true, lt-ltb}
use Rattle.spiel_frac.specs.Fraction.{Fraction}
use Rattle.spiel_frac.specs.Spelling.{are_digits}
use Rattle.spiel_efg.specs.Sets.{is_zero, probabilities}
use Rattle.spiel_efg.specs.Sound.{is_player_count}
use Rattle.spiel_efg.specs.ReadingTokens.{Mark, text_mark, word_mark, left_mark, right_mark, comma_mark, Read, Rest, and_then, behind, behind_comma, expected, is_left_in, left_at, name_at, next_player, next_whole, next_word, number_at, player_at, player_number, right_at, text_at, whole_at, whole_number}
use Rattle.spiel_efg.specs.ReadingLines.{actions_at, closed, few_players, head_at, in_braces, items_in, listed_at, mentioned, node_behind, outcome_mention_at, pays_at, players_at, set_mention_at, set_of, some_of, texts_at, unweighted, format_at}
use Rattle.spiel_efg.specs.declared.parts.EfgAction.{EfgAction}
use Rattle.spiel_efg.specs.declared.read_fault.EfgFault.{EfgFault}
use Rattle.spiel_efg.specs.declared.read_fault.EfgFault.TheVariants.{Players}
use Rattle.spiel_efg.specs.declared.read_mentions.Begins.{Begins}
use Rattle.spiel_efg.specs.declared.read_mentions.Begins.TheVariants.{Chance, Personal, Terminal}
use Rattle.spiel_efg.specs.declared.read_mentions.Head.{Head}
use Rattle.spiel_efg.specs.declared.read_mentions.NodeMention.{NodeMention}
use Rattle.spiel_efg.specs.declared.read_mentions.OutcomeMention.{OutcomeMention}
use Rattle.spiel_efg.specs.declared.read_mentions.SetMention.{SetMention}

-- ---- what an answer gives, if it isn't a fault
abbrev pub Gives : {A : Type 0} → (A → Type 0) → Result A EfgFault → Type 0
Gives P (Ok a) = P a
Gives P (Err fault) = ⊤

-- the same of what was read
abbrev pub Reads : {A : Type 0} → (A → Type 0) → Read A → Type 0
Reads P (Ok found) = P found.0
Reads P (Err fault) = ⊤

abbrev pub Holds : {A : Type 0} → (A → Type 0) → Option A → Type 0
Holds P (Some a) = P a
Holds P None = ⊤

pub given : {A : Type 0} (P : A → Type 0) (answer : Result A EfgFault) (a : A) → Gives P answer → answer ≡ Ok a → P a
given {A} P (Ok found) a holds e = let same : found ≡ a = cc in subst (λ (x : A). P x) same holds
given P (Err fault) a holds e = absurd cc

pub reads_then : {A B : Type 0} (P : A → Type 0) (Q : B → Type 0) (next : A → Rest → Read B) (read : Read A) → Reads P read → ((a : A) (left : Rest) → P a → Reads Q (next a left)) → Reads Q (and_then next read)
reads_then P Q next (Ok found) holds step = step found.0 found.1 holds
reads_then P Q next (Err fault) holds step = tt

pub gives_then : {A B : Type 0} (P : A → Type 0) (Q : B → Type 0) (next : A → Rest → Result B EfgFault) (read : Read A) → Reads P read → ((a : A) (left : Rest) → P a → Gives Q (next a left)) → Gives Q (and_then next read)
gives_then P Q next (Ok found) holds step = step found.0 found.1 holds
gives_then P Q next (Err fault) holds step = tt

-- where nothing is said of what was read
abbrev pub Any : {A : Type 0} → A → Type 0
Any a = ⊤

pub reads_any : {A : Type 0} (read : Read A) → Reads (λ (a : A). ⊤) read
reads_any (Ok found) = tt
reads_any (Err fault) = tt

expected_reads : {A : Type 0} (P : A → Type 0) (found : Option A) (rest : Rest) → Holds P found → Reads P (expected found rest)
expected_reads P (Some a) rest holds = holds
expected_reads P None rest holds = tt

-- ---- numbers and players
abbrev Whole : ℕ → Type 0
Whole n = nat_lt n (2 ^ 32) ≡ true

whole_holds : (found : List ℕ) → Holds Whole (whole_number found)
whole_holds found = by (are_digits found) (nat_lt (digits_value 10 found) (2 ^ 32)) refl
  where
    by : (digits low : Bool) → nat_lt (digits_value 10 found) (2 ^ 32) ≡ low → Holds Whole (if digits && low then Some (digits_value 10 found) else None)
    by true true e = e
    by true false e = tt
    by false low e = tt

next_whole_holds : (word : Option (List ℕ)) → Holds Whole (option_and_then whole_number word)
next_whole_holds (Some found) = whole_holds found
next_whole_holds None = tt

whole_reads : (rest : Rest) → Reads Whole (whole_at rest)
whole_reads rest = expected_reads Whole (next_whole rest) rest (next_whole_holds (next_word rest))

abbrev Among : ℕ → ℕ → Type 0
Among players p = nat_lt p players ≡ true

player_holds : (players n : ℕ) → Holds (Among players) (player_number players n)
player_holds players n = by (nat_le 1 n) (nat_le n players) refl refl
  where
    by : (some few : Bool) → nat_le 1 n ≡ some → nat_le n players ≡ few → Holds (Among players) (if some && few then Some (n - 1) else None)
    by true true e f = lt-ltb (n - 1) players (let one = leb-true 1 n e in let two = leb-true n players f in omega arith)
    by true false e f = tt
    by false few e f = tt

next_player_holds : (players : ℕ) (whole : Option ℕ) → Holds (Among players) (option_and_then (player_number players) whole)
next_player_holds players (Some n) = player_holds players n
next_player_holds players None = tt

player_reads : (players : ℕ) (rest : Rest) → Reads (Among players) (player_at players rest)
player_reads players rest = expected_reads (Among players) (next_player players rest) rest (next_player_holds players (next_whole rest))

-- ---- actions
abbrev pub are_light : Bool → List EfgAction → Bool
are_light true actions = true
are_light false actions = list_all is_zero (probabilities actions)

abbrev Light : Bool → List EfgAction → Type 0
Light with_chances actions = are_light with_chances actions ≡ true

unweighted_light : (before : ℕ) (marks : List Mark) → list_all is_zero (probabilities (items_in unweighted before marks).0) ≡ true
unweighted_light before [] = refl
unweighted_light before (text_mark said ∷ marks) = unweighted_light (suc before) marks
unweighted_light before (word_mark bytes ∷ marks) = refl
unweighted_light before (left_mark ∷ marks) = refl
unweighted_light before (right_mark ∷ marks) = refl
unweighted_light before (comma_mark ∷ marks) = refl

light_always : (read : Read (List EfgAction)) → Reads (Light true) read
light_always (Ok found) = refl
light_always (Err fault) = tt

listed_reads : (with_chances : Bool) (rest : Rest) → Reads (Light with_chances) (listed_at with_chances rest)
listed_reads true rest = light_always (listed_at true rest)
listed_reads false rest = unweighted_light rest.before rest.marks

-- an action list has an action, and those of a player weigh nothing
pub record AreActions (with_chances : Bool) (actions : List EfgAction) : Type 0 where
  pub some : nat_lt 0 (length actions) ≡ true
  pub light : are_light with_chances actions ≡ true

some_reads : (with_chances : Bool) (actions : List EfgAction) (rest : Rest) → Light with_chances actions → Reads (AreActions with_chances) (some_of actions rest)
some_reads with_chances [] rest light = tt
some_reads with_chances (action ∷ actions) rest light = record { some = lt-ltb 0 (length (action ∷ actions)) (omega arith); light = light }

closed_reads : {A : Type 0} (P : A → Type 0) (found : A) (rest : Rest) → P found → Reads P (closed found rest)
closed_reads P found rest holds = reads_then (λ (done : Unit {0}). ⊤) P (λ done left. Ok (found, left)) (right_at rest) (reads_any (right_at rest)) (λ done left any. holds)

braces_read : {A : Type 0} (P : A → Type 0) (inner : Rest → Read A) (rest : Rest) → ((at : Rest) → Reads P (inner at)) → Reads (Holds P) (in_braces inner rest)
braces_read {A} P inner rest reads = by (is_left_in rest.marks)
  where
    by : (is_there : Bool) → Reads (Holds P) (if is_there then and_then (λ found left. Ok (Some found, left)) (and_then closed (inner (behind rest))) else Ok (None, rest))
    by true = reads_then P (Holds P) (λ found left. Ok (Some found, left)) (and_then closed (inner (behind rest)))
        (reads_then P P closed (inner (behind rest)) (reads (behind rest)) (λ found left holds. closed_reads P found left holds))
        (λ found left holds. holds)
    by false = tt

actions_read : (with_chances : Bool) (rest : Rest) → Reads (Holds (AreActions with_chances)) (actions_at with_chances rest)
actions_read with_chances rest = braces_read (AreActions with_chances) (λ inner. and_then some_of (listed_at with_chances inner)) rest
    (λ at. reads_then (Light with_chances) (AreActions with_chances) some_of (listed_at with_chances at) (listed_reads with_chances at) (λ actions left light. some_reads with_chances actions left light))

-- ---- a set
abbrev Mover : ℕ → Option ℕ → Type 0
Mover players player = Holds (Among players) player

-- a mention of a set: its number, who moves there and its actions, if they are listed
pub record IsSetMention (players : ℕ) (mention : SetMention) : Type 0 where
  pub number : nat_lt mention.number (2 ^ 32) ≡ true
  pub mover : Holds (λ p. nat_lt p players ≡ true) mention.player
  pub actions : Holds (AreActions (is_none mention.player)) mention.actions

abbrev mention_with : Option ℕ → ℕ → List ℕ → Option (List EfgAction) → Rest → Read SetMention
mention_with player number name actions left = Ok (record { player = player; number = number; name = name; actions = actions }, left)

abbrev mention_named : Option ℕ → ℕ → List ℕ → Rest → Read SetMention
mention_named player number name rest = and_then (mention_with player number name) (actions_at (is_none player) rest)

abbrev mention_numbered : Option ℕ → ℕ → Rest → Read SetMention
mention_numbered player number rest = and_then (mention_named player number) (name_at rest)

set_mention_reads : (players : ℕ) (player : Option ℕ) (rest : Rest) → Mover players player → Reads (IsSetMention players) (set_mention_at player rest)
unfolding set_mention_at
set_mention_reads players player rest mover = reads_then Whole (IsSetMention players) (mention_numbered player) (whole_at rest) (whole_reads rest)
    (λ number behind_number low. reads_then (λ (name : List ℕ). ⊤) (IsSetMention players) (mention_named player number) (name_at behind_number) (reads_any (name_at behind_number))
    (λ name behind_name any. reads_then (Holds (AreActions (is_none player))) (IsSetMention players) (mention_with player number name) (actions_at (is_none player) behind_name) (actions_read (is_none player) behind_name)
    (λ actions left holds. record { number = low; mover = mover; actions = holds })))

mentioned_reads : (players : ℕ) (read : Read SetMention) → Reads (IsSetMention players) read → Reads (Holds (IsSetMention players)) (and_then mentioned read)
mentioned_reads players read holds = reads_then (IsSetMention players) (Holds (IsSetMention players)) mentioned read holds (λ mention left is. is)

set_reads : (players : ℕ) (begin : Begins) (rest : Rest) → Reads (Holds (IsSetMention players)) (set_of players begin rest)
unfolding set_of
set_reads players Chance rest = mentioned_reads players (set_mention_at None rest) (set_mention_reads players None rest tt)
set_reads players Personal rest =
    mentioned_reads players (and_then (λ player left. set_mention_at (Some player) left) (player_at players rest))
    (reads_then (Among players) (IsSetMention players) (λ player left. set_mention_at (Some player) left) (player_at players rest) (player_reads players rest)
    (λ player left among. set_mention_reads players (Some player) left among))
set_reads players Terminal rest = tt

-- ---- an outcome
abbrev Each : ℕ → List Fraction → Type 0
Each players pays = length pays ≡ players

pays_read : (count : ℕ) (rest : Rest) → Reads (Each count) (pays_at count rest)
pays_read zero rest = refl
pays_read (suc count) rest =
    reads_then (λ (pay : Fraction). ⊤) (Each (suc count)) (λ pay more. and_then (λ pays left. Ok (pay ∷ pays, left)) (pays_at count (behind_comma more))) (number_at rest) (reads_any (number_at rest))
    (λ pay more any. reads_then (Each count) (Each (suc count)) (λ pays left. Ok (pay ∷ pays, left)) (pays_at count (behind_comma more)) (pays_read count (behind_comma more))
    (λ pays left long. ap suc long))

-- a mention of an outcome has a payoff for each player, if it has payoffs
pub record IsOutcomeMention (players : ℕ) (mention : OutcomeMention) : Type 0 where
  pub number : nat_lt mention.number (2 ^ 32) ≡ true
  pub pays : Holds (λ pays. length pays ≡ players) mention.pays

abbrev outcome_with : ℕ → List ℕ → Option (List Fraction) → Rest → Read OutcomeMention
outcome_with number name pays left = Ok (record { number = number; name = name; pays = pays }, left)

abbrev outcome_named : ℕ → ℕ → List ℕ → Rest → Read OutcomeMention
outcome_named players number name rest = and_then (outcome_with number name) (in_braces (pays_at players) rest)

abbrev outcome_numbered : ℕ → ℕ → Rest → Read OutcomeMention
outcome_numbered players number rest = and_then (outcome_named players number) (name_at rest)

outcome_reads : (players : ℕ) (rest : Rest) → Reads (IsOutcomeMention players) (outcome_mention_at players rest)
unfolding outcome_mention_at
outcome_reads players rest = reads_then Whole (IsOutcomeMention players) (outcome_numbered players) (whole_at rest) (whole_reads rest)
    (λ number behind_number low. reads_then (λ (name : List ℕ). ⊤) (IsOutcomeMention players) (outcome_named players number) (name_at behind_number) (reads_any (name_at behind_number))
    (λ name behind_name any. reads_then (Holds (Each players)) (IsOutcomeMention players) (outcome_with number name) (in_braces (pays_at players) behind_name)
    (braces_read (Each players) (pays_at players) behind_name (λ at. pays_read players at))
    (λ pays left holds. record { number = low; pays = holds })))

-- ---- a node
pub record IsNodeMention (players : ℕ) (mention : NodeMention) : Type 0 where
  pub set : Holds (IsSetMention players) mention.set
  pub outcome : IsOutcomeMention players mention.outcome

abbrev node_with : List ℕ → Option SetMention → OutcomeMention → Rest → Read NodeMention
node_with name set outcome left = Ok (record { name = name; set = set; outcome = outcome }, left)

abbrev node_placed : ℕ → List ℕ → Option SetMention → Rest → Read NodeMention
node_placed players name set rest = and_then (node_with name set) (outcome_mention_at players rest)

abbrev node_named : ℕ → Begins → List ℕ → Rest → Read NodeMention
node_named players begin name rest = and_then (node_placed players name) (set_of players begin rest)

pub node_reads : (players : ℕ) (begin : Begins) (rest : Rest) → Reads (IsNodeMention players) (node_behind players begin rest)
unfolding node_behind
node_reads players begin rest = reads_then (λ (name : List ℕ). ⊤) (IsNodeMention players) (node_named players begin) (text_at rest) (reads_any (text_at rest))
    (λ name behind_name any. reads_then (Holds (IsSetMention players)) (IsNodeMention players) (node_placed players name) (set_of players begin behind_name) (set_reads players begin behind_name)
    (λ set behind_set holds. reads_then (IsOutcomeMention players) (IsNodeMention players) (node_with name set) (outcome_mention_at players behind_set) (outcome_reads players behind_set)
    (λ outcome left is. record { set = holds; outcome = is })))

-- ---- the head
abbrev Few : List (List ℕ) → Type 0
Few players = is_player_count (length players) ≡ true

few_reads : (players : List (List ℕ)) (rest : Rest) → Reads Few (few_players players rest)
few_reads players rest = by (is_player_count (length players)) refl
  where
    by : (few : Bool) → is_player_count (length players) ≡ few → Reads Few (if few then Ok (players, rest) else Err Players)
    by true e = e
    by false e = tt

players_read : (rest : Rest) → Reads Few (players_at rest)
unfolding players_at
players_read rest = reads_then (λ (brace : Unit {0}). ⊤) Few (λ brace inner. and_then few_players (and_then closed (Ok (texts_at inner)))) (left_at rest) (reads_any (left_at rest))
    (λ brace inner any. reads_then (λ (players : List (List ℕ)). ⊤) Few few_players (and_then closed (Ok (texts_at inner))) (reads_any (and_then closed (Ok (texts_at inner))))
    (λ players left any. few_reads players left))

-- the head of a file has 1 to 64 players
pub record IsHead (head : Head) : Type 0 where
  pub few : is_player_count (length head.players) ≡ true

abbrev head_with : List ℕ → List (List ℕ) → List ℕ → Rest → Read Head
head_with title players comment left = Ok (record { title = title; players = players; comment = comment }, left)

abbrev head_played : List ℕ → List (List ℕ) → Rest → Read Head
head_played title players rest = and_then (head_with title players) (name_at rest)

abbrev head_titled : List ℕ → Rest → Read Head
head_titled title rest = and_then (head_played title) (players_at rest)

abbrev head_formed : Unit {0} → Rest → Read Head
head_formed format rest = and_then head_titled (text_at rest)

pub head_reads : (rest : Rest) → Reads IsHead (head_at rest)
unfolding head_at
head_reads rest = reads_then (λ (format : Unit {0}). ⊤) IsHead head_formed (format_at rest) (reads_any (format_at rest))
    (λ format behind_format any. reads_then (λ (title : List ℕ). ⊤) IsHead head_titled (text_at behind_format) (reads_any (text_at behind_format))
    (λ title behind_title any. reads_then Few IsHead (head_played title) (players_at behind_title) (players_read behind_title)
    (λ players behind_players few. reads_then (λ (comment : List ℕ). ⊤) IsHead (head_with title players) (name_at behind_players) (reads_any (name_at behind_players))
    (λ comment left any. record { few = few }))))
