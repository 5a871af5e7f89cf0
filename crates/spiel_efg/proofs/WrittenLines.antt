-- The tokens of the lines that are written, and what they say.
use Rattle.std.proofs.Common.{◌≡◌, ◌+◌, ◌^◌, ◌<◌, ℕ, suc, Bool, true, false, List, [], ◌∷◌, ◌++◌, length, refl, ap, ◌∙◌, arith, append_assoc, Option, Some, None}
use Rattle.std.specs.Prelude.{ℤ, pos, negsuc, ◌==◌, ◌&&◌, ◌||◌, ◌%◌, nat_le, flat_map, unsigned_abs, slice_index_or, All, if◌then◌else◌}
use Rattle.std.specs.Fmt.{decimal, signed_decimal}
use Rattle.std.specs.List.{list_all}
use Rattle.std.proofs.lemmas.Bool.{and_from, lt-leb, ne_eqb}
use Rattle.std.proofs.lemmas.Fmt.{decimal_by_steps, decimal_nonempty}
use Rattle.std.proofs.lemmas.List.Folds.{list_all-append}
use Rattle.spiel_frac.specs.Fraction.{Fraction, frac_text}
use Rattle.spiel_frac.specs.Reading.{HasShortParts}
use Rattle.spiel_string.specs.Quoting.{quoted}
use Rattle.spiel_string.specs.Tokens.{begins_word, is_of_word, is_space, is_token_word, is_word_byte, kind}
use Rattle.spiel_string.proofs.TokenSteps.{comma_kind}
use Rattle.spiel_efg.specs.ReadingTokens.{Mark, word_mark, text_mark, left_mark, right_mark, comma_mark}
use Rattle.spiel_efg.specs.Writing.{action_pieces, frac_piece, in_braces, number_piece, outcome_pieces, pay_pieces, player_piece, set_pieces, text_piece}
use Rattle.spiel_efg.specs.declared.parts.EfgAction.{EfgAction}
use Rattle.spiel_efg.specs.declared.parts.EfgOutcome.{EfgOutcome}
use Rattle.spiel_efg.specs.declared.parts.EfgSet.{EfgSet}
use Rattle.spiel_efg.proofs.WrittenMarks.{IsMarked, IsMarkedLine, Starts, as_marked, comma_line, join, left_line, line_then, lines_join, no_marks, right_line, space_line, starts_space, text_line, word_marked}

-- ---- words
plain_byte : (byte : ℕ) → is_space byte ≡ false → (byte == 123) ≡ false → (byte == 125) ≡ false → (byte == 44) ≡ false → (byte == 34) ≡ false → is_word_byte byte ≡ true
unfolding kind
plain_byte byte p q r s t = rw p (rw q (rw r (rw s (rw t refl))))

no_space : (byte : ℕ) → 32 < byte → is_space byte ≡ false
no_space byte low =
    let high : nat_le byte 13 ≡ false = lt-leb byte 13 (omega arith) in
    let other : (byte == 32) ≡ false = ne_eqb byte 32 (λ e. omega arith) in
    neither (nat_le 9 byte) (nat_le byte 13) (byte == 32) high other
  where
    neither : (a b c : Bool) → b ≡ false → c ≡ false → ((a && b) || c) ≡ false
    neither true b c e f = rw e f
    neither false b c e f = f

-- bytes from - to z, the digits and the slash among them
middle_byte : (byte : ℕ) → 44 < byte → byte < 123 → is_word_byte byte ≡ true
middle_byte byte low high =
    plain_byte byte (no_space byte (omega arith)) (ne_eqb byte 123 (λ e. omega arith)) (ne_eqb byte 125 (λ e. omega arith)) (ne_eqb byte 44 (λ e. omega arith)) (ne_eqb byte 34 (λ e. omega arith))

word_all : (bytes : List ℕ) → 0 < length bytes → list_all is_word_byte bytes ≡ true → is_token_word bytes ≡ true
word_all [] some all = absurd (omega arith)
word_all (byte ∷ bytes) some all = all

both_all : (a b : List ℕ) → list_all is_word_byte a ≡ true → list_all is_word_byte b ≡ true → list_all is_word_byte (a ++ b) ≡ true
both_all a b p q = list_all-append is_word_byte a b ∙ and_from (list_all is_word_byte a) (list_all is_word_byte b) p q

one_all : (byte : ℕ) → is_word_byte byte ≡ true → list_all is_word_byte (byte ∷ []) ≡ true
one_all byte e = and_from (is_word_byte byte) true e refl

decimal_all : (n : ℕ) → n < 2 ^ 64 → list_all is_word_byte (decimal n) ≡ true
decimal_all n small =
    decimal_by_steps (λ m text. list_all is_word_byte text ≡ true)
    (λ m l. one_all (48 + m) (middle_byte (48 + m) (omega arith) (omega arith)))
    (λ m text l all. both_all text ((48 + m % 10) ∷ []) all (one_all (48 + m % 10) (middle_byte (48 + m % 10) (omega arith) (omega arith)))) n small

pub decimal_word : (n : ℕ) → n < 2 ^ 64 → is_token_word (decimal n) ≡ true
decimal_word n small = word_all (decimal n) (decimal_nonempty n small) (decimal_all n small)

signed_all : (z : ℤ) → unsigned_abs z < 2 ^ 64 → list_all is_word_byte (signed_decimal z) ≡ true
signed_all (pos n) small = decimal_all n small
signed_all (negsuc n) small = and_from (is_word_byte 45) (list_all is_word_byte (decimal (suc n))) (middle_byte 45 (omega arith) (omega arith)) (decimal_all (suc n) small)

signed_some : (z : ℤ) (bytes : List ℕ) → unsigned_abs z < 2 ^ 64 → 0 < length (signed_decimal z ++ bytes)
signed_some (pos n) bytes small = some (decimal n) (decimal_nonempty n small)
  where
    some : (digits : List ℕ) → 0 < length digits → 0 < length (digits ++ bytes)
    some [] l = absurd (omega arith)
    some (digit ∷ digits) l = omega arith
signed_some (negsuc n) bytes small = omega arith

behind_all : (is_whole : Bool) (den : ℕ) → den < 2 ^ 64 → list_all is_word_byte (if is_whole then [] else 47 ∷ [] ++ decimal den) ≡ true
behind_all true den small = refl
behind_all false den small = and_from (is_word_byte 47) (list_all is_word_byte (decimal den)) (middle_byte 47 (omega arith) (omega arith)) (decimal_all den small)

pub frac_word : (f : Fraction) → HasShortParts f → is_token_word (frac_text f) ≡ true
frac_word f short =
    let num : unsigned_abs f.num < 2 ^ 64 = omega (arith, short.num) in
    let den : f.den < 2 ^ 64 = omega (arith, short.den) in
    let behind : List ℕ = if f.den == 1 then [] else 47 ∷ [] ++ decimal f.den in
    word_all (frac_text f) (signed_some f.num behind num) (both_all (signed_decimal f.num) behind (signed_all f.num num) (behind_all (f.den == 1) f.den den))

-- ---- pieces
spaced_line : (bytes : List ℕ) (marks : List Mark) → IsMarkedLine bytes marks → IsMarkedLine (32 ∷ bytes) marks
spaced_line bytes marks line = lines_join (32 ∷ []) bytes [] marks (space_line 32 refl) line

spaced_marked : (bytes : List ℕ) (marks : List Mark) → IsMarked bytes marks → IsMarked (32 ∷ bytes) marks
spaced_marked bytes marks one = line_then (32 ∷ []) bytes [] marks (space_line 32 refl) one

pub text_marks : (text : List ℕ) → IsMarked (text_piece text) (text_mark text ∷ [])
text_marks text = as_marked (text_piece text) (text_mark text ∷ []) (spaced_line (quoted text) (text_mark text ∷ []) (text_line text))

pub number_marks : (n : ℕ) → n < 2 ^ 64 → IsMarked (number_piece n) (word_mark (decimal n) ∷ [])
number_marks n small = spaced_marked (decimal n) (word_mark (decimal n) ∷ []) (word_marked (decimal n) (decimal_word n small))

pub frac_marks : (f : Fraction) → HasShortParts f → IsMarked (frac_piece f) (word_mark (frac_text f) ∷ [])
frac_marks f short = spaced_marked (frac_text f) (word_mark (frac_text f) ∷ []) (word_marked (frac_text f) (frac_word f short))

-- ---- lists
-- pieces that each begin with a space or a comma
pub each_then : {A : Type 0} (text : A → List ℕ) (marks : A → List Mark) (items : List A) → ((item : A) → Starts (text item)) → All (λ item. IsMarked (text item) (marks item)) items
    → IsMarked (flat_map text items) (flat_map marks items)
each_then text marks [] starts each = no_marks
each_then {A} text marks (item ∷ items) starts each =
    join (text item) (flat_map text items) (marks item) (flat_map marks items) (each 0 item (omega arith)) (all_start items) (each_then text marks items starts (λ k d l. each (suc k) d (omega arith)))
  where
    all_start : (others : List A) → Starts (flat_map text others)
    all_start [] rest none = none
    all_start (one ∷ others) rest none = ap begins_word (append_assoc (text one) (flat_map text others) rest) ∙ starts one (flat_map text others ++ rest) (all_start others rest none)

pub braces_marks : (pieces : List ℕ) (marks : List Mark) → Starts pieces → IsMarked pieces marks → IsMarked (in_braces pieces) (left_mark ∷ (marks ++ right_mark ∷ []))
braces_marks pieces marks starts one =
    line_then (32 ∷ 123 ∷ []) (pieces ++ 32 ∷ 125 ∷ []) (left_mark ∷ []) (marks ++ right_mark ∷ []) (spaced_line (123 ∷ []) (left_mark ∷ []) left_line)
    (join pieces (32 ∷ 125 ∷ []) marks (right_mark ∷ []) one (starts_space (125 ∷ [])) (as_marked (32 ∷ 125 ∷ []) (right_mark ∷ []) (spaced_line (125 ∷ []) (right_mark ∷ []) right_line)))

-- ---- sets
abbrev pub action_marks : Option ℕ → EfgAction → List Mark
action_marks None action = text_mark action.name ∷ word_mark (frac_text action.weight) ∷ []
action_marks (Some player) action = text_mark action.name ∷ []

abbrev pub player_marks : Option ℕ → List Mark
player_marks None = []
player_marks (Some player) = word_mark (decimal (suc player)) ∷ []

abbrev pub listed_marks : Option ℕ → List EfgAction → List Mark
listed_marks player actions = left_mark ∷ (flat_map (action_marks player) actions ++ right_mark ∷ [])

abbrev pub set_marks : EfgSet → List Mark
set_marks one = player_marks one.player ++ (word_mark (decimal one.number) ∷ text_mark one.name ∷ listed_marks one.player one.actions)

-- a player's number is one of 32 bits
abbrev pub IsSmallPlayer : Option ℕ → Type 0
IsSmallPlayer None = Unit {0}
IsSmallPlayer (Some player) = suc player < 2 ^ 32

-- an action of a player weighs nothing
abbrev pub no_weight : Fraction
no_weight = record { num = pos 0; den = 1 }

-- what is written of an action is read
abbrev pub IsWritable : Option ℕ → EfgAction → Type 0
IsWritable None action = HasShortParts action.weight
IsWritable (Some player) action = action.weight ≡ no_weight

-- what is written of a set is read
pub record IsWritableSet (one : EfgSet) : Type 0 where
  pub number : one.number < 2 ^ 32
  pub player : IsSmallPlayer one.player
  pub actions : All (IsWritable one.player) one.actions

starts_then : (bytes more : List ℕ) → Starts ((32 ∷ bytes) ++ more)
starts_then bytes more = starts_space (bytes ++ more)

action_starts : (player : Option ℕ) (action : EfgAction) → Starts (action_pieces player action)
action_starts None action = starts_then (quoted action.name) (frac_piece action.weight)
action_starts (Some player) action = starts_space (quoted action.name)

action_marked : (player : Option ℕ) (action : EfgAction) → IsWritable player action → IsMarked (action_pieces player action) (action_marks player action)
action_marked None action short =
    join (text_piece action.name) (frac_piece action.weight) (text_mark action.name ∷ []) (word_mark (frac_text action.weight) ∷ []) (text_marks action.name) (starts_space (frac_text action.weight)) (frac_marks action.weight short)
action_marked (Some player) action short = text_marks action.name

pub flat_starts : {A : Type 0} (text : A → List ℕ) (items : List A) → ((item : A) → Starts (text item)) → Starts (flat_map text items)
flat_starts text [] starts rest none = none
flat_starts text (item ∷ items) starts rest none = ap begins_word (append_assoc (text item) (flat_map text items) rest) ∙ starts item (flat_map text items ++ rest) (flat_starts text items starts rest none)

listed_marked : (player : Option ℕ) (actions : List EfgAction) → All (IsWritable player) actions → IsMarked (in_braces (flat_map (action_pieces player) actions)) (listed_marks player actions)
listed_marked player actions each =
    braces_marks (flat_map (action_pieces player) actions) (flat_map (action_marks player) actions) (flat_starts (action_pieces player) actions (action_starts player))
    (each_then (action_pieces player) (action_marks player) actions (action_starts player) (λ k d l. action_marked player (slice_index_or actions k d) (each k d l)))

numbered_marked : (one : EfgSet) → IsWritableSet one
    → IsMarked (number_piece one.number ++ (text_piece one.name ++ in_braces (flat_map (action_pieces one.player) one.actions))) (word_mark (decimal one.number) ∷ text_mark one.name ∷ listed_marks one.player one.actions)
numbered_marked one fit =
    let inner : List ℕ = in_braces (flat_map (action_pieces one.player) one.actions) in
    join (number_piece one.number) (text_piece one.name ++ inner) (word_mark (decimal one.number) ∷ []) (text_mark one.name ∷ listed_marks one.player one.actions)
    (number_marks one.number (omega (arith, fit.number))) (starts_then (quoted one.name) inner)
    (join (text_piece one.name) inner (text_mark one.name ∷ []) (listed_marks one.player one.actions) (text_marks one.name) (starts_space (123 ∷ (flat_map (action_pieces one.player) one.actions ++ 32 ∷ 125 ∷ []))) (listed_marked one.player one.actions fit.actions))

set_by : (player : Option ℕ) (pieces : List ℕ) (marks : List Mark) → IsSmallPlayer player → Starts pieces → IsMarked pieces marks → IsMarked (player_piece player ++ pieces) (player_marks player ++ marks)
set_by None pieces marks small starts one = one
set_by (Some player) pieces marks small starts one = join (number_piece (suc player)) pieces (word_mark (decimal (suc player)) ∷ []) marks (number_marks (suc player) (omega (arith, small))) starts one

pub set_marked : (one : EfgSet) → IsWritableSet one → IsMarked (set_pieces one) (set_marks one)
set_marked one fit =
    let inner : List ℕ = text_piece one.name ++ in_braces (flat_map (action_pieces one.player) one.actions) in
    set_by one.player (number_piece one.number ++ inner) (word_mark (decimal one.number) ∷ text_mark one.name ∷ listed_marks one.player one.actions) fit.player (starts_then (decimal one.number) inner) (numbered_marked one fit)

-- ---- outcomes
abbrev pub pay_marks : List Fraction → List Mark
pay_marks [] = []
pay_marks (pay ∷ pays) = word_mark (frac_text pay) ∷ flat_map (λ next. comma_mark ∷ word_mark (frac_text next) ∷ []) pays

abbrev pub outcome_marks : Option EfgOutcome → List Mark
outcome_marks None = word_mark (decimal 0) ∷ []
outcome_marks (Some one) = word_mark (decimal one.number) ∷ text_mark one.name ∷ left_mark ∷ (pay_marks one.pays ++ right_mark ∷ [])

pub record IsWritableOutcome (one : EfgOutcome) : Type 0 where
  pub number : one.number < 2 ^ 32
  pub pays : All HasShortParts one.pays

comma_starts : (bytes : List ℕ) → Starts (44 ∷ bytes)
comma_starts bytes rest none = ap is_of_word comma_kind

next_marked : (pay : Fraction) → HasShortParts pay → IsMarked (44 ∷ frac_piece pay) (comma_mark ∷ word_mark (frac_text pay) ∷ [])
next_marked pay short = line_then (44 ∷ []) (frac_piece pay) (comma_mark ∷ []) (word_mark (frac_text pay) ∷ []) comma_line (frac_marks pay short)

pays_marked : (pays : List Fraction) → All HasShortParts pays → IsMarked (pay_pieces pays) (pay_marks pays)
pays_marked [] each = no_marks
pays_marked (pay ∷ pays) each =
    join (frac_piece pay) (flat_map (λ next. 44 ∷ frac_piece next) pays) (word_mark (frac_text pay) ∷ []) (flat_map (λ next. comma_mark ∷ word_mark (frac_text next) ∷ []) pays)
    (frac_marks pay (each 0 pay (omega arith))) (flat_starts (λ next. 44 ∷ frac_piece next) pays (λ next. comma_starts (frac_piece next)))
    (each_then (λ next. 44 ∷ frac_piece next) (λ next. comma_mark ∷ word_mark (frac_text next) ∷ []) pays (λ next. comma_starts (frac_piece next)) (λ k d l. next_marked (slice_index_or pays k d) (each (suc k) d (omega arith))))

pays_start : (pays : List Fraction) → Starts (pay_pieces pays)
pays_start [] rest none = none
pays_start (pay ∷ pays) rest none = starts_then (frac_text pay) (flat_map (λ next. 44 ∷ frac_piece next) pays) rest none

pub outcome_marked : (one : EfgOutcome) → IsWritableOutcome one → IsMarked (outcome_pieces (Some one)) (outcome_marks (Some one))
outcome_marked one fit =
    let inner : List ℕ = in_braces (pay_pieces one.pays) in
    let inner_marks : List Mark = left_mark ∷ (pay_marks one.pays ++ right_mark ∷ []) in
    join (number_piece one.number) (text_piece one.name ++ inner) (word_mark (decimal one.number) ∷ []) (text_mark one.name ∷ inner_marks)
    (number_marks one.number (omega (arith, fit.number))) (starts_then (quoted one.name) inner)
    (join (text_piece one.name) inner (text_mark one.name ∷ []) inner_marks (text_marks one.name) (starts_space (123 ∷ (pay_pieces one.pays ++ 32 ∷ 125 ∷ [])))
    (braces_marks (pay_pieces one.pays) (pay_marks one.pays) (pays_start one.pays) (pays_marked one.pays fit.pays)))
