-- A round of words in which stakes are raised: who speaks, who has folded, who has paid what.
-- The words of a round are read from the latest back: 0 is a fold, 1 a call, and any other number a raise.
use Rattle.std.specs.Prelude.{ℕ, zero, suc, ◌+◌, ◌-◌, Bool, false, List, [], ◌∷◌, ◌++◌, length, if◌then◌else◌, ◌==◌, nat_lt}

-- how a round begins
pub record Opening : Type 0 where
  -- the players who haven't folded, the first speaker first
  pub line : List ℕ
  -- what each player has paid
  pub stakes : ℕ → ℕ
  -- the highest of these stakes
  pub top : ℕ
  -- by how much a raise passes the highest stake
  pub size : ℕ

-- how many raises were made
abbrev pub raise_count : List ℕ → ℕ
raise_count [] = 0
raise_count (zero ∷ earlier) = raise_count earlier
raise_count (suc zero ∷ earlier) = raise_count earlier
raise_count (suc (suc a) ∷ earlier) = raise_count earlier + 1

-- all but the first in turn
abbrev pub others_of : List ℕ → List ℕ
others_of [] = []
others_of (p ∷ others) = others

-- the first in turn is the last now
abbrev pub passed_on : List ℕ → List ℕ
passed_on [] = []
passed_on (p ∷ others) = others ++ p ∷ []

-- whether this player is the first in turn
abbrev pub is_first : List ℕ → ℕ → Bool
is_first [] p = false
is_first (q ∷ others) p = q == p

-- who hasn't folded, in the order in which they would speak next: a fold leaves the line, and after a call or a raise all others come first
abbrev pub in_turn : List ℕ → List ℕ → List ℕ
in_turn line [] = line
in_turn line (zero ∷ earlier) = others_of (in_turn line earlier)
in_turn line (suc a ∷ earlier) = passed_on (in_turn line earlier)

-- how many words the round still owes: at first one of each player, and after a raise one of each other player who hasn't folded
abbrev pub words_owed : List ℕ → List ℕ → ℕ
words_owed line [] = length line
words_owed line (zero ∷ earlier) = words_owed line earlier - 1
words_owed line (suc zero ∷ earlier) = words_owed line earlier - 1
words_owed line (suc (suc a) ∷ earlier) = length (in_turn line earlier) - 1

-- the highest stake: a raise makes it larger
abbrev pub highest_stake : Opening → List ℕ → ℕ
highest_stake opening [] = opening.top
highest_stake opening (zero ∷ earlier) = highest_stake opening earlier
highest_stake opening (suc zero ∷ earlier) = highest_stake opening earlier
highest_stake opening (suc (suc a) ∷ earlier) = highest_stake opening earlier + opening.size

-- what a player has paid: who calls or raises has paid the highest stake
abbrev pub stake_of : Opening → List ℕ → ℕ → ℕ
stake_of opening [] p = opening.stakes p
stake_of opening (zero ∷ earlier) p = stake_of opening earlier p
stake_of opening (suc a ∷ earlier) p =
    if is_first (in_turn opening.line earlier) p then highest_stake opening (suc a ∷ earlier) else stake_of opening earlier p

-- the words of whoever speaks: a fold where less than the highest stake is paid, a call, and a raise while fewer than two were made
abbrev pub words_for : Bool → Bool → List ℕ
words_for may_fold may_raise = (if may_fold then 0 ∷ [] else []) ++ 1 ∷ [] ++ (if may_raise then 2 ∷ [] else [])

abbrev pub words_of : Opening → List ℕ → ℕ → List ℕ
words_of opening words p = words_for (nat_lt (stake_of opening words p) (highest_stake opening words)) (nat_lt (raise_count words) 2)

-- `f` for a fold, `c` for a call and `r` for a raise
abbrev pub word_letter : ℕ → ℕ
word_letter zero = 102
word_letter (suc zero) = 99
word_letter (suc (suc a)) = 114
