-- The tokens of a file are few.
use Rattle.std.proofs.Common.{ℕ, ◌+◌, ◌<◌, ◌≤◌, ◌^◌, List, [], ◌∷◌, length, arith}
use Rattle.spiel_string.specs.Tokens.{Rise, most_file_bytes}
use Rattle.spiel_string.specs.declared.token.Token.{Token}
use Rattle.spiel_string.specs.declared.token.Token.TheVariants.{Word, Quote, Left, Right, Comma}

pub rise_long : (least total : ℕ) (tokens : List Token) → Rise least total tokens → least + length tokens ≤ total
rise_long least total [] l = omega (arith, l)
rise_long least total (Word from to ∷ tokens) l = omega (arith, l.0, l.1, rise_long to total tokens l.2)
rise_long least total (Quote from to ∷ tokens) l = omega (arith, l.0, l.1, rise_long (to + 1) total tokens l.2)
rise_long least total (Left ∷ tokens) l = omega (arith, rise_long (least + 1) total tokens l)
rise_long least total (Right ∷ tokens) l = omega (arith, rise_long (least + 1) total tokens l)
rise_long least total (Comma ∷ tokens) l = omega (arith, rise_long (least + 1) total tokens l)

pub few_tokens : (total : ℕ) (tokens : List Token) → total ≤ most_file_bytes → Rise 0 total tokens → length tokens < 2 ^ 32
unfolding most_file_bytes
few_tokens total tokens l rise = omega (arith, l, rise_long 0 total tokens rise)

-- the most bytes of a file, as a number
pub not_too_long : (total : ℕ) → total ≤ 67108864 → total ≤ most_file_bytes
unfolding most_file_bytes
not_too_long total l = l
