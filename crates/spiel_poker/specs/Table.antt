-- The table of two players at which a round of words is on.
use Rattle.std.specs.Prelude.{◌≡◌, ◌-◌, ◌<◌, ℕ, Bool, true, false, List, [], ◌∷◌, slice_index}
use Rattle.spiel_poker.specs.declared.betting.Table.{Table}
use Rattle.spiel_poker.specs.Betting.{Opening, in_turn, words_owed, raise_count, highest_stake, stake_of}

-- who is in turn of two players: both, or the one who is left
abbrev pub seats : Bool → ℕ → List ℕ
seats true p = p ∷ []
seats false p = p ∷ (1 - p) ∷ []

-- the table shows the round that began so, after these words, the latest first
pub record IsTable (table : Table) (opening : Opening) (words : List ℕ) : Type 0 where
  pub line : in_turn opening.line words ≡ seats table.folded table.speaker
  pub owed : words_owed opening.line words ≡ table.owed
  pub raises : raise_count words ≡ table.raises
  pub top : highest_stake opening words ≡ table.highest
  pub stakes : (p : ℕ) → p < 2 → stake_of opening words p ≡ slice_index table.stakes p
  pub speaker : table.speaker < 2

-- the player whose turn it is may say a word, and the numbers have room for a raise
pub record MaySpeak (table : Table) : Type 0 where
  pub both : table.folded ≡ false
  pub owed : 0 < table.owed
  pub speaker : table.speaker < 2
  pub raises : table.raises < 100
  pub highest : table.highest < 100
