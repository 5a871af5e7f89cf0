-- The state that stands for a play of Leduc poker.
use Rattle.std.specs.Prelude.{◌≡◌, ◌+◌, ◌<◌, ◌≤◌, ℕ, length, take}
use Rattle.spiel_api.specs.Plays.{IsPlay}
use Rattle.spiel_poker.specs.declared.leduc.Round.{Round}
use Rattle.spiel_poker.specs.declared.leduc.Round.TheVariants.{Deal, First, Second}
use Rattle.spiel_poker.specs.declared.leduc.LeducState.{LeducState}
use Rattle.spiel_poker.specs.declared.betting.Table.{Table}
use Rattle.spiel_poker.specs.Leduc.{Parts, leduc_rules, parts, opening_of}
use Rattle.spiel_poker.specs.Table.{IsTable}

-- how many rounds have begun
abbrev pub round_number : Round → ℕ
round_number Deal = 0
round_number First = 1
round_number Second = 2

-- the players' cards are being dealt, or both are
abbrev pub HasCards : Round → ℕ → Type 0
HasCards Deal count = count < 2
HasCards First count = 2 ≤ count
HasCards Second count = 2 ≤ count

-- a state shows what a history is made of
pub record ShowsParts (r : Round) (card at : ℕ) (t : Table) (x : Parts) : Type 0 where
  pub round : x.round ≡ round_number r
  pub public : x.public ≡ card
  pub public_at : length x.first + 2 ≡ at
  pub table : IsTable t (opening_of 2 x) x.words

-- the history is a play, and the state shows what it is made of
pub record IsLeducAt (state : LeducState) : Type 0 where
  pub play : IsPlay leduc_rules state.history
  pub shows : ShowsParts state.round state.public state.public_at state.table (parts 2 state.history)
  pub cards : HasCards state.round (length state.history)

-- the state with the first numbers of its history alone
abbrev pub front : ℕ → LeducState → LeducState
front count state = record state { history = take count state.history }
