-- The game of some cards, and the state that stands for a play of it.
use Rattle.spiel_api.specs.Rules.{Rules}
use Rattle.spiel_api.specs.Plays.{IsPlay}
use Rattle.spiel_goof.specs.declared.goofspiel.Goofspiel.{Goofspiel}
use Rattle.spiel_goof.specs.declared.goofspiel.GoofspielState.{GoofspielState}
use Rattle.spiel_goof.specs.Goofspiel.{IsCardCount, goofspiel_rules, Parts, parts}
use Rattle.spiel_goof.specs.Table.{IsTable}

-- the rules of a game
abbrev pub rules_of : Goofspiel → Rules
rules_of g = goofspiel_rules g.cards g.order g.returns g.hidden

-- what the play of a state is made of
abbrev pub parts_of : Goofspiel → GoofspielState → Parts
parts_of g state = parts g.order g.cards state.history

-- the history is a play, and the table shows what it is made of
pub record IsGoofspielAt (g : Goofspiel) (state : GoofspielState) : Type 0 where
  pub range : IsCardCount g.cards
  pub play : IsPlay (rules_of g) state.history
  pub table : IsTable state.table (parts_of g state)
