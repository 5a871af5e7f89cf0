-- The state that stands for a play of Kuhn poker.
use Rattle.std.specs.Prelude.{◌≡◌, ◌<◌, ℕ, List, [], ◌∷◌, ⊤}
use Rattle.spiel_api.specs.Plays.{IsPlay}
use Rattle.spiel_poker.specs.declared.kuhn.Stage.{Stage}
use Rattle.spiel_poker.specs.declared.kuhn.Stage.TheVariants.{First, Second, Open, Pass, Bet, PassPass, PassBet, BetPass, BetBet, PassBetPass, PassBetBet}
use Rattle.spiel_poker.specs.declared.kuhn.KuhnState.{KuhnState}
use Rattle.spiel_poker.specs.Kuhn.{kuhn_rules}

-- the history that a stage stands for, with these two cards
abbrev pub told : Stage → ℕ → ℕ → List ℕ
told First c d = []
told Second c d = c ∷ []
told Open c d = c ∷ d ∷ []
told Pass c d = c ∷ d ∷ 0 ∷ []
told Bet c d = c ∷ d ∷ 1 ∷ []
told PassPass c d = c ∷ d ∷ 0 ∷ 0 ∷ []
told PassBet c d = c ∷ d ∷ 0 ∷ 1 ∷ []
told BetPass c d = c ∷ d ∷ 1 ∷ 0 ∷ []
told BetBet c d = c ∷ d ∷ 1 ∷ 1 ∷ []
told PassBetPass c d = c ∷ d ∷ 0 ∷ 1 ∷ 0 ∷ []
told PassBetBet c d = c ∷ d ∷ 0 ∷ 1 ∷ 1 ∷ []

-- somebody speaks next
abbrev pub TakesWord : Stage → Type 0
TakesWord Open = ⊤
TakesWord Pass = ⊤
TakesWord Bet = ⊤
TakesWord PassBet = ⊤
TakesWord stage = ⊥

-- the history is a play, and the stage and the cards tell it; a card that was not dealt yet is any card
pub record IsKuhnAt (state : KuhnState) : Type 0 where
  pub play : IsPlay kuhn_rules state.history
  pub agrees : state.history ≡ told state.stage state.first state.second
  pub first_card : state.first < 3
  pub second_card : state.second < 3
