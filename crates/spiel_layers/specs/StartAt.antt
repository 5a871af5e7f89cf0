-- The game behind some first numbers.
use Rattle.std.specs.Prelude.{◌≡◌, ℕ, Bool, false, List, [], ◌∷◌, ◌++◌, length, drop}
use Rattle.spiel_api.specs.declared.game.Game.{Ghosts}
use Rattle.spiel_api.specs.Rules.{Rules}
use Rattle.spiel_api.specs.Walks.{IsFinished}
use Rattle.spiel_layers.specs.declared.start_at.StartAt.{StartAt}

-- behind some numbers a game is one-shot no more
abbrev pub start_shot : List ℕ → Bool → Bool
start_shot [] shot = shot
start_shot (a ∷ prefix) shot = false

-- each meaning at h is the inner one at prefix ++ h
abbrev pub start_at_rules : List ℕ → Rules → Rules
start_at_rules prefix rules = record rules {
  one_shot = start_shot prefix rules.one_shot;
  place = λ h. rules.place (prefix ++ h);
  legal = λ h p. rules.legal (prefix ++ h) p;
  weights = λ h. rules.weights (prefix ++ h);
  info = λ h p. rules.info (prefix ++ h) p;
  name = λ h p a. rules.name (prefix ++ h) p a;
  pay = λ h p. rules.pay (prefix ++ h) p;
}

-- the inner game can be played, and the prefix is a play of it that doesn't end inside a joint step
pub record IsStarted {G S : Type 0} (inner : Ghosts G S) (game : StartAt G) : Type 0 where
  pub sound : inner.is_game game.inner
  pub finished : IsFinished (inner.rules game.inner) game.prefix

-- what follows the prefix in the play for which the inner state stands
abbrev pub start_at_history : {G S : Type 0} → Ghosts G S → StartAt G → S → List ℕ
start_at_history inner game state = drop (length game.prefix) (inner.history_of game.inner state)

-- the inner state stands for a play that begins with the prefix
pub record IsStartedAt {G S : Type 0} (inner : Ghosts G S) (game : StartAt G) (state : S) : Type 0 where
  pub started : IsStarted inner game
  pub sound : inner.is_at game.inner state
  pub begins : inner.history_of game.inner state ≡ game.prefix ++ start_at_history inner game state
