-- The cards that a set keeps.
use Rattle.std.specs.Prelude.{◌≡◌, ◌<◌, ℕ, false, not, List, length, slice_index_or}
use Rattle.spiel_api.specs.Walks.{is_in}
use Rattle.spiel_goof.specs.declared.cards.Cards.{Cards}
use Rattle.spiel_api.specs.Deck.{cards_where}

-- of n cards those that the set has
abbrev pub held : Cards → ℕ → List ℕ
held cards n = cards_where (λ c. slice_index_or cards.left c false) n

-- the set has all of 20 cards but those that are gone
pub record AreLeft (cards : Cards) (gone : List ℕ) : Type 0 where
  pub size : length cards.left ≡ 20
  pub each : (c : ℕ) → c < 20 → slice_index_or cards.left c false ≡ not (is_in gone c)
