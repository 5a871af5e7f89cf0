-- Whose an information state is, and its number.
use Rattle.std.proofs.Common.{◌≡◌, ℕ, ◌+◌, ◌<◌, List, length, sym, ap, ◌∙◌, subst}
use Rattle.spiel_tree.specs.FirstSeen.{text_at}
use Rattle.spiel_tree.specs.Rows.{Row}
use Rattle.spiel_tree.specs.States.{InfoState, state_at, state_number, states_below, texts_seen}
use Rattle.spiel_tree.proofs.StateCounts.{state_split, text_number}
use Rattle.spiel_tree.proofs.StateNumbers.{state_there}

-- a number splits into a player, and the place of a text among those that the player sees
pub split_is : (players : ℕ) (rows : List Row) (s : ℕ) (l : s < length (states_below players rows))
    → state_at players rows s ≡ record { player = (state_split players rows s l).player; text = text_at (texts_seen (state_split players rows s l).player rows) (state_split players rows s l).number }
split_is players rows s l =
    let split = state_split players rows s l in
    ap (λ (n : ℕ). state_at players rows n) split.is ∙ state_there players split.player split.number rows split.low split.within

-- the player is one of them
pub player_low : (players : ℕ) (rows : List Row) (s : ℕ) → s < length (states_below players rows) → (state_at players rows s).player < players
player_low players rows s l = subst (λ (state : InfoState). state.player < players) (sym (split_is players rows s l)) (state_split players rows s l).low

-- each has its own number
own_number : (players : ℕ) (rows : List Row) (s : ℕ) → s < length (states_below players rows) → state_number rows (state_at players rows s).player (state_at players rows s).text ≡ s
own_number players rows s l =
    let split = state_split players rows s l in
    let p = split.player in
    subst (λ (state : InfoState). state_number rows state.player state.text ≡ s) (sym (split_is players rows s l))
    (ap (λ (n : ℕ). length (states_below p rows) + n) (text_number p rows split.number split.within).first ∙ sym split.is)

pub one_number : (players : ℕ) (rows : List Row) (s t : ℕ) → s < length (states_below players rows) → t < length (states_below players rows)
    → state_at players rows s ≡ state_at players rows t → s ≡ t
one_number players rows s t l m e =
    sym (own_number players rows s l) ∙ ap (λ (state : InfoState). state_number rows state.player state.text) e ∙ own_number players rows t m
