-- What a loop over the deck needs.
use Rattle.spiel_api.proofs.CardsLeft.{left_empty, count-gone, count-left, left_place, left_at_most}

pub ruleset left_steps = (left_empty, count-gone, count-left, left_place, left_at_most)
