-- What a loop over the cards needs.
use Rattle.spiel_api.proofs.CardsLeft.{where_empty, count-next, count-other, where_place, where_at_most}

pub ruleset where_steps = (where_empty, count-next, count-other, where_place, where_at_most)
