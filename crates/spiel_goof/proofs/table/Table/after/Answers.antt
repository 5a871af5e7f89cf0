use Rattle.std.proofs.Common.{◌<◌, List, [], ◌∷◌, ◌++◌, length, map, refl, ap, sym, subst, ◌∙◌, arith, length-append}
use Rattle.std.proofs.lemmas.List.{length-set, take_more_set, map-append}
use Rattle.spiel_goof.specs.declared.turns.Turn.{Turn}
use Rattle.spiel_goof.specs.Cards.{AreLeft}
use Rattle.spiel_goof.specs.Goofspiel.{point_of, bid_of}
use Rattle.spiel_goof.proofs.Growth.{seat_grows}
use Rattle.spiel_goof.proofs.table.Table.after.Goals as goal

pub returns : goal.returns
returns c x shows =
    let table = c.args.self in
    let turn = c.args.turn in
    let within : table.count < length table.turns = omega (arith, shows.size, c.requires.count) in
    record {
      stage = refl;
      size = length-set table.turns table.count turn ∙ shows.size;
      count = omega (arith, shows.count, length-append x.turns (turn ∷ []));
      turns = take_more_set table.turns table.count turn within ∙ ap (λ (turns : List Turn). turns ++ turn ∷ []) shows.turns;
      deck = subst (AreLeft c.without.result) (sym (map-append point_of x.turns (turn ∷ []))) (c.without.ensures (map point_of x.turns) shows.deck);
      first = seat_grows table.first c.after.result 0 x.turns turn c.gain.result shows.first (c.after.ensures.hand (map (bid_of 0) x.turns) shows.first.hand) c.gain.ensures c.after.ensures.points;
      second = seat_grows table.second c.after-2.result 1 x.turns turn c.gain-2.result shows.second (c.after-2.ensures.hand (map (bid_of 1) x.turns) shows.second.hand) c.gain-2.ensures c.after-2.ensures.points;
    }
