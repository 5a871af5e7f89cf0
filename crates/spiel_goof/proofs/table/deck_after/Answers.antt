use Rattle.std.proofs.Common.{map, take, sym, subst}
use Rattle.std.proofs.lemmas.List.{map_more}
use Rattle.spiel_goof.specs.declared.turns.Turn.{Turn}
use Rattle.spiel_goof.specs.Cards.{AreLeft}
use Rattle.spiel_goof.specs.Goofspiel.{point_of}
use Rattle.spiel_goof.proofs.table.deck_after.Goals as goal

pub loop-turn-preserved : goal.loop-turn-preserved
loop-turn-preserved c =
    let turns = c.args.turns.now in
    let k = c.loop-turn.turn-index in
    let none : Turn = record { point = 0; first = 0; second = 0 } in
    subst (AreLeft c.without-deck.result) (sym (map_more point_of turns k none c.loop-turn-test.true)) (c.without-deck.ensures (map point_of (take k turns)) c.loop-turn.invariant)
