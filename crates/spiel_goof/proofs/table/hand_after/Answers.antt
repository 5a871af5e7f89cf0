use Rattle.std.proofs.Common.{[], ◌∷◌, ◌++◌, map, take, ap, sym, subst, ◌∙◌}
use Rattle.std.proofs.lemmas.List.{map_more}
use Rattle.spiel_goof.specs.declared.turns.Turn.{Turn}
use Rattle.spiel_goof.specs.Cards.{AreLeft}
use Rattle.spiel_goof.specs.Goofspiel.{bid_of}
use Rattle.spiel_goof.proofs.table.hand_after.Goals as goal

pub loop-turn-preserved : goal.loop-turn-preserved
loop-turn-preserved c =
    let turns = c.args.turns.now in
    let k = c.loop-turn.turn-index in
    let none : Turn = record { point = 0; first = 0; second = 0 } in
    let seen = map (bid_of c.args.player) (take k turns) in
    subst (AreLeft c.without-hand.result) (ap (λ bid. seen ++ bid ∷ []) c.bid.ensures ∙ sym (map_more (bid_of c.args.player) turns k none c.loop-turn-test.true)) (c.without-hand.ensures seen c.loop-turn.invariant)
