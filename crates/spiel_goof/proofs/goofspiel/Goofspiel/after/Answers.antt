use Rattle.std.proofs.Common.{◌≡◌, ℕ, ◌+◌, [], ◌∷◌, ◌++◌, length, ap, sym, subst, ◌∙◌, arith}
use Rattle.std.specs.Prelude.{slice_get}
use Rattle.spiel_goof.specs.declared.turns.Stage.{Stage}
use Rattle.spiel_goof.specs.Goofspiel.{given_points}
use Rattle.spiel_goof.specs.Turns.{begun}
use Rattle.spiel_goof.specs.Table.{IsTable}
use Rattle.spiel_goof.specs.GoofspielState.{parts_of}
use Rattle.spiel_goof.proofs.Numbers.{next_small}
use Rattle.spiel_goof.proofs.Growth.{parts_drawn, parts_first, parts_second, state_room, state_cards, state_points}
use Rattle.spiel_goof.proofs.goofspiel.Goofspiel.after.Goals as goal

pub after-requires-clause-count : goal.after-requires-clause-count
after-requires-clause-count c =
    let shows = c.requires.at.table in
    omega (arith, shows.count, state_room c.args.self.now c.args.state.now c.in-Bid.point c.in-Bid.first c.requires.at (sym shows.stage ∙ c.in-Bid.is))

pub after-requires-clause-cards : goal.after-requires-clause-cards
after-requires-clause-cards c =
    let g = c.args.self.now in
    let shows = c.requires.at.table in
    let high = c.requires.at.range.high in
    let cards = state_cards g c.args.state.now c.in-Bid.point c.in-Bid.first c.requires.at (sym shows.stage ∙ c.in-Bid.is) in
    let next = next_small g.cards (parts_of g c.args.state.now) c.args.action c.requires.legal in
    record { point = omega (arith, cards.0, high); first = omega (arith, cards.1, high); second = omega (arith, next, high) }

pub after-requires-clause-first : goal.after-requires-clause-first
after-requires-clause-first c = omega (arith, c.requires.at.table.first.points, state_points c.args.self.now c.args.state.now c.requires.at)

pub after-requires-clause-second : goal.after-requires-clause-second
after-requires-clause-second c = omega (arith, c.requires.at.table.second.points, state_points c.args.self.now c.args.state.now c.requires.at)

-- a draw
pub returns-in-Between : goal.returns-in-Between
returns-in-Between c =
    let g = c.args.self.now in
    let state = c.args.state.now in
    let shows = c.requires.at.table in
    subst (IsTable c.with.result) (sym (parts_drawn g.order g.cards state.history c.args.action (sym shows.stage ∙ c.in-Between.is))) (c.with.ensures (parts_of g state) shows)

-- the bid of player 0
pub returns-in-Shown : goal.returns-in-Shown
returns-in-Shown c =
    let g = c.args.self.now in
    let state = c.args.state.now in
    let shows = c.requires.at.table in
    subst (IsTable c.with-in-Shown.result) (sym (parts_first g.order g.cards state.history c.args.action c.in-Shown.point (sym shows.stage ∙ c.in-Shown.is))) (c.with-in-Shown.ensures (parts_of g state) shows)

-- the bid of player 1
pub returns-in-Bid : goal.returns-in-Bid
returns-in-Bid c =
    let g = c.args.self.now in
    let state = c.args.state.now in
    let x = parts_of g state in
    let shows = c.requires.at.table in
    let next : c.stage_at.result ≡ begun (slice_get (given_points g.order g.cards) (length x.turns + 1)) =
    c.stage_at.ensures ∙ ap (λ (k : ℕ). begun (slice_get (given_points g.order g.cards) (k + 1))) (c.count.ensures ∙ shows.count) in
    subst (IsTable c.after.result) (sym (parts_second g.order g.cards state.history c.args.action c.in-Bid.point c.in-Bid.first (sym shows.stage ∙ c.in-Bid.is)))
    (subst (λ (stage : Stage). IsTable c.after.result (record { turns = x.turns ++ (record { point = c.in-Bid.point; first = c.in-Bid.first; second = c.args.action }) ∷ []; stage = stage })) next (c.after.ensures x shows))
