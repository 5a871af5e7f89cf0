use Rattle.std.proofs.Common.{◌-◌, length, take}
use Rattle.std.specs.Prelude.{slice_index}
use Rattle.spiel_goof.proofs.Undoing.{last_split, shows_own, cards_shown, bid_back, draw_back, shown_turn, between_turn, some_turn, turn_back, goes_back}
use Rattle.spiel_goof.proofs.goofspiel.GoofspielGame.undo.Goals as goal

-- a turn is complete
pub reopen-requires-clause-some : goal.reopen-requires-clause-some
reopen-requires-clause-some c =
    let g = c.args.self.now in
    let state = c.args.state.now in
    let h = take (length state.history - 1) state.history in
    let a = slice_index state.history (length state.history - 1) in
    let e = last_split state.history c.requires.some in
    some_turn g state h a c.requires.at e (shown_turn g state h a c.requires.at e c.in-Shown-2.point c.if-draws.ensures c.in-Shown-2.is)

pub reopen-requires-clause-shows : goal.reopen-requires-clause-shows
reopen-requires-clause-shows c = shows_own c.args.state.now.table _ c.requires.at.table

pub reopen-requires-clause-cards : goal.reopen-requires-clause-cards
reopen-requires-clause-cards c = cards_shown c.args.self.now c.args.state.now c.requires.at

pub reopen-requires-in-Between-clause-some : goal.reopen-requires-in-Between-clause-some
reopen-requires-in-Between-clause-some c =
    let g = c.args.self.now in
    let state = c.args.state.now in
    let h = take (length state.history - 1) state.history in
    let a = slice_index state.history (length state.history - 1) in
    let e = last_split state.history c.requires.some in
    some_turn g state h a c.requires.at e (between_turn g state h a c.requires.at e c.in-Between.is)

pub reopen-requires-in-Between-clause-shows : goal.reopen-requires-in-Between-clause-shows
reopen-requires-in-Between-clause-shows c = shows_own c.args.state.now.table _ c.requires.at.table

pub reopen-requires-in-Between-clause-cards : goal.reopen-requires-in-Between-clause-cards
reopen-requires-in-Between-clause-cards c = cards_shown c.args.self.now c.args.state.now c.requires.at

-- the bid of player 0
pub returns-in-Bid : goal.returns-in-Bid
returns-in-Bid c h a e =
    let g = c.args.self.now in
    let state = c.args.state.now in
    goes_back g state h a c.requires.at e _ (c.pop.ensures.last h a e).0 (bid_back g state h a c.requires.at e c.in-Bid.point c.in-Bid.first c.in-Bid.is)

-- a draw
pub returns-in-Shown : goal.returns-in-Shown
returns-in-Shown c h a e =
    let g = c.args.self.now in
    let state = c.args.state.now in
    goes_back g state h a c.requires.at e _ (c.pop.ensures.last h a e).0 (draw_back g state h a c.requires.at e c.in-Shown.point c.if-draws.ensures c.in-Shown.is)

-- the bid of player 1
pub returns-in-Shown-2 : goal.returns-in-Shown-2
returns-in-Shown-2 c h a e =
    let g = c.args.self.now in
    let state = c.args.state.now in
    let turn = shown_turn g state h a c.requires.at e c.in-Shown-2.point c.if-draws.ensures c.in-Shown-2.is in
    goes_back g state h a c.requires.at e _ (c.pop.ensures.last h a e).0 (turn_back g state h a c.requires.at e turn c.reopen.new.self c.reopen.ensures)

pub returns-in-Between : goal.returns-in-Between
returns-in-Between c h a e =
    let g = c.args.self.now in
    let state = c.args.state.now in
    let turn = between_turn g state h a c.requires.at e c.in-Between.is in
    goes_back g state h a c.requires.at e _ (c.pop.ensures.last h a e).0 (turn_back g state h a c.requires.at e turn c.reopen-in-Between.new.self c.reopen-in-Between.ensures)
