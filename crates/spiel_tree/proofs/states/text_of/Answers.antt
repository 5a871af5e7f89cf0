use Rattle.std.proofs.Common.{arith, sym, ap, rules, ◌<◌, ◌≡◌, ◌-◌, ◌∙◌, List, ℕ, length}
use Rattle.std.specs.Prelude.{slice_index_or}
use Rattle.spiel_tree.specs.FirstSeen.{text_at}
use Rattle.spiel_tree.specs.Flat.{rows_of}
use Rattle.spiel_tree.specs.States.{InfoState, states_below}
use Rattle.spiel_tree.proofs.StateReading.{player_texts, state_here}
use Rattle.spiel_tree.proofs.states.text_of.Goals as goal

pub index-requires : goal.index-requires
index-requires c =
    let h = state_here c.args.rows.now c.args.state c.player_of-player.result c.requires.state c.player_of-player.ensures in
    let low : c.player_of-player.result < length c.args.rows.now.texts.items = h.low in
    search rules

pub bounds-starts-player : goal.bounds-starts-player
bounds-starts-player c =
    let h = state_here c.args.rows.now c.args.state c.player_of-player.result c.requires.state c.player_of-player.ensures in
    omega (arith, h.low, c.requires.starts.count)

pub overflow_sub-state : goal.overflow_sub-state
overflow_sub-state c =
    let h = state_here c.args.rows.now c.args.state c.player_of-player.result c.requires.state c.player_of-player.ensures in
    let start : slice_index_or c.args.starts.now c.player_of-player.result 0 ≡ length (states_below c.player_of-player.result (rows_of c.args.rows.now)) = c.requires.starts.each c.player_of-player.result (omega (arith, h.low)) in
    omega (arith, h.begun, start)

pub at-requires : goal.at-requires
at-requires c =
    let h = state_here c.args.rows.now c.args.state c.player_of-player.result c.requires.state c.player_of-player.ensures in
    let are = player_texts c.args.rows.now c.player_of-player.result c.index.result.now c.requires.built h.low c.index.ensures in
    let start : slice_index_or c.args.starts.now c.player_of-player.result 0 ≡ length (states_below c.player_of-player.result (rows_of c.args.rows.now)) = c.requires.starts.each c.player_of-player.result (omega (arith, h.low)) in
    omega (arith, h.within, start, ap (λ (ts : List (List ℕ)). length ts) are.is)

pub returns : goal.returns
returns c =
    let h = state_here c.args.rows.now c.args.state c.player_of-player.result c.requires.state c.player_of-player.ensures in
    let are = player_texts c.args.rows.now c.player_of-player.result c.index.result.now c.requires.built h.low c.index.ensures in
    let start : slice_index_or c.args.starts.now c.player_of-player.result 0 ≡ length (states_below c.player_of-player.result (rows_of c.args.rows.now)) = c.requires.starts.each c.player_of-player.result (omega (arith, h.low)) in
    c.at.ensures
    ∙ ap (λ (n : ℕ). text_at c.index.result.now (c.args.state - n)) start
    ∙ ap (λ (ts : List (List ℕ)). text_at ts (c.args.state - length (states_below c.player_of-player.result (rows_of c.args.rows.now)))) are.is
    ∙ sym (ap (λ (state : InfoState). state.text) h.is)
