use Rattle.std.proofs.Common.{◌≡◌, ◌+◌, ◌<◌, ◌≤◌, ℕ, List, ◌∷◌, ◌++◌, [], map, take, length, ap, sym, ◌∙◌, arith, rules, suc, length-append}
use Rattle.std.proofs.lemmas.List.{take_all}
use Rattle.std.specs.Prelude.{slice_index}
use Rattle.std.specs.List.{flat_map}
use Rattle.spiel_api.specs.Rules.{next_of}
use Rattle.spiel_tree.specs.Histories.{histories_from}
use Rattle.spiel_tree.specs.Rows.{Row, row_of, rows_from, way_from}
use Rattle.spiel_tree.specs.Flat.{rows_of}
use Rattle.spiel_tree.proofs.Ways.{rows-unfold, some_row, rows_within, parent_way, numbers_there}
use Rattle.spiel_tree.proofs.Stops.{child_stops}
use Rattle.spiel_tree.proofs.walking.+add_rows.Goals as goal

-- there is one history more at least
pub returns-then-is_full-clause-all : goal.returns-then-is_full-clause-all
returns-then-is_full-clause-all g t c =
    let laws = g.met.G.Game in
    let game = c.args.game.now in
    let state = c.args.state.now in
    let lawful = laws.lawful game (laws.can_be_played game state c.requires.at) in
    let some = some_row (g.G.Game.rules game) lawful (g.G.Game.history_of game state) (laws.plays game state c.requires.at) in
    let full : c.args.limit ≤ length (rows_of c.args.out.now) = search rules in
    omega (arith, some, full)

-- a child that passes the limit
pub returns-in_err-add_rows-clause-all : goal.returns-in_err-add_rows-clause-all
returns-in_err-add_rows-clause-all g t c =
    let laws = g.met.G.Game in
    let game = c.args.game.now in
    let state = c.args.state.now in
    let r = g.G.Game.rules game in
    let h = g.G.Game.history_of game state in
    let lawful = laws.lawful game (laws.can_be_played game state c.requires.at) in
    let index = c.loop-index.index in
    let within : index < length (next_of r h) = omega (arith, c.in_ok-count.ensures.count, c.loop-index-test.true) in
    let here = rows_within r lawful h (laws.plays game state c.requires.at) (rows_of c.args.out.now) index within in
    let more : List Row = map (row_of r) (flat_map (λ a. histories_from r (h ++ a ∷ [])) (take index (next_of r h))) in
    let at : c.count-here.result ≡ length (rows_of c.args.out.now) = search rules in
    let numbers : c.numbers_at.result.now ≡ next_of r h = c.numbers_at.ensures ∙ numbers_there r h (rows_of c.loop-index.out) (rows_of c.args.out.now) more c.count-here.result c.loop-index.invariant.added.rows_are at in
    let play : g.G.Game.history_of game c.apply.new.state ≡ h ++ slice_index (next_of r h) index ∷ [] =
    c.in_ok-apply.ensures.ok.history
    ∙ ap (λ (play : List ℕ). play ++ slice_index c.numbers_at.result.now index ∷ []) c.loop-index.invariant.back.history
    ∙ ap (λ (ns : List ℕ). h ++ slice_index ns index ∷ []) numbers in
    let before : length (rows_of c.loop-index.out) + length (rows_from r (g.G.Game.history_of game c.apply.new.state)) ≤ length (rows_of c.args.out.now) + length (rows_from r h) =
    rw (c.loop-index.invariant.added.rows_are, play) here in
    let stops = child_stops c.in_err-add_rows.field-0.0 (rows_from r h) (rows_from r (g.G.Game.history_of game c.apply.new.state)) c.args.out.now c.loop-index.out c.add_rows.new.out c.args.limit c.args.long before c.in_err-add_rows.ensures.all in
    search rules

-- each number was taken
pub returns-clause-all : goal.returns-clause-all
returns-clause-all g t c =
    let laws = g.met.G.Game in
    let game = c.args.game.now in
    let state = c.args.state.now in
    let r = g.G.Game.rules game in
    let h = g.G.Game.history_of game state in
    let lawful = laws.lawful game (laws.can_be_played game state c.requires.at) in
    let all : take c.loop-index.index (next_of r h) ≡ next_of r h = take_all c.loop-index.index (next_of r h) (omega (arith, c.in_ok-count.ensures.count)) in
    let step = rows-unfold r lawful h (laws.plays game state c.requires.at) in (
      record {
        rows_are = c.loop-index.invariant.added.rows_are ∙ ap (λ (xs : List ℕ). rows_of c.args.out.now ++ map (row_of r) (h ∷ flat_map (λ a. histories_from r (h ++ a ∷ [])) xs)) all ∙ ap (λ (more : List Row). rows_of c.args.out.now ++ more) (sym step);
        built = c.loop-index.invariant.added.built;
        players = c.loop-index.invariant.added.players;
      },
      c.loop-index.invariant.fits,
    )

-- the next number's state stands one step behind the row that was added first
pub add_rows-requires : goal.add_rows-requires
add_rows-requires g t c κs within =
    let laws = g.met.G.Game in
    let game = c.args.game.now in
    let state = c.args.state.now in
    let r = g.G.Game.rules game in
    let h = g.G.Game.history_of game state in
    let lawful = laws.lawful game (laws.can_be_played game state c.requires.at) in
    let index = c.loop-index.index in
    let index_low : index < length (next_of r h) = omega (arith, c.in_ok-count.ensures.count, c.loop-index-test.true) in
    let more : List Row = map (row_of r) (flat_map (λ a. histories_from r (h ++ a ∷ [])) (take index (next_of r h))) in
    let added = c.loop-index.invariant.added in
    let here : c.count-here.result ≡ length (rows_of c.args.out.now) = search rules in
    let all : length (rows_of c.loop-index.out) ≡ length (rows_of c.args.out.now) + suc (length more) = ap length added.rows_are ∙ length-append (rows_of c.args.out.now) (row_of r h ∷ more) in
    let way = parent_way r lawful h (laws.plays game state c.requires.at) index index_low (rows_of c.loop-index.out) (rows_of c.args.out.now) more c.count-here.result added.rows_are here in
    let numbers : c.numbers_at.result.now ≡ next_of r h = c.numbers_at.ensures ∙ numbers_there r h (rows_of c.loop-index.out) (rows_of c.args.out.now) more c.count-here.result added.rows_are here in
    let play : g.G.Game.history_of game c.apply.new.state ≡ h ++ slice_index (next_of r h) index ∷ [] =
    c.in_ok-apply.ensures.ok.history
    ∙ ap (λ (play : List ℕ). play ++ slice_index c.numbers_at.result.now index ∷ []) c.loop-index.invariant.back.history
    ∙ ap (λ (ns : List ℕ). h ++ slice_index ns index ∷ []) numbers in
    let sound = c.in_ok-apply.ensures.ok.sound in
    let short : length (g.G.Game.history_of game c.apply.new.state) ≤ 4096 = lawful.limits.short (g.G.Game.history_of game c.apply.new.state) (laws.plays game c.apply.new.state sound) in
    let longer : length (g.G.Game.history_of game c.apply.new.state) ≡ length h + 1 = ap length play ∙ length-append h (slice_index (next_of r h) index ∷ []) in
    (omega (arith, c.decreases, short, longer), (search rules, (search rules, (sound, (added.built, (added.players ∙ c.requires.players, (omega (arith, here, all), way ∙ ap (λ (h : List ℕ). way_from r [] h) (sym play))))))))
