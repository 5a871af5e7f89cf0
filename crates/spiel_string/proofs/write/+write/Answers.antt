use Rattle.std.proofs.Common.{◌≡◌, ◌∙◌, sym, ap, ℕ, List}
use Rattle.spiel_string.specs.Canonical.{value_text, game_text}
use Rattle.spiel_string.specs.Insertion.{insert_pair}
use Rattle.spiel_string.specs.View.{view, value_view}
use Rattle.spiel_string.proofs.Views.{value_view-Game}
use Rattle.spiel_string.proofs.Writing.{sorted_more}
use Rattle.spiel_string.proofs.write.+write.Goals as goal

pub value_text-returns-in_ok-text-in-Game : goal.value_text-returns-in_ok-text-in-Game
value_text-returns-in_ok-text-in-Game t c =
    c.in_ok-text-in-Game.ensures ∙ ap (λ g. game_text (view g)) c.deref.ensures ∙ ap value_text (sym (ap value_view c.in-Game.is ∙ value_view-Game c.in-Game.game))

pub game_text-loop-param-preserved : goal.game_text-loop-param-preserved
game_text-loop-param-preserved t c =
    let param = c.param-item.result in
    let key : c.in_ok-key.key ≡ param.0 = c.in_ok-key.ensures ∙ c.bytes.ensures in
    let text : c.in_ok-text.text ≡ value_text (value_view param.1) = c.in_ok-text.ensures in
    sorted_more c.items-param-items.result.now c.loop-param.param-index param c.loop-param.entries.items c.insert_pair.new.pairs.items c.loop-param-test.true c.param-item.is
    c.loop-param.invariant
    (c.in_ok-insert_pair.ensures ∙ ap (λ (k : List ℕ). insert_pair (k, c.in_ok-text.text) c.loop-param.entries.items) key
    ∙ ap (λ (u : List ℕ). insert_pair (param.0, u) c.loop-param.entries.items) text)
