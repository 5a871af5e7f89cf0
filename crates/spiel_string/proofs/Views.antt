-- A game inside a value.
use Rattle.std.proofs.Common.{◌≡◌, ◌∙◌, sym, ap}
use Rattle.std.specs.Prelude.{Box}
use Rattle.std.specs.declared.alloc.Global.{Global}
use Rattle.spiel_string.specs.Game.{inner, Value, Game}
use Rattle.spiel_string.specs.View.{view, value_view, value_step, game_step}
use Rattle.spiel_string.specs.declared.value.GameText.{GameText}
use Rattle.spiel_string.specs.declared.value.ParamValue.TheFolds as fold
use Rattle.spiel_string.specs.declared.value.ParamValue.TheVariants as variants
use Rattle.spiel_string.specs.declared.value.ParamValue.TheViews as views

view-fold : (g : GameText) → fold.fold-GameText Value Game value_step game_step g ≡ view g
view-fold g = fold.fold_out-GameText Value Game value_step game_step g

pub value_view-Game : (b : Box GameText Global) → value_view (views.Game b) ≡ inner (view b.value)
value_view-Game b =
    ap value_view (sym (variants.rolls-Game b)) ∙ fold.fold-roll-ParamValue Value Game value_step game_step _ ∙ ap (λ g. inner g) (view-fold b.value)
