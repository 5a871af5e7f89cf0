use Rattle.std.proofs.Common.{◌∙◌, sym}
use Rattle.spiel_test_games.specs.TableLaws.{decision_count, draw_count}
use Rattle.spiel_test_games.proofs.table.NodeTableGame.legal_count.Goals as goal

pub returns-in-Some-Chance : goal.returns-in-Some-Chance
returns-in-Some-Chance c =
    draw_count _ _ _ c.args.player (sym c.in-Some-Chance.is ∙ c.node.ensures.value) c.in-Some-Chance.field-0-is

pub returns-in-Some-Decision : goal.returns-in-Some-Decision
returns-in-Some-Decision c =
    decision_count _ _ _ _ _ c.args.player (sym c.in-Some-Decision.is ∙ c.node.ensures.value) c.in-Some-Decision.field-0-is c.if-mover-player.true
