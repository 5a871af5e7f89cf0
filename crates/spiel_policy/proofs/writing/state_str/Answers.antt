use Rattle.std.proofs.Common.{sym, subst}
use Rattle.std.specs.Prelude.{IsUtf8}
use Rattle.std.proofs.lemmas.Str.{IsUtf8-from_ascii}
use Rattle.spiel_tree.specs.States.{state_at}
use Rattle.spiel_tree.proofs.AsciiTexts.{text_ascii}
use Rattle.spiel_policy.proofs.writing.state_str.Goals as goal

pub unreachable-requires : goal.unreachable-requires
unreachable-requires c =
    let tree = c.args.tree.now in
    c.in-Err.ensures.cases.0 (subst IsUtf8 (sym c.state_text.ensures) (IsUtf8-from_ascii (state_at tree.players tree.rows c.args.state).text (text_ascii tree c.requires.game c.args.state c.requires.state)))
