use Rattle.std.proofs.Common.{List, sym, subst, ◌∙◌}
use Rattle.std.specs.Prelude.{flat_map}
use Rattle.std.specs.List.{All}
use Rattle.spiel_frac.specs.Adding.{AddsPart}
use Rattle.spiel_goof.specs.declared.turns.Turn.{Turn}
use Rattle.spiel_goof.specs.declared.turns.Stage.{Stage}
use Rattle.spiel_goof.specs.Goofspiel.{turn_text, stage_text, info_at}
use Rattle.spiel_goof.specs.GoofspielPlays.{IsTurnOf, IsStageOf}
use Rattle.spiel_goof.specs.GoofspielState.{parts_of}
use Rattle.spiel_goof.proofs.Growth.{state_sound, wide_turns, wide_stage}
use Rattle.spiel_frac.proofs.AddedTexts.{adds_failed, part_front}
use Rattle.spiel_goof.proofs.goofspiel.GoofspielGame.info.Goals as goal

pub push_turns-requires-clause-cards : goal.push_turns-requires-clause-cards
push_turns-requires-clause-cards c =
    let g = c.args.self.now in
    let state = c.args.state.now in
    let x = parts_of g state in
    let all = wide_turns g.cards x.turns c.requires.at.range.high (state_sound g state c.requires.at).turns in
    subst (λ (turns : List Turn). All (IsTurnOf 20) turns) (sym (c.turns.ensures ∙ c.requires.at.table.turns)) all

pub push_stage-requires : goal.push_stage-requires
push_stage-requires c =
    let g = c.args.self.now in
    let state = c.args.state.now in
    let x = parts_of g state in
    let cards = wide_stage g.cards x.stage c.requires.at.range.high (state_sound g state c.requires.at).stage in
    subst (λ (stage : Stage). IsStageOf 20 stage) (sym c.requires.at.table.stage) cards

-- a front of the complete turns
pub returns-in_err-push_turns : goal.returns-in_err-push_turns
returns-in_err-push_turns c =
    let g = c.args.self.now in
    let state = c.args.state.now in
    let x = parts_of g state in
    let seen = turn_text g.hidden c.args.player in
    let old = c.args.out.now in
    let new = c.push_turns.new.out in
    let part = subst (λ (turns : List Turn). AddsPart old new (flat_map seen turns)) (c.turns.ensures ∙ c.requires.at.table.turns) c.in_err-push_turns.ensures in
    adds_failed c.from_residual.result old new (info_at g.hidden x c.args.player) c.from_residual.ensures.0 (part_front old new (flat_map seen x.turns) (stage_text x.stage) part)
