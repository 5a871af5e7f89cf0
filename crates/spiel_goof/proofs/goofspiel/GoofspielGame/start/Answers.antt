use Rattle.std.proofs.Common.{ℕ, List, [], sym, subst}
use Rattle.spiel_api.specs.Plays.{IsPlay}
use Rattle.spiel_api.proofs.PlayLemmas.{IsPlay-nil}
use Rattle.spiel_goof.specs.declared.turns.Stage.{Stage}
use Rattle.spiel_goof.specs.Goofspiel.{parts}
use Rattle.spiel_goof.specs.Turns.{parts-nil}
use Rattle.spiel_goof.specs.Table.{IsTable}
use Rattle.spiel_goof.specs.GoofspielState.{rules_of}
use Rattle.spiel_goof.proofs.goofspiel.GoofspielGame.start.Goals as goal

pub returns : goal.returns
returns c =
    let g = c.args.self.now in
    let table = c.new-2.result in
    let first = subst (λ (stage : Stage). IsTable table (record { turns = []; stage = stage })) c.stage_at.ensures c.new-2.ensures in
    record {
      sound = record {
        range = c.requires;
        play = subst (λ (h : List ℕ). IsPlay (rules_of g) h) (sym c.new.ensures) (IsPlay-nil (rules_of g));
        table = subst (λ (h : List ℕ). IsTable table (parts g.order g.cards h)) (sym c.new.ensures) (subst (IsTable table) (sym (parts-nil g.order g.cards)) first);
      };
      history = c.new.ensures;
    }
