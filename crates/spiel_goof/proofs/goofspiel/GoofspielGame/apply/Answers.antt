use Rattle.std.proofs.Common.{ℕ, List, sym, subst}
use Rattle.spiel_api.specs.Plays.{IsPlay}
use Rattle.spiel_api.proofs.PlayLemmas.{IsPlay-more}
use Rattle.spiel_goof.specs.Goofspiel.{parts}
use Rattle.spiel_goof.specs.Table.{IsTable}
use Rattle.spiel_goof.specs.GoofspielState.{rules_of}
use Rattle.spiel_goof.proofs.goofspiel.GoofspielGame.apply.Goals as goal

pub returns-clause-ok : goal.returns-clause-ok
returns-clause-ok c =
    let g = c.args.self.now in
    let pushed = c.in_ok-push.ensures.ok in
    record {
      sound = record {
        range = c.requires.at.range;
        play = subst (λ (h : List ℕ). IsPlay (rules_of g) h) (sym pushed) (IsPlay-more (rules_of g) c.args.state.now.history c.args.action c.requires.at.play c.requires.legal);
        table = subst (λ (h : List ℕ). IsTable c.after-table.result (parts g.order g.cards h)) (sym pushed) c.after-table.ensures;
      };
      history = pushed;
    }
