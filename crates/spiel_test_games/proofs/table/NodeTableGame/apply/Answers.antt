use Rattle.std.specs.Prelude.{◌≡◌, List, OnOk, ℕ}
use Rattle.std.specs.declared.result.Result.{Result}
use Rattle.std.specs.declared.result.Result.TheVariants.{Ok, Err}
use Rattle.std.proofs.Common.{sym, subst}
use Rattle.spiel_api.specs.Rules.{Rules}
use Rattle.spiel_api.specs.Plays.{IsPlay}
use Rattle.spiel_api.specs.States.{StandsFor}
use Rattle.spiel_api.proofs.PlayLemmas.{IsPlay-more}
use Rattle.spiel_test_games.specs.Table.{table_rules}
use Rattle.spiel_test_games.proofs.table.NodeTableGame.apply.Goals as goal

-- the longer history is a play
stands : {T E : Type 0} (rules : Rules) (r : Result T E) (new longer : List ℕ) → IsPlay rules longer → OnOk r (new ≡ longer) → OnOk r (StandsFor (λ s. IsPlay rules s) (λ s. s) new longer)
stands rules (Ok v) new longer play e = record { sound = subst (λ z. IsPlay rules z) (sym e) play; history = e }
stands rules (Err v) new longer play e = tt

pub returns-clause-ok : goal.returns-clause-ok
returns-clause-ok c =
    let game = c.args.self.now in
    let rules = table_rules game.players game.unit game.nodes.now in
    stands rules c.push.result _ _ (IsPlay-more rules _ _ c.requires.at c.requires.legal) c.push.ensures.ok
