use Rattle.std.specs.Prelude.{◌≡◌, List, OnOk, ℕ}
use Rattle.std.specs.declared.result.Result.{Result}
use Rattle.std.specs.declared.result.Result.TheVariants.{Ok, Err}
use Rattle.std.proofs.Common.{sym, subst}
use Rattle.spiel_api.specs.Plays.{IsPlay}
use Rattle.spiel_api.specs.States.{StandsFor}
use Rattle.spiel_api.proofs.PlayLemmas.{IsPlay-more}
use Rattle.spiel_test_games.specs.Chain.{chain_rules}
use Rattle.spiel_test_games.proofs.chain.ChainGame.apply.Goals as goal

-- the longer history is a play
stands : {T E : Type 0} (r : Result T E) (new longer : List ℕ) → IsPlay chain_rules longer → OnOk r (new ≡ longer) → OnOk r (StandsFor (λ s. IsPlay chain_rules s) (λ s. s) new longer)
stands (Ok v) new longer play e = record { sound = subst (λ z. IsPlay chain_rules z) (sym e) play; history = e }
stands (Err v) new longer play e = tt

pub returns-clause-ok : goal.returns-clause-ok
returns-clause-ok c = stands c.push.result _ _ (IsPlay-more chain_rules _ _ c.requires.at c.requires.legal) c.push.ensures.ok
