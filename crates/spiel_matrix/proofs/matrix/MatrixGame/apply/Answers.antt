use Rattle.spiel_api.proofs.PlayLemmas.{IsPlay-more}
use Rattle.spiel_matrix.specs.Matrix.{matrix_rules}
use Rattle.spiel_matrix.proofs.Choosing.{stands}
use Rattle.spiel_matrix.proofs.matrix.MatrixGame.apply.Goals as goal

pub returns-clause-ok : goal.returns-clause-ok
returns-clause-ok c =
    let rules = matrix_rules c.args.self.now.parts in
    stands rules c.push.result _ _ (IsPlay-more rules _ _ c.requires.at c.requires.legal) c.push.ensures.ok
