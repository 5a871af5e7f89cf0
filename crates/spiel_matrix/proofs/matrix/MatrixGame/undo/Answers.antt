use Rattle.spiel_api.proofs.PlayLemmas.{IsPlay-back}
use Rattle.spiel_matrix.specs.Matrix.{matrix_rules}
use Rattle.spiel_matrix.proofs.matrix.MatrixGame.undo.Goals as goal

pub returns : goal.returns
returns c h a e =
    let left = (c.pop.ensures.last h a e).0 in
    record { sound = IsPlay-back (matrix_rules c.args.self.now.parts) _ _ h a c.requires.at e left; history = left }
