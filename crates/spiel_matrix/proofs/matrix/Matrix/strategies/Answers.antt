use Rattle.std.proofs.Common.{◌≡◌, ap, ◌∙◌, List, ℕ, arith, length}
use Rattle.std.specs.Prelude.{slice_index_or}
use Rattle.spiel_matrix.proofs.Choosing.{few_strategies}
use Rattle.spiel_matrix.proofs.matrix.Matrix.strategies.Goals as goal

pub returns-clause-few : goal.returns-clause-few
returns-clause-few c =
    let game = c.args.self.now in
    let own = c.index-items-player.result in
    let at : own ≡ slice_index_or game.parts.strategies c.args.player own =
    c.index-items-player.is ∙ ap (λ (xs : List (List (List ℕ))). slice_index_or xs c.args.player own) c.items.ensures in
    omega (arith, few_strategies game.parts c.args.player own game.sound c.requires at, ap (λ (xs : List (List ℕ)). length xs) c.items-2.ensures)
