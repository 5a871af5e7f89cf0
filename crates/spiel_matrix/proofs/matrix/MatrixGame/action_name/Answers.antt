use Rattle.std.proofs.Common.{◌≡◌, ap, subst, ◌∙◌, length, arith, List, [], ℕ}
use Rattle.std.specs.Prelude.{slice_index_or}
use Rattle.std.proofs.lemmas.List.{get_or_default}
use Rattle.spiel_frac.specs.Adding.{Adds}
use Rattle.spiel_matrix.specs.Matrix.{strategies_of}
use Rattle.spiel_matrix.specs.MatrixPlays.{legal_below}
use Rattle.spiel_matrix.specs.Names.{strategy_name}
use Rattle.spiel_matrix.proofs.matrix.MatrixGame.action_name.Goals as goal

pub bounds-strategies-action : goal.bounds-strategies-action
bounds-strategies-action c =
    let below = legal_below c.args.self.now.parts c.args._state.now c.args.player c.args.action c.requires.legal in
    omega (arith, below, ap (λ (xs : List (List ℕ)). length xs) c.strategies.ensures.names)

pub push_strategy-requires : goal.push_strategy-requires
push_strategy-requires c =
    let below = legal_below c.args.self.now.parts c.args._state.now c.args.player c.args.action c.requires.legal in
    omega (arith, below, c.strategies.ensures.few, ap (λ (xs : List (List ℕ)). length xs) c.strategies.ensures.names)

pub returns : goal.returns
returns c =
    let own = strategies_of c.args.self.now.parts c.args.player in
    let action = c.args.action in
    let text = c.index-strategies-action.result in
    let same : c.bytes.result.now ≡ slice_index_or own action [] =
    c.bytes.ensures ∙ c.index-strategies-action.is ∙ ap (λ (xs : List (List ℕ)). slice_index_or xs action text) c.strategies.ensures.names
    ∙ get_or_default own action text [] (legal_below c.args.self.now.parts c.args._state.now c.args.player action c.requires.legal) in
    subst (λ (name : List ℕ). Adds c.push_strategy.result c.args.out.now c.push_strategy.new.out (strategy_name name action)) same c.push_strategy.ensures
