-- What entries gave to the information states of a tree.
use Rattle.std.specs.Prelude.{◌≡◌, ℕ, ◌<◌, length, IfSome}
use Rattle.spiel_tree.specs.States.{numbers_of, states_below}
use Rattle.spiel_tree.specs.Trees.{Whole}
use Rattle.spiel_policy.specs.Reading.{Partial, weights_given}

-- the weights are for the numbers of the tree's information states
pub record IsFor (tree : Whole) (given : Partial) : Type 0 where
  pub states : length given ≡ length (states_below tree.players tree.rows)
  pub numbers : (s : ℕ) → s < length given → IfSome (weights_given given s) (λ weights. length weights ≡ length (numbers_of tree.players tree.rows s))
