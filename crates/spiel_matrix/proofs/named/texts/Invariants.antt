use Rattle.std.proofs.Common.{◌≡◌, map, take, List, ℕ}
use Rattle.std.specs.Borrow.{Bor}
use Rattle.spiel_matrix.proofs.named.texts.Given as goal

-- the names so far
abbrev pub invariant-loop-name : goal.invariant-loop-name
invariant-loop-name l = l.texts ≡ map (λ (name : Bor (List ℕ)). name.now) (take l.name-index l.names)
