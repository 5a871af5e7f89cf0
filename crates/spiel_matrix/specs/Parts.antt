-- Which parts make a game, and what is wrong with those that don't.
use Rattle.std.specs.Prelude.{◌≡◌, ℕ, ◌*◌, Bool, ◌&&◌, ◌==◌, nat_le, nat_lt, if◌then◌else◌, List, length, Option, Some, None, ⊤}
use Rattle.std.specs.List.{list_all}
use Rattle.spiel_matrix.specs.declared.parts.MatrixParts.{MatrixParts}
use Rattle.spiel_matrix.specs.declared.fault.MatrixFault.{MatrixFault}
use Rattle.spiel_matrix.specs.declared.fault.MatrixFault.TheVariants.{Shape, PayTooFine, NoMemory}
use Rattle.spiel_matrix.specs.Contingencies.{contingencies}
use Rattle.spiel_matrix.specs.Pays.{are_fine}

-- how many pays a table may have
abbrev pub most_pays : ℕ
most_pays = 4194304

-- each player has a strategy
abbrev pub are_filled : List (List (List ℕ)) → Bool
are_filled strategies = list_all (λ own. nat_lt 0 (length own)) strategies

-- so many pays: one for each contingency and each player, and not too many
abbrev pub is_pay_count : ℕ → ℕ → Bool
is_pay_count wanted count = nat_le wanted most_pays && (count == wanted)

-- 1 to 64 players, each with a list of strategies, and the pays of all contingencies
abbrev pub has_shape : MatrixParts → Bool
has_shape parts =
    nat_le 1 (length parts.players) && (nat_le (length parts.players) 64 && ((length parts.strategies == length parts.players)
    && (are_filled parts.strategies && is_pay_count (length parts.players * contingencies parts.strategies) (length parts.pays))))

-- the parts are those of a game
abbrev pub is_matrix : MatrixParts → Bool
is_matrix parts = has_shape parts && are_fine parts.pays

-- what is wrong with parts, if they are those of no game: a wrong shape comes before pays that are too fine
abbrev pub matrix_fault : MatrixParts → Option MatrixFault
matrix_fault parts = if has_shape parts then (if are_fine parts.pays then None else Some PayTooFine) else Some Shape

-- the fault is what is wrong with the parts, unless memory ran out
abbrev pub IsMatrixFault : MatrixParts → MatrixFault → Type 0
IsMatrixFault parts Shape = matrix_fault parts ≡ Some Shape
IsMatrixFault parts PayTooFine = matrix_fault parts ≡ Some PayTooFine
IsMatrixFault parts NoMemory = ⊤
