-- The matrix games that have names.
use Rattle.std.specs.Prelude.{ℕ, ℤ, pos, negsuc, List, [], ◌∷◌, map, codes}
use Rattle.spiel_frac.specs.Fraction.{Fraction}
use Rattle.spiel_matrix.specs.declared.parts.MatrixParts.{MatrixParts}
use Rattle.spiel_matrix.specs.declared.named.Kind.{Kind}
use Rattle.spiel_matrix.specs.declared.named.Kind.TheVariants.{Pennies, Rps, Dilemma, Sexes}

-- a whole number as a fraction
abbrev pub whole : ℤ → Fraction
whole number = record { num = number; den = 1 }

-- the table of two players, 1 and 2, who have the same strategies
abbrev pub two_player_parts : List (List ℕ) → List ℤ → MatrixParts
two_player_parts strategies pays = record {
  title = [];
  players = codes "1" ∷ codes "2" ∷ [];
  comment = [];
  strategies = strategies ∷ strategies ∷ [];
  pays = map whole pays;
}

-- the pays of both: a line for each strategy of player 1, and in it a pair for each strategy of player 0
abbrev pub named_parts : Kind → MatrixParts
-- matching pennies: player 0 wants the same side, and player 1 another
named_parts Pennies = two_player_parts (codes "Heads" ∷ codes "Tails" ∷ []) (
    pos 1 ∷ negsuc 0 ∷ negsuc 0 ∷ pos 1
    ∷ negsuc 0 ∷ pos 1 ∷ pos 1 ∷ negsuc 0 ∷ [])
-- rock, paper, scissors: each wins against the one before it, and rock against scissors
named_parts Rps = two_player_parts (codes "Rock" ∷ codes "Paper" ∷ codes "Scissors" ∷ []) (
    pos 0 ∷ pos 0 ∷ pos 1 ∷ negsuc 0 ∷ negsuc 0 ∷ pos 1
    ∷ negsuc 0 ∷ pos 1 ∷ pos 0 ∷ pos 0 ∷ pos 1 ∷ negsuc 0
    ∷ pos 1 ∷ negsuc 0 ∷ negsuc 0 ∷ pos 1 ∷ pos 0 ∷ pos 0 ∷ [])
-- the prisoner's dilemma
named_parts Dilemma = two_player_parts (codes "Cooperate" ∷ codes "Defect" ∷ []) (
    pos 5 ∷ pos 5 ∷ pos 10 ∷ pos 0
    ∷ pos 0 ∷ pos 10 ∷ pos 1 ∷ pos 1 ∷ [])
-- the battle of the sexes
named_parts Sexes = two_player_parts (codes "Ballet" ∷ codes "Fight" ∷ []) (
    pos 3 ∷ pos 2 ∷ pos 0 ∷ pos 0
    ∷ pos 0 ∷ pos 0 ∷ pos 2 ∷ pos 3 ∷ [])
