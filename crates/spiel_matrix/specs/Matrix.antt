-- Matrix games: all players choose a strategy at once, and then each gets the pay of that contingency.
-- A history is the number of the strategy of each player, in player order.
use Rattle.std.specs.Prelude.{ℕ, ◌+◌, ◌*◌, pos, true, Bool, nat_lt, if◌then◌else◌, List, [], length, slice_index_or, codes}
use Rattle.std.specs.List.{range_with_len}
use Rattle.spiel_api.specs.declared.place.Place.{Place}
use Rattle.spiel_api.specs.declared.place.Place.TheVariants.{End, Joint}
use Rattle.spiel_api.specs.Rules.{Rules}
use Rattle.spiel_frac.specs.Fraction.{Fraction}
use Rattle.spiel_matrix.specs.declared.parts.MatrixParts.{MatrixParts}
use Rattle.spiel_matrix.specs.Contingencies.{contingency_at}
use Rattle.spiel_matrix.specs.Names.{strategy_name}
use Rattle.spiel_matrix.specs.Pays.{common_unit, in_parts, cap_of}

-- somebody has yet to choose
abbrev pub is_choosing : MatrixParts → List ℕ → Bool
is_choosing parts h = nat_lt (length h) (length parts.players)

-- the players choose in player order, and none knows the earlier choices
abbrev pub matrix_place : MatrixParts → List ℕ → Place
matrix_place parts h = if is_choosing parts h then Joint (length h) else End

-- the names of a player's strategies
abbrev pub strategies_of : MatrixParts → ℕ → List (List ℕ)
strategies_of parts p = slice_index_or parts.strategies p []

-- the strategies are counted from 0
abbrev pub matrix_legal : MatrixParts → List ℕ → ℕ → List ℕ
matrix_legal parts h p = if is_choosing parts h then range_with_len 0 (length (strategies_of parts p)) else []

abbrev pub matrix_name : MatrixParts → ℕ → ℕ → List ℕ
matrix_name parts p a = strategy_name (slice_index_or (strategies_of parts p) a []) a

-- the pays stand by contingency, and within one by player
abbrev pub pay_place : MatrixParts → List ℕ → ℕ → ℕ
pay_place parts h p = length parts.players * contingency_at parts.strategies h + p

abbrev pub pay_at : MatrixParts → List ℕ → ℕ → Fraction
pay_at parts h p = slice_index_or parts.pays (pay_place parts h p) (record { num = pos 0; den = 1 })

-- nobody knows anything before the choice, and there is no chance
abbrev pub matrix_rules : MatrixParts → Rules
matrix_rules parts = record {
  players = length parts.players;
  unit = common_unit parts.pays;
  cap = cap_of parts.pays;
  one_shot = true;
  place = matrix_place parts;
  legal = matrix_legal parts;
  weights = λ h. [];
  info = λ h p. codes "start";
  name = λ h p a. matrix_name parts p a;
  pay = λ h p. in_parts (common_unit parts.pays) (pay_at parts h p);
}
