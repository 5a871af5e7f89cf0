-- The information states of a player stand behind those of the players before.
use Rattle.std.proofs.Common.{◌≡◌, ℕ, zero, suc, ◌+◌, ◌-◌, ◌<◌, ◌≤◌, List, length, ap, sym, subst, ◌∙◌, arith}
use Rattle.spiel_tree.specs.Rows.{Row}
use Rattle.spiel_tree.specs.States.{InfoState, state_at, states_below}
use Rattle.spiel_tree.proofs.StateCounts.{state_split}
use Rattle.spiel_tree.proofs.StateNumbers.{one_player_more, state_there}

states_rise_by : (rows : List Row) (p n : ℕ) → length (states_below p rows) ≤ length (states_below (p + n) rows)
states_rise_by rows p zero = let same : p ≡ p + 0 = omega arith in let e = ap (λ (q : ℕ). length (states_below q rows)) same in omega arith
states_rise_by rows p (suc n) =
    let next : p + suc n ≡ suc (p + n) = omega arith in
    let e = ap (λ (q : ℕ). length (states_below q rows)) next in
    omega (arith, states_rise_by rows p n, one_player_more (p + n) rows, e)

pub states_rise : (rows : List Row) (p q : ℕ) → p ≤ q → length (states_below p rows) ≤ length (states_below q rows)
states_rise rows p q l =
    let end : p + (q - p) ≡ q = omega arith in
    let e = ap (λ (r : ℕ). length (states_below r rows)) end in
    omega (arith, states_rise_by rows p (q - p), e)

-- the player of a state
split_player : (players : ℕ) (rows : List Row) (s : ℕ) (l : s < length (states_below players rows)) → (state_at players rows s).player ≡ (state_split players rows s l).player
split_player players rows s l =
    let split = state_split players rows s l in
    ap (λ (state : InfoState). state.player) (ap (state_at players rows) split.is ∙ state_there players split.player split.number rows split.low split.within)

-- a state of a player below another stands before the other's
pub state_before : (players : ℕ) (rows : List Row) (p s : ℕ) → s < length (states_below players rows) → (state_at players rows s).player < p → s < length (states_below p rows)
state_before players rows p s l m =
    let split = state_split players rows s l in
    omega (arith, split.is, split.within, one_player_more split.player rows, states_rise rows (suc split.player) p (omega (arith, m, split_player players rows s l)))

-- one of another player from this one on stands behind
pub state_behind : (players : ℕ) (rows : List Row) (p s : ℕ) → s < length (states_below players rows) → p ≤ (state_at players rows s).player → length (states_below p rows) ≤ s
state_behind players rows p s l m =
    let split = state_split players rows s l in
    omega (arith, split.is, states_rise rows p split.player (omega (arith, m, split_player players rows s l)))

-- the states of the player of a state
pub record IsStateOf (players : ℕ) (rows : List Row) (s : ℕ) : Type 0 where
  pub low : (state_at players rows s).player < players
  pub from : length (states_below (state_at players rows s).player rows) ≤ s
  pub to : s < length (states_below (suc (state_at players rows s).player) rows)

pub state_of_player : (players : ℕ) (rows : List Row) (s : ℕ) → s < length (states_below players rows) → IsStateOf players rows s
state_of_player players rows s l =
    let split = state_split players rows s l in
    let same = split_player players rows s l in
    record {
      low = omega (arith, split.low, same);
      from = subst (λ (p : ℕ). length (states_below p rows) ≤ s) (sym same) (omega (arith, split.is));
      to = subst (λ (p : ℕ). s < length (states_below (suc p) rows)) (sym same) (omega (arith, split.is, split.within, one_player_more split.player rows));
    }
