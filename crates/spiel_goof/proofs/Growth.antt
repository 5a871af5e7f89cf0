-- The table and the parts of a play, one number more.
use Rattle.std.proofs.Common.{◌≡◌, ℕ, ◌+◌, ◌<◌, ◌≤◌, List, [], ◌∷◌, ◌++◌, length, map, ap, sym, subst, ◌∙◌, arith}
use Rattle.std.specs.Prelude.{slice_get}
use Rattle.std.specs.List.{All}
use Rattle.std.proofs.lemmas.List.{map-append}
use Rattle.std.proofs.lemmas.List.Elements.{All-weaker}
use Rattle.std.proofs.lemmas.List.Sums.{sum_by-append}
use Rattle.spiel_goof.specs.declared.turns.Turn.{Turn}
use Rattle.spiel_goof.specs.declared.turns.Stage.{Stage}
use Rattle.spiel_goof.specs.declared.turns.Stage.TheVariants.{Between, Shown, Bid}
use Rattle.spiel_goof.specs.declared.table.Seat.{Seat}
use Rattle.spiel_goof.specs.declared.goofspiel.PointOrder.{PointOrder}
use Rattle.spiel_goof.specs.declared.goofspiel.Goofspiel.{Goofspiel}
use Rattle.spiel_goof.specs.declared.goofspiel.GoofspielState.{GoofspielState}
use Rattle.spiel_goof.specs.Cards.{AreLeft}
use Rattle.spiel_goof.specs.Goofspiel.{given_points, parts, bid_of, gain_of, points_of}
use Rattle.spiel_goof.specs.Turns.{begun, told_by, parts-push}
use Rattle.spiel_goof.specs.GoofspielPlays.{IsSound, IsTurnOf, IsStageOf, lying, length-come, sound_play}
use Rattle.spiel_goof.specs.GoofspielLaws.{points_small}
use Rattle.spiel_goof.specs.Table.{IsSeat}
use Rattle.spiel_goof.specs.GoofspielState.{IsGoofspielAt, parts_of}

-- what a player has after one turn more
pub seat_grows : (before after : Seat) (p : ℕ) (turns : List Turn) (turn : Turn) (gain : ℕ) → IsSeat before p turns → AreLeft after.hand (map (bid_of p) turns ++ bid_of p turn ∷ []) → gain ≡ gain_of p turn → after.points ≡ before.points + gain → IsSeat after p (turns ++ turn ∷ [])
seat_grows before after p turns turn gain shows hand e points = record {
  hand = subst (AreLeft after.hand) (sym (map-append (bid_of p) turns (turn ∷ []))) hand;
  points = omega (arith, points, e, shows.points, sum_by-append (gain_of p) turns (turn ∷ []));
}

-- the parts of a play after a draw, after the bid of player 0, and after a turn
pub parts_drawn : (order : PointOrder) (n : ℕ) (h : List ℕ) (a : ℕ) → (parts order n h).stage ≡ Between → parts order n (h ++ a ∷ []) ≡ record { turns = (parts order n h).turns; stage = Shown a }
parts_drawn order n h a e = parts-push order n h a ∙ ap (λ (stage : Stage). told_by (given_points order n) (parts order n h).turns stage a) e

pub parts_first : (order : PointOrder) (n : ℕ) (h : List ℕ) (a point : ℕ) → (parts order n h).stage ≡ Shown point → parts order n (h ++ a ∷ []) ≡ record { turns = (parts order n h).turns; stage = Bid point a }
parts_first order n h a point e = parts-push order n h a ∙ ap (λ (stage : Stage). told_by (given_points order n) (parts order n h).turns stage a) e

pub parts_second : (order : PointOrder) (n : ℕ) (h : List ℕ) (a point first : ℕ) → (parts order n h).stage ≡ Bid point first
    → parts order n (h ++ a ∷ []) ≡ record { turns = (parts order n h).turns ++ (record { point = point; first = first; second = a }) ∷ []; stage = begun (slice_get (given_points order n) (length (parts order n h).turns + 1)) }
parts_second order n h a point first e = parts-push order n h a ∙ ap (λ (stage : Stage). told_by (given_points order n) (parts order n h).turns stage a) e

-- what is so of the play of a state
pub state_sound : (g : Goofspiel) (state : GoofspielState) → IsGoofspielAt g state → IsSound g.cards (given_points g.order g.cards) (parts_of g state)
state_sound g state at = sound_play g.cards g.order g.returns g.hidden state.history at.play

-- where both bids of a turn aren't made, there is room for it
pub state_room : (g : Goofspiel) (state : GoofspielState) (point first : ℕ) → IsGoofspielAt g state → (parts_of g state).stage ≡ Bid point first → length (parts_of g state).turns < 20
state_room g state point first at e =
    omega (arith, (state_sound g state at).few, length-come (parts_of g state), ap (λ (stage : Stage). length (lying stage)) e, at.range.high)

pub state_cards : (g : Goofspiel) (state : GoofspielState) (point first : ℕ) → IsGoofspielAt g state → (parts_of g state).stage ≡ Bid point first → (point < g.cards) × (first < g.cards)
state_cards g state point first at e = subst (IsStageOf g.cards) e (state_sound g state at).stage

pub state_points : (g : Goofspiel) (state : GoofspielState) → IsGoofspielAt g state → points_of 0 (parts_of g state).turns + points_of 1 (parts_of g state).turns ≤ 210
state_points g state at = points_small g.cards g.order g.returns g.hidden at.range state.history at.play

-- cards of n are cards of 20
pub wide_turn : (n : ℕ) (turn : Turn) → n ≤ 20 → IsTurnOf n turn → IsTurnOf 20 turn
wide_turn n turn few cards = record { point = omega (arith, cards.point); first = omega (arith, cards.first); second = omega (arith, cards.second) }

pub wide_turns : (n : ℕ) (turns : List Turn) → n ≤ 20 → All (IsTurnOf n) turns → All (IsTurnOf 20) turns
wide_turns n turns few all = All-weaker (IsTurnOf n) (IsTurnOf 20) (λ turn cards. wide_turn n turn few cards) turns all

pub wide_stage : (n : ℕ) (stage : Stage) → n ≤ 20 → IsStageOf n stage → IsStageOf 20 stage
wide_stage n Between few cards = tt
wide_stage n (Shown point) few cards = omega arith
wide_stage n (Bid point first) few cards = let c : point < n = cards.0 in let d : first < n = cards.1 in (omega arith, omega arith)
