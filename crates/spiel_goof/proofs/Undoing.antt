-- The table and the parts of a play, one number less.
use Rattle.std.proofs.Common.{◌≡◌, ℕ, ◌+◌, ◌-◌, ◌<◌, ◌≤◌, List, [], ◌∷◌, ◌++◌, length, take, Option, None, Some, ◌==◌, refl, ap, ap₂, sym, subst, ◌∙◌, arith, length-append}
use Rattle.std.specs.Prelude.{slice_get, slice_index}
use Rattle.std.specs.List.{All, Contains}
use Rattle.std.proofs.lemmas.Bool.{eq-eqb}
use Rattle.std.proofs.lemmas.List.{length-reverse, take_all, take_more}
use Rattle.spiel_api.specs.declared.place.Place.{Place}
use Rattle.spiel_api.specs.declared.place.Place.TheVariants.{End}
use Rattle.spiel_api.specs.Rules.{next_at}
use Rattle.spiel_api.specs.Plays.{IsPlay}
use Rattle.spiel_api.specs.Deck.{numbers_below}
use Rattle.spiel_api.specs.States.{StandsFor}
use Rattle.spiel_api.proofs.CardsLeft.{length-numbers_below}
use Rattle.spiel_api.proofs.PlayLemmas.{IsPlay-back, IsPlay-last}
use Rattle.spiel_goof.specs.declared.turns.Turn.{Turn}
use Rattle.spiel_goof.specs.declared.turns.Stage.{Stage}
use Rattle.spiel_goof.specs.declared.turns.Stage.TheVariants.{Between, Shown, Bid}
use Rattle.spiel_goof.specs.declared.table.Table.{Table}
use Rattle.spiel_goof.specs.declared.goofspiel.PointOrder.{PointOrder}
use Rattle.spiel_goof.specs.declared.goofspiel.PointOrder.TheVariants.{Random, Ascending, Descending}
use Rattle.spiel_goof.specs.declared.goofspiel.Goofspiel.{Goofspiel}
use Rattle.spiel_goof.specs.declared.goofspiel.GoofspielState.{GoofspielState}
use Rattle.spiel_goof.specs.Goofspiel.{given_points, Parts, parts, place_by, place_at, legal_at}
use Rattle.spiel_goof.specs.Turns.{begun, told_by, parts-push}
use Rattle.spiel_goof.specs.GoofspielPlays.{IsSound, IsTurnOf, length-come, sound_play}
use Rattle.spiel_goof.specs.Table.{IsTable, shown}
use Rattle.spiel_goof.specs.GoofspielState.{IsGoofspielAt, parts_of, rules_of}
use Rattle.spiel_goof.proofs.Growth.{state_sound, wide_turns}

-- a turn begins with no bid
begun_no_bid : (next : Option ℕ) (point first : ℕ) → begun next ≡ Bid point first → ⊥
begun_no_bid None point first e = cc
begun_no_bid (Some card) point first e = cc

-- before the bid of player 0 the point card lay
before_bid : (points : List ℕ) (turns : List Turn) (stage : Stage) (a point first : ℕ) → (told_by points turns stage a).stage ≡ Bid point first → ◌≡◌ {A = Parts} (record { turns = (told_by points turns stage a).turns; stage = Shown point }) (record { turns = turns; stage = stage })
before_bid points turns Between a point first e = absurd cc
before_bid points turns (Shown card) a point first e = let same : point ≡ card = cc in ap (λ (c : ℕ). let x : Parts = record { turns = turns; stage = Shown c } in x) same
before_bid points turns (Bid card bid) a point first e = absurd (begun_no_bid (slice_get points (length turns + 1)) point first e)

-- before a draw nothing lay
before_draw : (turns : List Turn) (stage : Stage) (a point : ℕ) → (told_by [] turns stage a).stage ≡ Shown point → ◌≡◌ {A = Parts} (record { turns = (told_by [] turns stage a).turns; stage = Between }) (record { turns = turns; stage = stage })
before_draw turns Between a point e = refl
before_draw turns (Shown card) a point e = absurd cc
before_draw turns (Bid card bid) a point e = absurd cc

-- what lay before the last number completed a turn
pub record IsBidding (stage : Stage) : Type 0 where
  pub point : ℕ
  pub first : ℕ
  pub lay : stage ≡ Bid point first

before_turn : (points : List ℕ) (turns : List Turn) (stage : Stage) (a : ℕ) → (stage ≡ Between → ⊥) → ((point first : ℕ) → (told_by points turns stage a).stage ≡ Bid point first → ⊥) → IsBidding stage
before_turn points turns Between a lain other = absurd (lain refl)
before_turn points turns (Shown card) a lain other = absurd (other card a refl)
before_turn points turns (Bid card bid) a lain other = record { point = card; first = bid; lay = refl }

-- given point cards leave nothing to draw
some_given : (order : PointOrder) (n : ℕ) → 1 ≤ n → (order ≡ Random → ⊥) → 1 ≤ length (given_points order n)
some_given Random n l other = absurd (other refl)
some_given Ascending n l other = omega (arith, length-numbers_below n)
some_given Descending n l other = omega (arith, length-reverse (numbers_below n), length-numbers_below n)

none_drawn : (n : ℕ) (points : List ℕ) (x : Parts) (a : ℕ) → 1 ≤ length points → IsSound n points x → Contains (next_at (place_at n x) (legal_at n x)) a → x.stage ≡ Between → ⊥
none_drawn n [] x a l sound c e = absurd (omega arith)
none_drawn n (card ∷ points) x a l sound c e =
    let many : n ≤ length x.turns = sound.rest.over e in
    let full : length x.turns ≡ n = omega (arith, many, sound.few, length-come x) in
    let over : place_at n x ≡ End = ap (λ (stage : Stage). place_by stage (length x.turns == n)) e ∙ ap (place_by Between) (eq-eqb (length x.turns) n full) in
    let none = subst (λ (place : Place). Contains (next_at place (legal_at n x)) a) over c in
    absurd (omega (arith, none.1))

-- the same table with another stage
with_stage : (table : Table) (x : Parts) (stage : Stage) → IsTable table x → IsTable (record table { stage = stage }) (record x { stage = stage })
with_stage table x stage shows = record {
  stage = refl;
  size = shows.size;
  count = shows.count;
  turns = shows.turns;
  deck = shows.deck;
  first = shows.first;
  second = shows.second;
}

pub shows_own : (table : Table) (x : Parts) → IsTable table x → IsTable table (shown table)
shows_own table x shows = subst (IsTable table) (ap₂ (λ (turns : List Turn) (stage : Stage). let x : Parts = record { turns = turns; stage = stage } in x) (sym shows.turns) (sym shows.stage)) shows

-- a history that isn't empty has a last number
pub last_split : (h : List ℕ) → 0 < length h → h ≡ take (length h - 1) h ++ slice_index h (length h - 1) ∷ []
last_split h l =
    let all : length h - 1 + 1 ≡ length h = omega arith in
    sym (take_all (length h - 1 + 1) h (omega arith)) ∙ take_more h (length h - 1) 0 (omega arith)

module _ (g : Goofspiel) (state : GoofspielState) (h : List ℕ) (a : ℕ) (at : IsGoofspielAt g state) (e : state.history ≡ h ++ a ∷ []) where
  now_told : parts_of g state ≡ told_by (given_points g.order g.cards) (parts g.order g.cards h).turns (parts g.order g.cards h).stage a
  now_told = ap (parts g.order g.cards) e ∙ parts-push g.order g.cards h a

  now_stage : (told_by (given_points g.order g.cards) (parts g.order g.cards h).turns (parts g.order g.cards h).stage a).stage ≡ state.table.stage
  now_stage = ap (λ (x : Parts). x.stage) (sym now_told) ∙ sym at.table.stage

  -- a bid of player 0 taken back
  pub bid_back : (point first : ℕ) → state.table.stage ≡ Bid point first → IsTable (record state.table { stage = Shown point }) (parts g.order g.cards h)
  bid_back point first lies =
      let y = parts g.order g.cards h in
      let points = given_points g.order g.cards in
      subst (IsTable (record state.table { stage = Shown point })) (before_bid points y.turns y.stage a point first (now_stage ∙ lies))
      (with_stage state.table (told_by points y.turns y.stage a) (Shown point) (subst (IsTable state.table) now_told at.table))

  -- a draw taken back
  pub draw_back : (point : ℕ) → g.order ≡ Random → state.table.stage ≡ Shown point → IsTable (record state.table { stage = Between }) (parts g.order g.cards h)
  draw_back point random lies =
      let y = parts g.order g.cards h in
      let none : given_points g.order g.cards ≡ [] = ap (λ (order : PointOrder). given_points order g.cards) random in
      let now : parts_of g state ≡ told_by [] y.turns y.stage a = now_told ∙ ap (λ (points : List ℕ). told_by points y.turns y.stage a) none in
      subst (IsTable (record state.table { stage = Between })) (before_draw y.turns y.stage a point (ap (λ (x : Parts). x.stage) (sym now) ∙ sym at.table.stage ∙ lies))
      (with_stage state.table (told_by [] y.turns y.stage a) Between (subst (IsTable state.table) now at.table))

  -- where nothing was drawn, the last number completed a turn
  pub shown_turn : (point : ℕ) → (g.order ≡ Random → ⊥) → state.table.stage ≡ Shown point → IsBidding (parts g.order g.cards h).stage
  shown_turn point other lies =
      let y = parts g.order g.cards h in
      let points = given_points g.order g.cards in
      let sound = sound_play g.cards g.order g.returns g.hidden h (IsPlay-back (rules_of g) state.history h h a at.play e refl) in
      let next = IsPlay-last (rules_of g) h a (subst (IsPlay (rules_of g)) e at.play) in
      before_turn points y.turns y.stage a (none_drawn g.cards points y a (some_given g.order g.cards at.range.low other) sound next) (λ p f is. let is_no : Shown point ≡ Bid p f = sym (now_stage ∙ lies) ∙ is in cc)

  pub between_turn : state.table.stage ≡ Between → IsBidding (parts g.order g.cards h).stage
  between_turn lies =
      let y = parts g.order g.cards h in
      let points = given_points g.order g.cards in
      before_turn points y.turns y.stage a
      (λ none. let is_no : Between ≡ Shown a = sym (now_stage ∙ lies) ∙ ap (λ (stage : Stage). (told_by points y.turns stage a).stage) none in cc)
      (λ p f is. let is_no : Between ≡ Bid p f = sym (now_stage ∙ lies) ∙ is in cc)

  turns_now : (b : IsBidding (parts g.order g.cards h).stage) → (parts_of g state).turns ≡ (parts g.order g.cards h).turns ++ (record { point = b.point; first = b.first; second = a }) ∷ []
  turns_now b =
      let y = parts g.order g.cards h in
      ap (λ (x : Parts). x.turns) (now_told ∙ ap (λ (stage : Stage). told_by (given_points g.order g.cards) y.turns stage a) b.lay)

  pub some_turn : IsBidding (parts g.order g.cards h).stage → 0 < state.table.count
  some_turn b =
      let y = parts g.order g.cards h in
      omega (arith, at.table.count, ap length (turns_now b), length-append y.turns ((record { point = b.point; first = b.first; second = a }) ∷ []))

  -- a turn taken back
  pub turn_back : IsBidding (parts g.order g.cards h).stage → (new : Table) → ((turns : List Turn) (turn : Turn) → (shown state.table).turns ≡ turns ++ turn ∷ [] → IsTable new (record { turns = turns; stage = Bid turn.point turn.first })) → IsTable new (parts g.order g.cards h)
  turn_back b new gives =
      let y = parts g.order g.cards h in
      subst (λ (stage : Stage). IsTable new (record { turns = y.turns; stage = stage })) (sym b.lay) (gives y.turns (record { point = b.point; first = b.first; second = a }) (at.table.turns ∙ turns_now b))

  -- a state with that table stands for what is left
  pub goes_back : (new : GoofspielState) → new.history ≡ h → IsTable new.table (parts g.order g.cards h) → StandsFor (IsGoofspielAt g) (λ (s : GoofspielState). s.history) new h
  goes_back new left shows = record {
    sound = record {
      range = at.range;
      play = IsPlay-back (rules_of g) state.history new.history h a at.play e left;
      table = subst (λ (i : List ℕ). IsTable new.table (parts g.order g.cards i)) (sym left) shows;
    };
    history = left;
  }

-- the turns of a table are made of cards
pub cards_shown : (g : Goofspiel) (state : GoofspielState) → IsGoofspielAt g state → All (IsTurnOf 20) (shown state.table).turns
cards_shown g state at =
    subst (λ (turns : List Turn). All (IsTurnOf 20) turns) (sym at.table.turns) (wide_turns g.cards (parts_of g state).turns at.range.high (state_sound g state at).turns)
