-- Parts that make a game, and what its plays are made of.
use Rattle.std.proofs.Common.{◌≡◌, ℕ, zero, suc, ◌*◌, ◌^◌, ◌<◌, ◌≤◌, Bool, true, false, ◌&&◌, List, [], ◌∷◌, ◌++◌, length, refl, sym, subst, arith, nat_le, nat_lt, if◌then◌else◌, ◌==◌}
use Rattle.std.specs.Prelude.{slice_index_or}
use Rattle.std.specs.List.{Contains, range_with_len}
use Rattle.std.proofs.lemmas.Bool.{and_parts, leb-true, ltb-true, ltb-false, eqb-true}
use Rattle.std.proofs.lemmas.List.{append-nil}
use Rattle.std.proofs.Math.Nat.{mul-le-mul_left, mul-one, mul-suc, mul-pos}
use Rattle.std.proofs.Math.Seq.{append_snoc}
use Rattle.spiel_api.specs.declared.place.Place.{Place}
use Rattle.spiel_api.specs.declared.place.Place.TheVariants.{End, Joint}
use Rattle.spiel_api.specs.Rules.{next_at, next_of}
use Rattle.spiel_api.specs.Plays.{Follows, IsPlay}
use Rattle.spiel_api.proofs.NodeLaws.{range_within}
use Rattle.spiel_matrix.specs.declared.parts.MatrixParts.{MatrixParts}
use Rattle.spiel_matrix.specs.Contingencies.{contingencies, contingency_at}
use Rattle.spiel_matrix.specs.Pays.{are_fine, are_small, common_unit}
use Rattle.spiel_matrix.specs.Parts.{are_filled, has_shape, is_matrix, is_pay_count, most_pays}
use Rattle.spiel_matrix.specs.Matrix.{is_choosing, matrix_legal, matrix_place, matrix_rules, pay_place, strategies_of}

-- ---- what the tests tell
pub record HasShape (parts : MatrixParts) : Type 0 where
  pub players_low : 1 ≤ length parts.players
  pub players_high : length parts.players ≤ 64
  pub lists : length parts.strategies ≡ length parts.players
  pub filled : are_filled parts.strategies ≡ true
  pub few : length parts.players * contingencies parts.strategies ≤ most_pays
  pub pays : length parts.pays ≡ length parts.players * contingencies parts.strategies

pub shape_from : (parts : MatrixParts) → has_shape parts ≡ true → HasShape parts
shape_from parts e =
    let players : ℕ = length parts.players in
    let wanted : ℕ = players * contingencies parts.strategies in
    let four : Bool = is_pay_count wanted (length parts.pays) in
    let three : Bool = are_filled parts.strategies && four in
    let two : Bool = (length parts.strategies == players) && three in
    let a = and_parts (nat_le 1 players) (nat_le players 64 && two) e in
    let b = and_parts (nat_le players 64) two a.1 in
    let c = and_parts (length parts.strategies == players) three b.1 in
    let d = and_parts (are_filled parts.strategies) four c.1 in
    let f = and_parts (nat_le wanted most_pays) (length parts.pays == wanted) d.1 in
    record {
      players_low = leb-true 1 players a.0;
      players_high = leb-true players 64 b.0;
      lists = eqb-true (length parts.strategies) players c.0;
      filled = d.0;
      few = leb-true wanted most_pays f.0;
      pays = eqb-true (length parts.pays) wanted f.1;
    }

pub record IsMatrix (parts : MatrixParts) : Type 0 where
  pub shape : HasShape parts
  pub unit_high : common_unit parts.pays ≤ 2 ^ 62
  pub small : are_small (common_unit parts.pays) parts.pays ≡ true

pub matrix_from : (parts : MatrixParts) → is_matrix parts ≡ true → IsMatrix parts
matrix_from parts e =
    let unit : ℕ = common_unit parts.pays in
    let a = and_parts (has_shape parts) (are_fine parts.pays) e in
    let b = and_parts (nat_le unit (2 ^ 62)) (are_small unit parts.pays) a.1 in
    record { shape = shape_from parts a.0; unit_high = leb-true unit (2 ^ 62) b.0; small = b.1 }

-- ---- how many strategies and contingencies there are
-- each player has a strategy
pub count_low : (strategies : List (List (List ℕ))) (p : ℕ) → are_filled strategies ≡ true → p < length strategies → 0 < length (slice_index_or strategies p [])
count_low [] p e l = absurd (omega arith)
count_low (own ∷ others) zero e l = ltb-true 0 (length own) (and_parts (nat_lt 0 (length own)) (are_filled others) e).0
count_low (own ∷ others) (suc p) e l = count_low others p (and_parts (nat_lt 0 (length own)) (are_filled others) e).1 (omega arith)

pub contingencies_low : (strategies : List (List (List ℕ))) → are_filled strategies ≡ true → 0 < contingencies strategies
contingencies_low [] e = omega arith
contingencies_low (own ∷ others) e =
    let two = and_parts (nat_lt 0 (length own)) (are_filled others) e in
    mul-pos (ltb-true 0 (length own) two.0) (contingencies_low others two.1)

-- no player has more strategies than there are contingencies
pub count_high : (strategies : List (List (List ℕ))) (p : ℕ) → are_filled strategies ≡ true → length (slice_index_or strategies p []) ≤ contingencies strategies
count_high [] p e = omega arith
count_high (own ∷ others) zero e =
    let two = and_parts (nat_lt 0 (length own)) (are_filled others) e in
    let some : 1 ≤ contingencies others = omega (arith, contingencies_low others two.1) in
    let more : length own * 1 ≤ length own * contingencies others = mul-le-mul_left (length own) some in
    omega (arith, more, mul-one (length own))
count_high (own ∷ others) (suc p) e =
    let two = and_parts (nat_lt 0 (length own)) (are_filled others) e in
    let some : 1 ≤ length own = omega (arith, ltb-true 0 (length own) two.0) in
    let later = count_high others p two.1 in
    let more : contingencies others * 1 ≤ contingencies others * length own = mul-le-mul_left (contingencies others) some in
    omega (arith, more, later, mul-one (contingencies others))

-- ---- plays
-- each number is that of a strategy of its player
abbrev pub AreChoices : List (List (List ℕ)) → List ℕ → Type 0
AreChoices strategies [] = Unit {0}
AreChoices [] (choice ∷ choices) = ⊥
AreChoices (own ∷ others) (choice ∷ choices) = (choice < length own) × AreChoices others choices

AreChoices-push : (strategies : List (List (List ℕ))) (h : List ℕ) (a : ℕ) → AreChoices strategies h → a < length (slice_index_or strategies (length h) []) → AreChoices strategies (h ++ a ∷ [])
AreChoices-push [] [] a c l = absurd (omega arith)
AreChoices-push [] (b ∷ h) a c l = absurd c
AreChoices-push (own ∷ others) [] a c l = (l, tt)
AreChoices-push (own ∷ others) (b ∷ h) a c l = (c.0, AreChoices-push others h a c.1 l)

pub choices_short : (strategies : List (List (List ℕ))) (h : List ℕ) → AreChoices strategies h → length h ≤ length strategies
choices_short strategies [] c = omega arith
choices_short [] (a ∷ h) c = absurd c
choices_short (own ∷ others) (a ∷ h) c = let later = choices_short others h c.1 in omega arith

-- the contingency of a whole joint step is one of them
pub contingency_within : (strategies : List (List (List ℕ))) (h : List ℕ) → AreChoices strategies h → length h ≡ length strategies → contingency_at strategies h < contingencies strategies
contingency_within [] h c e = omega arith
contingency_within (own ∷ others) [] c e = absurd (omega arith)
contingency_within (own ∷ others) (a ∷ h) c e =
    let later = contingency_within others h c.1 (omega arith) in
    let at : ℕ = contingency_at others h in
    let more : length own * suc at ≤ length own * contingencies others = mul-le-mul_left (length own) (omega arith) in
    omega (arith, c.0, more, mul-suc (length own) at)

module _ (parts : MatrixParts) where
  -- what holds where a player chooses and at the end holds everywhere
  pub everywhere : (P : Place → (ℕ → List ℕ) → Type 0) (h : List ℕ) → (length h < length parts.players → P (Joint (length h)) (λ p. range_with_len 0 (length (strategies_of parts p))))
      → (length parts.players ≤ length h → P End (λ p. [])) → P (matrix_place parts h) (matrix_legal parts h)
  everywhere P h choice over = by (is_choosing parts h) refl
    where
      by : (b : Bool) → is_choosing parts h ≡ b → P (if b then Joint (length h) else End) (λ p. if b then range_with_len 0 (length (strategies_of parts p)) else [])
      by true e = choice (ltb-true (length h) (length parts.players) e)
      by false e = over (ltb-false (length h) (length parts.players) e)

  next_below : (h : List ℕ) (a : ℕ) → Contains (next_of (matrix_rules parts) h) a → a < length (strategies_of parts (length h))
  next_below h a = everywhere (λ place legal. Contains (next_at place legal) a → a < length (strategies_of parts (length h))) h
      (λ l c. omega (arith, range_within 0 (length (strategies_of parts (length h))) a c)) (λ l c. absurd (omega (arith, c.1)))

  -- a player's number is that of a strategy
  pub legal_below : (h : List ℕ) (p a : ℕ) → Contains (matrix_legal parts h p) a → a < length (strategies_of parts p)
  legal_below h p a = everywhere (λ place legal. Contains (legal p) a → a < length (strategies_of parts p)) h
      (λ l c. omega (arith, range_within 0 (length (strategies_of parts p)) a c)) (λ l c. absurd (omega (arith, c.1)))

  choices_along : (h rest : List ℕ) → Follows (next_of (matrix_rules parts)) h rest → AreChoices parts.strategies h → AreChoices parts.strategies (h ++ rest)
  choices_along h [] f c = subst (λ z. AreChoices parts.strategies z) (sym (append-nil h)) c
  choices_along h (a ∷ rest) f c =
      subst (λ z. AreChoices parts.strategies z) (append_snoc h a rest) (choices_along (h ++ a ∷ []) rest f.1 (AreChoices-push parts.strategies h a c (next_below h a f.0)))

  pub play_choices : (h : List ℕ) → IsPlay (matrix_rules parts) h → AreChoices parts.strategies h
  play_choices h play = choices_along [] h play.steps tt

  module _ (shape : HasShape parts) where
    pub play_short : (h : List ℕ) → IsPlay (matrix_rules parts) h → length h ≤ length parts.players
    play_short h play = omega (arith, choices_short parts.strategies h (play_choices h play), shape.lists)

    -- at the end everybody has chosen
    pub end_length : (h : List ℕ) → IsPlay (matrix_rules parts) h → matrix_place parts h ≡ End → length h ≡ length parts.players
    end_length h play end =
        let short = play_short h play in
        let long : length parts.players ≤ length h = everywhere (λ place legal. place ≡ End → length parts.players ≤ length h) h (λ l e. cc) (λ l e. l) end in
        omega arith

    -- there are few contingencies, and few strategies of a player
    pub contingencies_few : contingencies parts.strategies ≤ most_pays
    contingencies_few =
        let all : contingencies parts.strategies * 1 ≤ contingencies parts.strategies * length parts.players = mul-le-mul_left (contingencies parts.strategies) shape.players_low in
        omega (arith, all, shape.few, mul-one (contingencies parts.strategies))

    pub count_small : (p : ℕ) → length (strategies_of parts p) ≤ most_pays
    count_small p = omega (arith, count_high parts.strategies p shape.filled, contingencies_few)

    pub contingency_end : (h : List ℕ) → IsPlay (matrix_rules parts) h → matrix_place parts h ≡ End → contingency_at parts.strategies h < contingencies parts.strategies
    contingency_end h play end = contingency_within parts.strategies h (play_choices h play) (omega (arith, end_length h play end, shape.lists))

    -- the pay of a player stands among the pays
    pub pay_within : (h : List ℕ) (p : ℕ) → IsPlay (matrix_rules parts) h → matrix_place parts h ≡ End → p < length parts.players → pay_place parts h p < length parts.pays
    pay_within h p play end l =
        let within = contingency_end h play end in
        let at : ℕ = contingency_at parts.strategies h in
        let players : ℕ = length parts.players in
        let more : players * suc at ≤ players * contingencies parts.strategies = mul-le-mul_left players (omega arith) in
        omega (arith, more, shape.pays, mul-suc players at)
