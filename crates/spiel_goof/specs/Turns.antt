-- What a play of goofspiel is made of, one number more.
use Rattle.std.proofs.Common.{◌≡◌, ℕ, suc, ◌+◌, ◌*◌, ◌≤◌, List, [], ◌∷◌, ◌++◌, length, Option, None, Some, refl, ap, sym, ◌∙◌, arith}
use Rattle.std.specs.Prelude.{slice_get}
use Rattle.spiel_goof.specs.declared.turns.Turn.{Turn}
use Rattle.spiel_goof.specs.declared.turns.Stage.{Stage}
use Rattle.spiel_goof.specs.declared.turns.Stage.TheVariants.{Between, Shown, Bid}
use Rattle.spiel_goof.specs.declared.goofspiel.PointOrder.{PointOrder}
use Rattle.spiel_goof.specs.Goofspiel.{given_points, laid, Parts, after_turn, cut, parts}

-- a turn begins with its point card, if that is given
abbrev pub begun : Option ℕ → Stage
begun None = Between
begun (Some point) = Shown point

-- one number more: the point card, or the bid of player 0, or that of player 1, which completes the turn
abbrev pub told_by : List ℕ → List Turn → Stage → ℕ → Parts
told_by points turns Between a = record { turns = turns; stage = Shown a }
told_by points turns (Shown point) a = record { turns = turns; stage = Bid point a }
told_by points turns (Bid point first) a = record {
  turns = turns ++ (record { point = point; first = first; second = a }) ∷ [];
  stage = begun (slice_get points (length turns + 1));
}

abbrev pub told : List ℕ → Parts → ℕ → Parts
told points x a = told_by points x.turns x.stage a

-- a complete turn in front
told_behind : (turn : Turn) (turns : List Turn) (stage : Stage) (a : ℕ) → told_by [] (turn ∷ turns) stage a ≡ after_turn turn (told_by [] turns stage a)
told_behind turn turns Between a = refl
told_behind turn turns (Shown point) a = refl
told_behind turn turns (Bid point first) a = refl

told_behind_given : (card : ℕ) (points : List ℕ) (turn : Turn) (turns : List Turn) (stage : Stage) (a : ℕ) → told_by (card ∷ points) (turn ∷ turns) stage a ≡ after_turn turn (told_by points turns stage a)
told_behind_given card points turn turns Between a = refl
told_behind_given card points turn turns (Shown point) a = refl
told_behind_given card points turn turns (Bid point first) a =
    let next : suc (length turns) + 1 ≡ suc (length turns + 1) = omega arith in
    rw next refl

cut-push : (h : List ℕ) (a : ℕ) → cut (h ++ a ∷ []) ≡ told [] (cut h) a
cut-push [] a = refl
cut-push (point ∷ []) a = refl
cut-push (point ∷ first ∷ []) a = refl
cut-push (point ∷ first ∷ second ∷ rest) a =
    let turn : Turn = record { point = point; first = first; second = second } in
    ap (after_turn turn) (cut-push rest a) ∙ sym (told_behind turn (cut rest).turns (cut rest).stage a)

laid-push : (points h : List ℕ) (a : ℕ) → cut (laid points (h ++ a ∷ [])) ≡ told points (cut (laid points h)) a
laid-push [] h a = cut-push h a
laid-push (card ∷ points) [] a = refl
laid-push (card ∷ []) (first ∷ []) a = refl
laid-push (card ∷ next ∷ points) (first ∷ []) a = refl
laid-push (card ∷ points) (first ∷ second ∷ rest) a =
    let turn : Turn = record { point = card; first = first; second = second } in
    let later = cut (laid points rest) in
    ap (after_turn turn) (laid-push points rest a) ∙ sym (told_behind_given card points turn later.turns later.stage a)

pub parts-push : (order : PointOrder) (n : ℕ) (h : List ℕ) (a : ℕ) → parts order n (h ++ a ∷ []) ≡ told (given_points order n) (parts order n h) a
unfolding parts
parts-push order n h a = laid-push (given_points order n) h a

pub parts-nil : (order : PointOrder) (n : ℕ) → parts order n [] ≡ record { turns = []; stage = begun (slice_get (given_points order n) 0) }
unfolding parts
parts-nil order n = by (given_points order n)
  where
    by : (points : List ℕ) → cut (laid points []) ≡ record { turns = []; stage = begun (slice_get points 0) }
    by [] = refl
    by (card ∷ points) = refl

length-cut : (h : List ℕ) → length h ≤ 3 * length (cut h).turns + 2
length-cut [] = omega arith
length-cut (point ∷ []) = omega arith
length-cut (point ∷ first ∷ []) = omega arith
length-cut (point ∷ first ∷ second ∷ rest) = omega (arith, length-cut rest)

length-laid : (points h : List ℕ) → length h ≤ length (laid points h)
length-laid [] h = omega arith
length-laid (card ∷ points) [] = omega arith
length-laid (card ∷ points) (first ∷ []) = omega arith
length-laid (card ∷ points) (first ∷ second ∷ rest) = omega (arith, length-laid points rest)

-- a turn has three numbers at the most
pub length-parts : (order : PointOrder) (n : ℕ) (h : List ℕ) → length h ≤ 3 * length (parts order n h).turns + 2
unfolding parts
length-parts order n h = omega (arith, length-laid (given_points order n) h, length-cut (laid (given_points order n) h))
