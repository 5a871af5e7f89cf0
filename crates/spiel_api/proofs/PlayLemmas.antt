-- What plays are made of.
use Rattle.std.specs.Prelude.{◌≡◌, ℕ, ◌+◌, ◌<◌, List, [], ◌∷◌, ◌++◌, length, take, drop, slice_index}
use Rattle.std.specs.List.{Contains}
use Rattle.std.proofs.Common.{sym, subst, ap, ◌∙◌, take-append-drop}
use Rattle.std.proofs.lemmas.List.{append-nil, take_more}
use Rattle.std.proofs.Math.Seq.{append_snoc}
use Rattle.spiel_api.specs.Rules.{Rules, next_of}
use Rattle.spiel_api.specs.Plays.{Follows, IsPlay}

module _ (next : List ℕ → List ℕ) where
  -- from a history that is written in another way
  pub Follows-from : (h i xs : List ℕ) → h ≡ i → Follows next h xs → Follows next i xs
  Follows-from h i xs e f = subst (λ z. Follows next z xs) e f

  pub Follows-append : (h xs ys : List ℕ) → Follows next h xs → Follows next (h ++ xs) ys → Follows next h (xs ++ ys)
  Follows-append h [] ys f g = Follows-from (h ++ []) h ys (append-nil h) g
  Follows-append h (x ∷ xs) ys f g =
      (f.0, Follows-append (h ++ x ∷ []) xs ys f.1 (Follows-from (h ++ x ∷ xs) (h ++ x ∷ [] ++ xs) ys (sym (append_snoc h x xs)) g))

  pub Follows-front : (h xs ys : List ℕ) → Follows next h (xs ++ ys) → Follows next h xs
  Follows-front h [] ys f = tt
  Follows-front h (x ∷ xs) ys f = (f.0, Follows-front (h ++ x ∷ []) xs ys f.1)

  pub Follows-back : (h xs ys : List ℕ) → Follows next h (xs ++ ys) → Follows next (h ++ xs) ys
  Follows-back h [] ys f = Follows-from h (h ++ []) ys (sym (append-nil h)) f
  Follows-back h (x ∷ xs) ys f =
      Follows-from (h ++ x ∷ [] ++ xs) (h ++ x ∷ xs) ys (append_snoc h x xs) (Follows-back (h ++ x ∷ []) xs ys f.1)

-- the same numbers are legal everywhere
pub Follows-same : (next other : List ℕ → List ℕ) → ((h : List ℕ) → next h ≡ other h) → (h xs : List ℕ) → Follows next h xs → Follows other h xs
Follows-same next other same h [] f = tt
Follows-same next other same h (x ∷ xs) f =
    (subst (λ (l : List ℕ). Contains l x) (same h) f.0, Follows-same next other same (h ++ x ∷ []) xs f.1)

-- nothing was chosen
pub IsPlay-nil : (rules : Rules) → IsPlay rules []
IsPlay-nil rules = record { steps = tt }

-- one number more
pub IsPlay-more : (rules : Rules) (h : List ℕ) (a : ℕ) → IsPlay rules h → Contains (next_of rules h) a → IsPlay rules (h ++ a ∷ [])
IsPlay-more rules h a play c =
    record { steps = Follows-append (next_of rules) [] h (a ∷ []) play.steps (c, tt) }

-- the same of a state's history: at the root, and when a number was added
pub IsPlay-start : (rules : Rules) (h : List ℕ) → h ≡ [] → IsPlay rules h
IsPlay-start rules h e = subst (IsPlay rules) (sym e) (IsPlay-nil rules)

pub IsPlay-pushed : (rules : Rules) (h after : List ℕ) (a : ℕ) → IsPlay rules h → Contains (next_of rules h) a → after ≡ h ++ a ∷ [] → IsPlay rules after
IsPlay-pushed rules h after a play c e = subst (IsPlay rules) (sym e) (IsPlay-more rules h a play c)

-- the front of a play
pub IsPlay-front : (rules : Rules) (h i : List ℕ) → IsPlay rules (h ++ i) → IsPlay rules h
IsPlay-front rules h i play = record { steps = Follows-front (next_of rules) [] h i play.steps }

-- the last number of a play was legal
pub IsPlay-last : (rules : Rules) (h : List ℕ) (a : ℕ) → IsPlay rules (h ++ a ∷ []) → Contains (next_of rules h) a
IsPlay-last rules h a play = (Follows-back (next_of rules) [] h (a ∷ []) play.steps).0

-- the last number taken back
pub IsPlay-back : (rules : Rules) (before after h : List ℕ) (a : ℕ) → IsPlay rules before → before ≡ h ++ a ∷ [] → after ≡ h → IsPlay rules after
IsPlay-back rules before after h a play e f =
    subst (IsPlay rules) (sym f) (IsPlay-front rules h (a ∷ []) (subst (IsPlay rules) e play))

pub IsPlay-take : (rules : Rules) (h : List ℕ) (k : ℕ) → IsPlay rules h → IsPlay rules (take k h)
IsPlay-take rules h k play =
    IsPlay-front rules (take k h) (drop k h) (subst (λ z. IsPlay rules z) (sym (take-append-drop k h)) play)

-- a number of a play is legal where it stands
pub IsPlay-next : (rules : Rules) (h : List ℕ) (k a : ℕ) → IsPlay rules h → k < length h → a ≡ slice_index h k → Contains (next_of rules (take k h)) a
IsPlay-next rules h k a play within e =
    let more : take (k + 1) h ≡ take k h ++ a ∷ [] = take_more h k 0 within ∙ ap (λ b. take k h ++ b ∷ []) (sym e) in
    IsPlay-last rules (take k h) a (subst (IsPlay rules) more (IsPlay-take rules h (k + 1) play))

-- one number more of a list
pub IsPlay-take_more : (rules : Rules) (h : List ℕ) (k : ℕ) → k < length h → IsPlay rules (take k h) → Contains (next_of rules (take k h)) (slice_index h k) → IsPlay rules (take (k + 1) h)
IsPlay-take_more rules h k within play c =
    subst (λ z. IsPlay rules z) (sym (take_more h k 0 within)) (IsPlay-more rules (take k h) (slice_index h k) play c)

-- what `apply` and `undo` need, by `using` before them
pub ruleset play_steps = (IsPlay-more, IsPlay-back)
