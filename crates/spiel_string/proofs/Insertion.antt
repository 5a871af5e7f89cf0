-- Where a pair is put among pairs in byte order of their keys.
use Rattle.std.proofs.Common.{◌≡◌, ◌+◌, ◌≤◌, ℕ, suc, Bool, true, false, cond, not, ltb, List, [], ◌∷◌, length, refl, ◌∙◌, ap, Some, None, arith}
use Rattle.std.specs.Prelude.{insert, position, if◌then◌else◌}
use Rattle.std.specs.List.{position_or_len}
use Rattle.std.proofs.lemmas.Bool.{ltb-false}
use Rattle.spiel_string.specs.Insertion.{insert_pair}
use Rattle.spiel_string.specs.Sorted.{key_lt}

-- a pair is put before the first whose key is above
pub insert_pair-position : {X : Type 0} (p : List ℕ × X) (ps : List (List ℕ × X)) → insert ps (position_or_len (λ (q : List ℕ × X). key_lt p.0 q.0) ps) p ≡ insert_pair p ps
insert_pair-position {X} p [] = refl
insert_pair-position {X} p (q ∷ qs) = go (key_lt p.0 q.0) (insert_pair-position p qs)
  where
    next : (n : ℕ) → 1 + n ≡ suc n
    next n = omega arith

    go : (b : Bool) → insert qs (position_or_len (λ (r : List ℕ × X). key_lt p.0 r.0) qs) p ≡ insert_pair p qs
        → insert (q ∷ qs) (cond (not b) (1 + position_or_len (λ (r : List ℕ × X). key_lt p.0 r.0) qs) 0) p ≡ (if b then p ∷ q ∷ qs else q ∷ insert_pair p qs)
    go true h = refl
    go false h = ap (λ n. insert (q ∷ qs) n p) (next (position_or_len (λ (r : List ℕ × X). key_lt p.0 r.0) qs)) ∙ ap (λ u. q ∷ u) h

position_or_len-le : {X : Type 0} (p : X → Bool) (xs : List X) → position_or_len p xs ≤ length xs
position_or_len-le p [] = omega arith
position_or_len-le p (x ∷ xs) = go (p x) (position_or_len-le p xs)
  where
    go : (b : Bool) → position_or_len p xs ≤ length xs → cond (not b) (1 + position_or_len p xs) 0 ≤ suc (length xs)
    go true h = omega arith
    go false h = omega (arith, h)

pub position_none : {X : Type 0} (p : X → Bool) (xs : List X) → position p xs ≡ None → length xs ≡ position_or_len p xs
position_none p xs h = go (ltb (position_or_len p xs) (length xs)) refl h
  where
    go : (b : Bool) → ltb (position_or_len p xs) (length xs) ≡ b → cond b (Some (position_or_len p xs)) None ≡ None → length xs ≡ position_or_len p xs
    go true t e = absurd (let bad : Some (position_or_len p xs) ≡ None = e in cc)
    go false t e =
        let above : length xs ≤ position_or_len p xs = ltb-false (position_or_len p xs) (length xs) t in
        let within = position_or_len-le p xs in omega (arith, above, within)
