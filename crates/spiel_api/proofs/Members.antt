-- Whether a number stands in a list: the test and the fact.
use Rattle.std.proofs.Common.{◌≡◌, ℕ, zero, suc, ◌<◌, Bool, true, false, List, [], ◌∷◌, ◌++◌, length, ◌==◌, ◌||◌, arith, refl, ap, ◌∙◌}
use Rattle.std.specs.Prelude.{slice_index_or}
use Rattle.std.specs.List.{Contains}
use Rattle.std.proofs.lemmas.Bool.{eqb-true, eq-eqb, false≢true}
use Rattle.std.proofs.lemmas.List.Folds.{list_any-append}
use Rattle.spiel_api.specs.Walks.{is_in}

pub or_false : (b : Bool) → (b || false) ≡ b
or_false true = refl
or_false false = refl

is_in_at : (xs : List ℕ) (a k : ℕ) → k < length xs → slice_index_or xs k a ≡ a → is_in xs a ≡ true
is_in_at [] a k l e = absurd (omega arith)
is_in_at (x ∷ xs) a zero l e = rw (eq-eqb x a e) refl
is_in_at (x ∷ xs) a (suc k) l e = later (x == a) (is_in_at xs a k (omega arith) e)
  where
    later : (b : Bool) → is_in xs a ≡ true → (b || is_in xs a) ≡ true
    later true e = refl
    later false e = e

-- a number of the list passes the test
pub is_in-Contains : (xs : List ℕ) (a : ℕ) → Contains xs a → is_in xs a ≡ true
is_in-Contains xs a c = is_in_at xs a c.0 c.1 c.2

-- a number that passes the test is one of the list
pub Contains-is_in : (xs : List ℕ) (a : ℕ) → is_in xs a ≡ true → Contains xs a
Contains-is_in [] a t = absurd (false≢true t)
Contains-is_in (x ∷ xs) a t = by (Contains-is_in xs a) (x == a) refl t
  where
    by : (is_in xs a ≡ true → Contains xs a) → (b : Bool) → (x == a) ≡ b → (b || is_in xs a) ≡ true → Contains (x ∷ xs) a
    by later true e t = (0, omega arith, eqb-true x a e)
    by later false e t = let c = later t in (suc c.0, let l = c.1 in omega arith, c.2)

-- a list of one number more
pub is_in-push : (xs : List ℕ) (a c : ℕ) → is_in (xs ++ a ∷ []) c ≡ (is_in xs c || a == c)
is_in-push xs a c = list_any-append (λ x. x == c) xs (a ∷ []) ∙ ap (λ b. is_in xs c || b) (or_false (a == c))

-- no list of no numbers has one
pub none_of_none : {P : Type 0} (a : ℕ) → Contains [] a → P
none_of_none a c = absurd (omega (arith, c.1))

-- a number that is none of the list fails the test
pub is_in-none : (xs : List ℕ) (a : ℕ) → (Contains xs a → ⊥) → is_in xs a ≡ false
is_in-none xs a none = by (is_in xs a) refl
  where
    by : (b : Bool) → is_in xs a ≡ b → is_in xs a ≡ false
    by true e = absurd (none (Contains-is_in xs a e))
    by false e = e
