-- Texts in the order in which they are first seen: what a new text leaves, and whose number it has.
use Rattle.std.specs.Prelude.{◌≡◌, ℕ, zero, suc, ◌<◌, ◌≤◌, Bool, true, false, cond, ◌||◌, List, [], ◌∷◌, ◌++◌, length, map, slice_index_or, Contains, Option, Some, None, IfSome, IfNone}
use Rattle.std.specs.List.{list_any, position, position_or_len}
use Rattle.std.specs.Str.{bytes_eq}
use Rattle.std.proofs.Common.{refl, ap, sym, ◌∙◌, arith, nat_lt, ltb-true, ltb-false}
use Rattle.std.proofs.lemmas.List.{map_push, length-map}
use Rattle.std.proofs.lemmas.Slice.Eq.{bytes_eq-Decides}
use Rattle.spiel_tree.specs.FirstSeen.{with_text, place_of_text, text_at, first_seen, IsNumberIn}

list_any-map : {X Y : Type 0} (f : X → Y) (p : Y → Bool) (xs : List X) → list_any p (map f xs) ≡ list_any (λ x. p (f x)) xs
list_any-map f p [] = refl
list_any-map f p (x ∷ xs) = ap (λ b. p (f x) || b) (list_any-map f p xs)

-- the place of a key is that of its text
pub position_is : {X : Type 0} (f : X → List ℕ) (t : List ℕ) (xs : List X) → position_or_len (λ x. bytes_eq t (f x)) xs ≡ place_of_text (map f xs) t
position_is f t [] = refl
position_is {X} f t (x ∷ xs) = by (bytes_eq t (f x)) refl (position_is f t xs)
  where
    by : (b : Bool) → bytes_eq t (f x) ≡ b → position_or_len (λ y. bytes_eq t (f y)) xs ≡ place_of_text (map f xs) t → position_or_len (λ y. bytes_eq t (f y)) (x ∷ xs) ≡ cond (bytes_eq t (f x)) 0 (suc (place_of_text (map f xs) t))
    by true e ih = rw e refl
    by false e ih = rw e (omega (arith, ih))

with_text_is : (texts : List (List ℕ)) (t : List ℕ) → cond (list_any (bytes_eq t) texts) texts (texts ++ t ∷ []) ≡ with_text texts t
with_text_is [] t = refl
with_text_is (x ∷ texts) t = by (bytes_eq t x) (list_any (bytes_eq t) texts) (with_text_is texts t)
  where
    by : (b more : Bool) → cond more texts (texts ++ t ∷ []) ≡ with_text texts t → cond (b || more) (x ∷ texts) (x ∷ texts ++ t ∷ []) ≡ x ∷ cond b texts (with_text texts t)
    by true more ih = refl
    by false true ih = ap (λ xs. x ∷ xs) ih
    by false false ih = ap (λ xs. x ∷ xs) ih

-- the texts of the keys that a set's insert leaves
pub texts_after : {X : Type 0} (f : X → List ℕ) (keys : List X) (t : X) → map f (cond (list_any (λ x. bytes_eq (f t) (f x)) keys) keys (keys ++ t ∷ [])) ≡ with_text (map f keys) (f t)
texts_after {X} f keys t = by (list_any (λ x. bytes_eq (f t) (f x)) keys) (list_any-map f (bytes_eq (f t)) keys) ∙ with_text_is (map f keys) (f t)
  where
    by : (b : Bool) → list_any (bytes_eq (f t)) (map f keys) ≡ b → map f (cond b keys (keys ++ t ∷ [])) ≡ cond (list_any (bytes_eq (f t)) (map f keys)) (map f keys) (map f keys ++ f t ∷ [])
    by true e = rw e refl
    by false e = rw e (map_push f keys t)

-- a text that was seen leaves the texts as they are
pub text_known : (texts : List (List ℕ)) (t : List ℕ) (n : ℕ) → n < length texts → text_at texts n ≡ t → with_text texts t ≡ texts
text_known [] t n l e = absurd (omega arith)
text_known (x ∷ texts) t zero l e = rw ((bytes_eq-Decides t x).1 (sym e)) refl
text_known (x ∷ texts) t (suc n) l e = by (bytes_eq t x) (text_known texts t n (omega arith) e)
  where
    by : (b : Bool) → with_text texts t ≡ texts → x ∷ cond b texts (with_text texts t) ≡ x ∷ texts
    by true ih = refl
    by false ih = ap (λ more. x ∷ more) ih

-- the text stands at its number
pub text_there : (texts : List (List ℕ)) (t : List ℕ) → text_at (with_text texts t) (place_of_text texts t) ≡ t
text_there [] t = refl
text_there (x ∷ texts) t = by (bytes_eq t x) refl (text_there texts t)
  where
    by : (b : Bool) → bytes_eq t x ≡ b → text_at (with_text texts t) (place_of_text texts t) ≡ t → text_at (x ∷ cond b texts (with_text texts t)) (cond b 0 (suc (place_of_text texts t))) ≡ t
    by true e ih = sym ((bytes_eq-Decides t x).0 e)
    by false e ih = ih

-- the text is one of those that are there then
pub place_within : (texts : List (List ℕ)) (t : List ℕ) → place_of_text texts t < length (with_text texts t)
place_within [] t = omega arith
place_within (x ∷ texts) t = by (bytes_eq t x) (place_within texts t)
  where
    by : (b : Bool) → place_of_text texts t < length (with_text texts t) → cond b 0 (suc (place_of_text texts t)) < length (x ∷ cond b texts (with_text texts t))
    by true l = omega arith
    by false l = omega arith

-- a text that came keeps its number
pub place_same : (texts : List (List ℕ)) (t : List ℕ) → place_of_text (with_text texts t) t ≡ place_of_text texts t
place_same [] t = rw ((bytes_eq-Decides t t).1 refl) refl
place_same (x ∷ texts) t = by (bytes_eq t x) refl (place_same texts t)
  where
    by : (b : Bool) → bytes_eq t x ≡ b → place_of_text (with_text texts t) t ≡ place_of_text texts t → cond b 0 (suc (place_of_text (cond b texts (with_text texts t)) t)) ≡ cond b 0 (suc (place_of_text texts t))
    by true e ih = refl
    by false e ih = ap suc ih

-- the texts that were there stay where they are
pub text_kept : (texts : List (List ℕ)) (t : List ℕ) (n : ℕ) → n < length texts → text_at (with_text texts t) n ≡ text_at texts n
text_kept [] t n l = absurd (omega arith)
text_kept (x ∷ texts) t zero l = refl
text_kept (x ∷ texts) t (suc n) l = by (bytes_eq t x) (text_kept texts t n (omega arith))
  where
    by : (b : Bool) → text_at (with_text texts t) n ≡ text_at texts n → text_at (cond b texts (with_text texts t)) n ≡ text_at texts n
    by true ih = refl
    by false ih = ih

pub place_kept : (texts : List (List ℕ)) (t u : List ℕ) → place_of_text texts u < length texts → place_of_text (with_text texts t) u ≡ place_of_text texts u
place_kept [] t u l = absurd (omega arith)
place_kept (x ∷ texts) t u l = by (bytes_eq t x) (bytes_eq u x) l (λ k. place_kept texts t u k)
  where
    by : (b c : Bool) → cond c 0 (suc (place_of_text texts u)) < suc (length texts) → (place_of_text texts u < length texts → place_of_text (with_text texts t) u ≡ place_of_text texts u)
        → cond c 0 (suc (place_of_text (cond b texts (with_text texts t)) u)) ≡ cond c 0 (suc (place_of_text texts u))
    by true c l ih = refl
    by false true l ih = refl
    by false false l ih = ap suc (ih (omega arith))

pub length-with_text : (texts : List (List ℕ)) (t : List ℕ) → length texts ≤ length (with_text texts t)
length-with_text [] t = omega arith
length-with_text (x ∷ texts) t = by (bytes_eq t x) (length-with_text texts t)
  where
    by : (b : Bool) → length texts ≤ length (with_text texts t) → suc (length texts) ≤ suc (length (cond b texts (with_text texts t)))
    by true l = omega arith
    by false l = omega arith

-- a number stays a number when a text comes
pub number_kept : (texts : List (List ℕ)) (t : List ℕ) (n : ℕ) → IsNumberIn texts n → IsNumberIn (with_text texts t) n
number_kept texts t n is =
    let within : place_of_text texts (text_at texts n) < length texts = omega (arith, is.first, is.within) in
    record {
      within = omega (arith, is.within, length-with_text texts t);
      first = rw (text_kept texts t n is.within) (place_kept texts t (text_at texts n) within ∙ is.first);
    }

-- the number of the text that came is a number
pub number_new : (texts : List (List ℕ)) (t : List ℕ) → IsNumberIn (with_text texts t) (place_of_text texts t)
number_new texts t = record {
  within = place_within texts t;
  first = rw (text_there texts t) (place_same texts t);
}

-- one text more, behind all that came
pub first_seen_push : (seen texts : List (List ℕ)) (t : List ℕ) → first_seen seen (texts ++ t ∷ []) ≡ with_text (first_seen seen texts) t
first_seen_push seen [] t = refl
first_seen_push seen (x ∷ texts) t = first_seen_push (with_text seen x) texts t

-- equal texts have equal numbers
pub same_number : (texts : List (List ℕ)) (m n : ℕ) → IsNumberIn texts m → IsNumberIn texts n → text_at texts m ≡ text_at texts n → m ≡ n
same_number texts m n a b e = sym a.first ∙ ap (place_of_text texts) e ∙ b.first

-- a text whose place is one of the list stands there
pub text_at-place : (texts : List (List ℕ)) (t : List ℕ) → place_of_text texts t < length texts → text_at texts (place_of_text texts t) ≡ t
text_at-place texts t l = sym (text_kept texts t (place_of_text texts t) l) ∙ text_there texts t

-- a text of the list has its place there
pub Contains-place : (texts : List (List ℕ)) (t : List ℕ) → Contains texts t → place_of_text texts t < length texts
Contains-place texts t c = at texts c.0 c.1 c.2
  where
    at : (xs : List (List ℕ)) (k : ℕ) → k < length xs → slice_index_or xs k t ≡ t → place_of_text xs t < length xs
    at [] k l e = absurd (omega arith)
    at (x ∷ xs) zero l e = rw ((bytes_eq-Decides t x).1 (sym e)) (omega arith)
    at (x ∷ xs) (suc k) l e = by (bytes_eq t x) (at xs k (omega arith) e)
      where
        by : (b : Bool) → place_of_text xs t < length xs → cond b 0 (suc (place_of_text xs t)) < suc (length xs)
        by true l = omega arith
        by false l = omega arith

-- the answer to a search is the number of the text, or says that the text isn't there
pub record IsFound (texts : List (List ℕ)) (t : List ℕ) (answer : Option ℕ) : Type 0 where
  pub there : IfSome answer (λ n. text_at texts n ≡ t)
  pub number : IfSome answer (λ n. n ≡ place_of_text texts t)
  pub none : IfNone answer (Contains texts t → ⊥)

-- so is the first position of a key with that text
pub position_found : {X : Type 0} (f : X → List ℕ) (t : List ℕ) (keys : List X) (texts : List (List ℕ)) (answer : Option ℕ)
    → answer ≡ position (λ x. bytes_eq t (f x)) keys → map f keys ≡ texts → IsFound texts t answer
position_found f t keys texts answer e view = rw (e, position_is f t keys, ← length-map keys f, view) (by (nat_lt (place_of_text texts t) (length texts)) refl)
  where
    by : (b : Bool) → nat_lt (place_of_text texts t) (length texts) ≡ b → IsFound texts t (cond b (Some (place_of_text texts t)) None)
    by true l = record { there = text_at-place texts t (ltb-true _ _ l); number = refl; none = tt }
    by false l = record { there = tt; number = tt; none = λ c. let m = Contains-place texts t c in let n = ltb-false _ _ l in absurd (omega arith) }
