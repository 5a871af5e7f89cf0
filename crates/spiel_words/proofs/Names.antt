-- Names that differ.
use Rattle.std.proofs.Common.{◌≡◌, ◌∙◌, ◌&&◌, ◌||◌, ap, refl, sym, Bool, true, false, not, List, [], ◌∷◌, ◌++◌, subst}
use Rattle.std.specs.Str.{bytes_eq}
use Rattle.std.proofs.lemmas.List.Folds.{list_any-append}
use Rattle.std.proofs.lemmas.Slice.Eq.{bytes_eq-Decides}
use Rattle.spiel_words.specs.Line.{Text, are_distinct, is_among}

pub same : (a b : Text) → bytes_eq a b ≡ true → a ≡ b
same a b h = (bytes_eq-Decides a b).0 h

pub itself : (a : Text) → bytes_eq a a ≡ true
itself a = (bytes_eq-Decides a a).1 refl

pub swapped : (a b : Text) → bytes_eq a b ≡ false → bytes_eq b a ≡ false
swapped a b h = go (bytes_eq b a) refl
  where
    go : (c : Bool) → bytes_eq b a ≡ c → c ≡ false
    go true e = let bad : true ≡ false = sym ((bytes_eq-Decides a b).1 (sym (same b a e))) ∙ h in cc
    go false e = refl

pub left_of : (a b : Bool) → (a && b) ≡ true → a ≡ true
left_of true b h = refl
left_of false b h = h

pub right_of : (a b : Bool) → (a && b) ≡ true → b ≡ true
right_of true b h = h
right_of false b h = let bad : false ≡ true = h in cc

pub both : (a b : Bool) → a ≡ true → b ≡ true → (a && b) ≡ true
both a b p q = ap (λ c. c && b) p ∙ q

pub not_true : (b : Bool) → not b ≡ true → b ≡ false
not_true true h = sym h
not_true false h = refl

pub neither : (a b : Bool) → (a || b) ≡ false → (a ≡ false) × (b ≡ false)
neither true b h = let bad : true ≡ false = h in (cc, cc)
neither false b h = (refl, h)

pub none_of : (a b : Bool) → a ≡ false → b ≡ false → (a || b) ≡ false
none_of a b p q = ap (λ c. c || b) p ∙ q

pub among-append : (x : Text) (xs ys : List Text) → is_among x (xs ++ ys) ≡ (is_among x xs || is_among x ys)
among-append x xs ys = list_any-append (λ (other : Text). bytes_eq other x) xs ys

-- what is among the first of them isn't among the others
pub apart : (x : Text) (xs ys : List Text) → are_distinct (xs ++ ys) ≡ true → is_among x xs ≡ true → is_among x ys ≡ false
apart x [] ys d h = let bad : false ≡ true = h in cc
apart x (y ∷ xs) ys d h = go (bytes_eq y x) refl h (apart x xs ys (right_of _ _ d))
  where
    go : (b : Bool) → bytes_eq y x ≡ b → (b || is_among x xs) ≡ true → (is_among x xs ≡ true → is_among x ys ≡ false) → is_among x ys ≡ false
    go true e m below =
        let none : is_among y (xs ++ ys) ≡ false = not_true _ (left_of _ _ d) in
        let here : is_among x (xs ++ ys) ≡ false = subst (λ (z : Text). is_among z (xs ++ ys) ≡ false) (same y x e) none in
        (neither _ _ (sym (among-append x xs ys) ∙ here)).1
    go false e m below = below m

pub front_distinct : (xs ys : List Text) → are_distinct (xs ++ ys) ≡ true → are_distinct xs ≡ true
front_distinct [] ys d = refl
front_distinct (x ∷ xs) ys d =
    let none : is_among x xs ≡ false = (neither _ _ (sym (among-append x xs ys) ∙ not_true _ (left_of _ _ d))).0 in
    both _ _ (ap not none) (front_distinct xs ys (right_of _ _ d))

pub back_distinct : (xs ys : List Text) → are_distinct (xs ++ ys) ≡ true → are_distinct ys ≡ true
back_distinct [] ys d = d
back_distinct (x ∷ xs) ys d = back_distinct xs ys (right_of _ _ d)

-- one that is new may stand between
pub inserted : (x : Text) (xs ys : List Text) → are_distinct (xs ++ ys) ≡ true → is_among x xs ≡ false → is_among x ys ≡ false → are_distinct (xs ++ x ∷ ys) ≡ true
inserted x [] ys d p q = both _ _ (ap not q) d
inserted x (y ∷ xs) ys d p q =
    let apart_x = neither _ _ p in
    let none = neither _ _ (sym (among-append y xs ys) ∙ not_true _ (left_of _ _ d)) in
    let more : is_among y (xs ++ x ∷ ys) ≡ false =
    among-append y xs (x ∷ ys) ∙ none_of _ _ none.0 (none_of _ _ (swapped y x apart_x.0) none.1) in
    both _ _ (ap not more) (inserted x xs ys (right_of _ _ d) apart_x.1 q)

-- one that stands already may not
pub twice : (x : Text) (xs ys : List Text) → is_among x xs ≡ true → are_distinct (xs ++ x ∷ ys) ≡ false
twice x xs ys h = go (are_distinct (xs ++ x ∷ ys)) refl
  where
    go : (b : Bool) → are_distinct (xs ++ x ∷ ys) ≡ b → b ≡ false
    go true d =
        let here : is_among x (x ∷ ys) ≡ true = ap (λ b. b || is_among x ys) (itself x) in
        let bad : true ≡ false = sym here ∙ apart x xs (x ∷ ys) d h in
        cc
    go false d = refl
