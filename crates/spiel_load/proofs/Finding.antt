-- The first of a list that passes a test, where the list is seen in another form.
use Rattle.std.proofs.Common.{◌≡◌, ℕ, Bool, true, false, cond, List, [], ◌∷◌, map, Option, Some, None, Bor, refl, sym, ap, ◌∙◌}
use Rattle.std.specs.List.{find, list_any}
use Rattle.std.specs.Option.{option_copied, option_map}
use Rattle.std.specs.Prelude.{◌||◌, not}
use Rattle.std.specs.Str.{bytes_eq}
use Rattle.spiel_string.specs.View.{pair_view, value_view}
use Rattle.spiel_string.specs.declared.value.ParamValue.{ParamValue}
use Rattle.spiel_load.specs.Given.{given_at, other_key}

find_map : {A B : Type 0} (f : A → B) (q : B → Bool) (xs : List A) → option_map f (find (λ x. q (f x)) xs) ≡ find q (map f xs)
find_map f q [] = refl
find_map f q (x ∷ xs) = by (q (f x)) (find_map f q xs)
  where
    by : (b : Bool) → option_map f (find (λ x. q (f x)) xs) ≡ find q (map f xs) → option_map f (cond b (Some x) (find (λ x. q (f x)) xs)) ≡ cond b (Some (f x)) (find q (map f xs))
    by true e = refl
    by false e = e

pub any_map : {A B : Type 0} (f : A → B) (q : B → Bool) (xs : List A) → list_any (λ x. q (f x)) xs ≡ list_any q (map f xs)
any_map f q [] = refl
any_map f q (x ∷ xs) = ap (λ b. q (f x) || b) (any_map f q xs)

-- what is found, by what it is a reference to
of_copied : {A B : Type 0} (f : A → B) (r : Option (Bor A)) → option_map (λ x. f x.now) r ≡ option_map f (option_copied r)
of_copied f None = refl
of_copied f (Some x) = refl

map_twice : {A B C : Type 0} (f : A → B) (g : B → C) (r : Option A) → option_map (λ x. g (f x)) r ≡ option_map g (option_map f r)
map_twice f g None = refl
map_twice f g (Some x) = refl

abbrev Pair : Type 0
Pair = List ℕ × ParamValue

-- the value that is given, by what is found
pub value_found : (given : List Pair) (key : List ℕ) (r found : Option (Bor Pair)) → option_copied r ≡ find (λ pair. bytes_eq pair.0 key) given → r ≡ found
    → given_at (map pair_view given) key ≡ option_map (λ (pair : Bor Pair). value_view pair.now.1) found
value_found given key r found e is =
    ap (option_map (λ pair. pair.1)) (sym (find_map pair_view (λ pair. bytes_eq pair.0 key) given)) ∙ sym (map_twice pair_view (λ pair. pair.1) (find (λ pair. bytes_eq pair.0 key) given))
    ∙ ap (option_map (λ (pair : Pair). value_view pair.1)) (sym e) ∙ sym (of_copied (λ (pair : Pair). value_view pair.1) r) ∙ ap (option_map (λ (pair : Bor Pair). value_view pair.now.1)) is

-- the first key that is none of these, by what is found
pub other_found : (keys : List (List ℕ)) (given : List Pair) (r found : Option (Bor Pair)) → option_copied r ≡ find (λ pair. not (list_any (λ key. bytes_eq key pair.0) keys)) given → r ≡ found
    → other_key keys (map pair_view given) ≡ option_map (λ (pair : Bor Pair). pair.now.0) found
other_found keys given r found e is =
    ap (option_map (λ pair. pair.0)) (sym (find_map pair_view (λ pair. not (list_any (λ key. bytes_eq key pair.0) keys)) given))
    ∙ sym (map_twice pair_view (λ pair. pair.0) (find (λ pair. not (list_any (λ key. bytes_eq key pair.0) keys)) given))
    ∙ ap (option_map (λ (pair : Pair). pair.0)) (sym e) ∙ sym (of_copied (λ (pair : Pair). pair.0) r) ∙ ap (option_map (λ (pair : Bor Pair). pair.now.0)) is
