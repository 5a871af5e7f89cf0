-- Keys of sets that were seen.
use Rattle.std.proofs.Common.{◌≡◌, ℕ, ◌+◌, ◌<◌, Bool, true, false, List, [], ◌∷◌, map, length, drop, refl, sym, ap, ◌∙◌, get_or, add-one}
use Rattle.std.specs.Prelude.{◌||◌, cond, Option, Some, None}
use Rattle.std.specs.List.{list_any}
use Rattle.std.specs.Prelude.{IfSome, position, nat_lt, ◌==◌}
use Rattle.spiel_efg.specs.Mentions.{place_of}
use Rattle.std.proofs.Math.Seq.{drop-cons}
use Rattle.spiel_efg.specs.declared.parts.EfgSet.{EfgSet}
use Rattle.spiel_efg.specs.declared.seen.SetKey.{SetKey}
use Rattle.spiel_efg.specs.contracts.seen.SetKeyPartialEq.TheImpl.{eq-value}
use Rattle.spiel_efg.specs.Seen.{pair}
use Rattle.spiel_efg.specs.Sets.{Key, is_same_key, key_of}

any_same : {X : Type 0} (f : X → Key) (E : X → X → Bool) → ((a b : X) → E a b ≡ is_same_key (f a) (f b)) → (x : X) (keys : List X) → list_any (E x) keys ≡ list_any (is_same_key (f x)) (map f keys)
any_same f E same x [] = refl
any_same f E same x (key ∷ keys) = ap (λ b. b || list_any (E x) keys) (same x key) ∙ ap (λ b. is_same_key (f x) (f key) || b) (any_same f E same x keys)

pub same_pair : (a b : SetKey) → eq-value.it a b ≡ is_same_key (pair a) (pair b)
same_pair a b = by a.player b.player
  where
    by : (p q : Option ℕ) → eq-value.it (record { player = p; number = a.number }) (record { player = q; number = b.number }) ≡ is_same_key (p, a.number) (q, b.number)
    by None None = refl
    by None (Some q) = refl
    by (Some p) None = refl
    by (Some p) (Some q) = refl

pub any_pair : (key : SetKey) (keys : List SetKey) → list_any (eq-value.it key) keys ≡ list_any (is_same_key (pair key)) (map pair keys)
any_pair key keys = any_same pair (eq-value.it) same_pair key keys

-- the sets from one on, and the next key of them
pub next_key : (sets : List EfgSet) (k : ℕ) (d : EfgSet) → k < length sets → map key_of (drop k sets) ≡ key_of (get_or sets k d) ∷ map key_of (drop (k + 1) sets)
next_key sets k d l = ap (λ xs. map key_of xs) (drop-cons sets k d l) ∙ ap (λ n. key_of (get_or sets k d) ∷ map key_of (drop n sets)) (sym (add-one k))

-- the place where a number was found
pub found_place : (answer : Option ℕ) (number : ℕ) (numbers seen : List ℕ) → answer ≡ position (λ x. number == x) numbers → numbers ≡ seen → IfSome answer (λ place. place ≡ place_of seen number)
found_place answer number numbers seen e same = rw (e, same) (by (nat_lt (place_of seen number) (length seen)))
  where
    by : (b : Bool) → IfSome (cond b (Some (place_of seen number)) None) (λ place. place ≡ place_of seen number)
    by true = refl
    by false = tt
