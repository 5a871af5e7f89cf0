-- What was mentioned before: its place, and whether a later mention says the same.
use Rattle.std.proofs.Common.{◌≡◌, ℕ, suc, ◌+◌, ◌<◌, ◌≤◌, Bool, true, false, ◌&&◌, not, List, [], ◌∷◌, ◌++◌, map, length, drop, get_or, refl, sym, ap, ap₂, ◌∙◌, arith, add-one, nat_lt, ltb-false, Option, Some, None}
use Rattle.std.specs.Prelude.{cond, position, ◌==◌, if◌then◌else◌}
use Rattle.std.specs.List.{list_any, position_or_len}
use Rattle.std.proofs.lemmas.List.{map_push, length-map, drop_all}
use Rattle.std.proofs.Math.Seq.{drop-cons}
use Rattle.spiel_efg.specs.Mentions.{with_number}
use Rattle.spiel_efg.specs.Seen.{pair, pairs}
use Rattle.spiel_efg.specs.Sets.{Key, is_same_key, key_of}
use Rattle.spiel_efg.specs.ReadingNodes.{are_same_by, place_of_outcome, place_of_set}
use Rattle.spiel_efg.specs.contracts.seen.SetKeyPartialEq.TheImpl.{eq-value}
use Rattle.spiel_efg.specs.declared.parts.EfgOutcome.{EfgOutcome}
use Rattle.spiel_efg.specs.declared.parts.EfgSet.{EfgSet}
use Rattle.spiel_efg.specs.declared.seen.SetKey.{SetKey}
use Rattle.spiel_efg.proofs.Keys.{same_pair}

-- ---- lists that are compared item by item
pub next_same : {A : Type 0} (same : A → A → Bool) (a b : List A) (i : ℕ) (d e : A) → i < length a → length a ≡ length b
    → are_same_by same (drop i a) (drop i b) ≡ (same (get_or a i d) (get_or b i e) && are_same_by same (drop (i + 1) a) (drop (i + 1) b))
next_same {A} same a b i d e l n =
    ap₂ (λ xs ys. are_same_by same xs ys) (drop-cons a i d l) (drop-cons b i e (omega (arith, l, n)))
    ∙ ap (λ k. same (get_or a i d) (get_or b i e) && are_same_by same (drop k a) (drop k b)) (sym (add-one i))

pub other_same : {A : Type 0} (same : A → A → Bool) (a b : List A) → (length a ≡ length b → ⊥) → false ≡ are_same_by same a b
other_same same [] [] n = absurd (n refl)
other_same same [] (y ∷ b) n = refl
other_same same (x ∷ a) [] n = refl
other_same same (x ∷ a) (y ∷ b) n = by (same x y) (other_same same a b (λ e. n (ap suc e)))
  where
    by : (found : Bool) → false ≡ are_same_by same a b → false ≡ (found && are_same_by same a b)
    by true e = e
    by false e = refl

pub last_same : {A : Type 0} (same : A → A → Bool) (a b : List A) (i : ℕ) → length a ≤ i → length a ≡ length b → are_same_by same (drop i a) (drop i b) ≡ true
last_same {A} same a b i l n = ap₂ (λ (xs ys : List A). are_same_by same xs ys) (drop_all i a l) (drop_all i b (omega (arith, l, n)))

-- ---- places
abbrev place_by : ℕ → ℕ → Option ℕ
place_by place count = cond (nat_lt place count) (Some place) None

places_same : {X : Type 0} (f : X → Key) (E : X → X → Bool) → ((a b : X) → E a b ≡ is_same_key (f a) (f b)) → (x : X) (keys : List X) → position_or_len (E x) keys ≡ position_or_len (is_same_key (f x)) (map f keys)
places_same f E same x [] = refl
places_same {X} f E same x (key ∷ keys) = by (is_same_key (f x) (f key)) refl (places_same f E same x keys)
  where
    by : (b : Bool) → is_same_key (f x) (f key) ≡ b → position_or_len (E x) keys ≡ position_or_len (is_same_key (f x)) (map f keys)
        → position_or_len (E x) (key ∷ keys) ≡ position_or_len (is_same_key (f x)) (map f (key ∷ keys))
    by true e ih = let g : E x key ≡ true = same x key ∙ e in rw (g, e) refl
    by false e ih = let g : E x key ≡ false = same x key ∙ e in rw (g, e) (omega (arith, ih))

pub key_place : (key : SetKey) (keys : List SetKey) → position (eq-value.it key) keys ≡ position (is_same_key (pair key)) (pairs keys)
key_place key keys = ap₂ place_by (places_same pair (eq-value.it) same_pair key keys) (sym (length-map keys pair))

-- what has no place isn't there
pub none_seen : {X : Type 0} (p : X → Bool) (xs : List X) → position p xs ≡ None → list_any p xs ≡ false
none_seen {X} p xs e = by (list_any p xs) refl
  where
    there : (ys : List X) → list_any p ys ≡ true → position_or_len p ys < length ys
    there [] f = cc
    there (y ∷ ys) f = at (p y) refl f (there ys)
      where
        at : (b : Bool) → p y ≡ b → list_any p (y ∷ ys) ≡ true → (list_any p ys ≡ true → position_or_len p ys < length ys) → position_or_len p (y ∷ ys) < length (y ∷ ys)
        at true g f next = rw g (omega arith)
        at false g f next = let more : list_any p ys ≡ true = rw g at f in let l = next more in rw g (omega (arith, l))

    placed : position_or_len p xs < length xs → ⊥
    placed l = no (nat_lt (position_or_len p xs) (length xs)) refl e
      where
        no : (b : Bool) → nat_lt (position_or_len p xs) (length xs) ≡ b → cond b (Some (position_or_len p xs)) None ≡ None → ⊥
        no true f g = cc
        no false f g = omega (arith, l, ltb-false (position_or_len p xs) (length xs) f)

    by : (b : Bool) → list_any p xs ≡ b → list_any p xs ≡ false
    by true f = absurd (placed (there xs f))
    by false f = f

-- ---- what is new goes last
pub keys_with : (keys more : List Key) (known pushed : List EfgSet) (one : EfgSet) (is_new : Bool) → keys ≡ map key_of known → place_of_set known one.player one.number ≡ None
    → is_new ≡ not (list_any (is_same_key (one.player, one.number)) keys) → (is_new ≡ true → more ≡ keys ++ (one.player, one.number) ∷ []) → pushed ≡ known ++ one ∷ []
    → more ≡ map key_of pushed
keys_with keys more known pushed one is_new is none fresh noted e =
    let missing : list_any (is_same_key (one.player, one.number)) keys ≡ false =
    ap (λ (ks : List Key). list_any (is_same_key (one.player, one.number)) ks) is ∙ none_seen (is_same_key (one.player, one.number)) (map key_of known) none in
    noted (fresh ∙ ap not missing)
    ∙ ap (λ (ks : List Key). ks ++ (one.player, one.number) ∷ []) is
    ∙ sym (ap (λ (xs : List EfgSet). map key_of xs) e ∙ map_push key_of known one)

abbrev pub number_of : EfgOutcome → ℕ
number_of outcome = outcome.number

pub numbers_with : (numbers more : List ℕ) (known pushed : List EfgOutcome) (one : EfgOutcome) → numbers ≡ map number_of known → place_of_outcome known one.number ≡ None
    → more ≡ with_number numbers one.number → pushed ≡ known ++ one ∷ [] → more ≡ map number_of pushed
numbers_with numbers more known pushed one is none noted e =
    let missing : list_any (λ (x : ℕ). one.number == x) numbers ≡ false =
    ap (λ (ns : List ℕ). list_any (λ (x : ℕ). one.number == x) ns) is ∙ none_seen (λ (x : ℕ). one.number == x) (map number_of known) none in
    noted
    ∙ ap (λ (b : Bool). if b then numbers else (numbers ++ one.number ∷ [])) missing
    ∙ ap (λ (ns : List ℕ). ns ++ one.number ∷ []) is
    ∙ sym (ap (λ (xs : List EfgOutcome). map number_of xs) e ∙ map_push number_of known one)
