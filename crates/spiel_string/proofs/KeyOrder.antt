-- Byte order of keys, and keys that rise strictly in it.
use Rattle.std.proofs.Common.{◌≡◌, ℕ, Bool, true, false, List, [], ◌∷◌, refl, sym, ◌∙◌, ap}
use Rattle.std.specs.Prelude.{◌||◌, if◌then◌else◌}
use Rattle.std.specs.List.{list_any}
use Rattle.std.specs.Str.{bytes_eq}
use Rattle.std.specs.Ordering.{nat_cmp, is_lt, is_eq, ordering_reverse}
use Rattle.std.specs.Cmp.Lexicographic.{slice_cmp}
use Rattle.std.specs.declared.cmp.Ordering.{Ordering}
use Rattle.std.specs.declared.cmp.Ordering.TheVariants.{Less, Equal, Greater}
use Rattle.std.proofs.lemmas.Bool.{true≢false}
use Rattle.std.proofs.lemmas.Cmp.{nat_list_cmp_total}
use Rattle.std.proofs.lemmas.Map.Text.{is_eq-slice_cmp}
use Rattle.spiel_string.specs.Game.{Value}
use Rattle.spiel_string.specs.Insertion.{insert_pair}
use Rattle.spiel_string.specs.Sorted.{key_lt, put_pair, sorted}
use Rattle.spiel_string.specs.View.{params_of}
use Rattle.spiel_string.specs.WellFormed.{RisesFrom, Rises}

abbrev pub Order : List ℕ → List ℕ → Ordering
Order = slice_cmp nat_cmp

back : (a b : List ℕ) → Order a b ≡ Less → Order b a ≡ Greater
back a b h = nat_list_cmp_total.antisymm b a ∙ ap ordering_reverse h

pub below_is_other : (a b : List ℕ) → Order a b ≡ Less → bytes_eq b a ≡ false
below_is_other a b h = sym (is_eq-slice_cmp b a) ∙ ap is_eq (back a b h)

-- of two keys that differ, one stands before the other
pub apart : (k l : List ℕ) → bytes_eq k l ≡ false → key_lt k l ≡ false → Order l k ≡ Less
apart k l other not_below = go (Order k l) refl
  where
    go : (o : Ordering) → Order k l ≡ o → Order l k ≡ Less
    go Less e = absurd (true≢false (sym (ap is_lt e) ∙ not_below))
    go Equal e = absurd (true≢false (sym (ap is_eq e) ∙ is_eq-slice_cmp k l ∙ other))
    go Greater e = nat_list_cmp_total.antisymm l k ∙ ap ordering_reverse e

pub before : (k l : List ℕ) → key_lt k l ≡ true → Order k l ≡ Less
before k l h = go (Order k l) h
  where
    go : (o : Ordering) → is_lt o ≡ true → o ≡ Less
    go Less e = refl
    go o e = absurd (true≢false (sym e))

-- the keys after a pair is put in its place
pub insert_any : (k : List ℕ) (p : List ℕ × Value) (ps : List (List ℕ × Value))
    → list_any (λ (q : List ℕ × Value). bytes_eq k q.0) (insert_pair p ps) ≡ (bytes_eq k p.0 || list_any (λ (q : List ℕ × Value). bytes_eq k q.0) ps)
insert_any k p [] = refl
insert_any k p (q ∷ qs) = go (key_lt p.0 q.0) (insert_any k p qs)
  where
    swap : (a b c : Bool) → (a || (b || c)) ≡ (b || (a || c))
    swap true true c = refl
    swap true false c = refl
    swap false b c = refl

    go : (b : Bool) → list_any (λ (r : List ℕ × Value). bytes_eq k r.0) (insert_pair p qs) ≡ (bytes_eq k p.0 || list_any (λ (r : List ℕ × Value). bytes_eq k r.0) qs)
        → list_any (λ (r : List ℕ × Value). bytes_eq k r.0) (if b then p ∷ q ∷ qs else q ∷ insert_pair p qs)
        ≡ (bytes_eq k p.0 || (bytes_eq k q.0 || list_any (λ (r : List ℕ × Value). bytes_eq k r.0) qs))
    go true h = refl
    go false h = ap (λ u. bytes_eq k q.0 || u) h ∙ swap (bytes_eq k q.0) (bytes_eq k p.0) (list_any (λ (r : List ℕ × Value). bytes_eq k r.0) qs)

-- ---- pairs whose keys rise strictly

abbrev pub RiseFrom : {X : Type 0} → List ℕ → List (List ℕ × X) → Type 0
RiseFrom k [] = Unit {0}
RiseFrom k (q ∷ qs) = (Order k q.0 ≡ Less) × RiseFrom q.0 qs

abbrev pub Rise : {X : Type 0} → List (List ℕ × X) → Type 0
Rise [] = Unit {0}
Rise (p ∷ ps) = RiseFrom p.0 ps

put-first : {X : Type 0} (p : List ℕ × X) (ps : List (List ℕ × X)) → RiseFrom p.0 ps → put_pair p ps ≡ p ∷ ps
put-first p [] r = refl
put-first p (q ∷ qs) r = ap (λ b. if b then q ∷ put_pair p qs else p ∷ q ∷ qs) (ap is_lt (back p.0 q.0 r.0))

rise-rest : {X : Type 0} (k : List ℕ) (ps : List (List ℕ × X)) → RiseFrom k ps → Rise ps
rise-rest k [] r = tt
rise-rest k (p ∷ ps) r = r.1

-- they are sorted
pub sorted-rise : {X : Type 0} (ps : List (List ℕ × X)) → Rise ps → sorted ps ≡ ps
sorted-rise [] r = refl
sorted-rise (p ∷ ps) r = ap (put_pair p) (sorted-rise ps (rise-rest p.0 ps r)) ∙ put-first p ps r

-- ---- the same of parameters

params_rise : (b : List ℕ) (ps : List (List ℕ × Value)) → RiseFrom b ps → RisesFrom b (params_of ps)
params_rise b [] r = tt
params_rise b (p ∷ ps) r = (r.0, params_rise p.0 ps r.1)

pub Rises-params_of : (ps : List (List ℕ × Value)) → Rise ps → Rises (params_of ps)
Rises-params_of [] r = tt
Rises-params_of (p ∷ ps) r = params_rise p.0 ps r
