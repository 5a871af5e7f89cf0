-- Mentions in order: which sets are seen behind a mention, and what isn't in order.
use Rattle.std.proofs.Common.{◌≡◌, ℕ, zero, suc, ◌+◌, ◌<◌, ◌≤◌, Bool, true, false, ◌&&◌, List, [], ◌∷◌, ◌++◌, map, length, drop, get_or, Option, Some, None, refl, sym, ap, subst, ◌∙◌, arith, nat_le, nat_lt, ◌==◌, eq-eqb, if◌then◌else◌}
use Rattle.std.specs.Prelude.{fold, cond, not, position, unwrap_or}
use Rattle.std.specs.List.{cons_option, list_any, range_with_len}
use Rattle.std.proofs.lemmas.Bool.{false≢true, ne_eqb, eqb-true, eqb-false, ltb-true, ltb-false, leb-true, leb-false, le-leb, lt-leb}
use Rattle.std.proofs.lemmas.List.FromFn.{get_or-range_with_len, length-range_with_len}
use Rattle.std.proofs.lemmas.List.Folds.{list_any_at, list_any_none}
use Rattle.std.proofs.lemmas.List.{drop_all, get_or_append_left, get_or_past, length_push}
use Rattle.std.proofs.lemmas.List.Sums.{prefix_len-le-length}
use Rattle.std.proofs.Math.Seq.{get_or-append_seam}
use Rattle.spiel_efg.specs.declared.parts.EfgNode.{EfgNode}
use Rattle.spiel_efg.specs.declared.parts.EfgOutcome.{EfgOutcome}
use Rattle.spiel_efg.specs.declared.parts.NodeKind.{NodeKind}
use Rattle.spiel_efg.specs.declared.parts.NodeKind.TheVariants.{Chance, Personal, Terminal}
use Rattle.spiel_efg.proofs.Forests.{rest_is}
use Rattle.spiel_efg.specs.Mentions.{are_equal, begins_with, first_mentions, place_after, place_of, seen_after, set_of, sets_in, with_number}

-- ---- equal lists
pub equal_self : (xs : List ℕ) → are_equal xs xs ≡ true
equal_self [] = refl
equal_self (x ∷ xs) = rw (eq-eqb x x refl) (equal_self xs)

pub equal_true : (xs ys : List ℕ) → are_equal xs ys ≡ true → xs ≡ ys
equal_true [] [] e = refl
equal_true [] (y ∷ ys) e = absurd (false≢true e)
equal_true (x ∷ xs) [] e = absurd (false≢true e)
equal_true (x ∷ xs) (y ∷ ys) e = by (x == y) refl e (λ f. equal_true xs ys f)
  where
    by : (b : Bool) → (x == y) ≡ b → (b && are_equal xs ys) ≡ true → (are_equal xs ys ≡ true → xs ≡ ys) → x ∷ xs ≡ y ∷ ys
    by true t e later = let same : x ≡ y = eqb-true x y t in let rest = later e in cc
    by false t e later = absurd (false≢true e)

equal_false : (xs ys : List ℕ) → (xs ≡ ys → ⊥) → are_equal xs ys ≡ false
equal_false xs ys other = by (are_equal xs ys) refl
  where
    by : (b : Bool) → are_equal xs ys ≡ b → b ≡ false
    by true e = absurd (other (equal_true xs ys e))
    by false e = refl

-- ---- the first numbers
pub range_push : (from n : ℕ) → range_with_len from n ++ (from + n) ∷ [] ≡ range_with_len from (n + 1)
range_push from zero = let same : from + 0 ≡ from = omega arith in rw same refl
range_push from (suc n) =
    let next : suc n + 1 ≡ suc (n + 1) = omega arith in
    let last : from + suc n ≡ from + 1 + n = omega arith in
    rw (next, last) (ap (λ xs. from ∷ xs) (range_push (from + 1) n))

pub absent : (n p : ℕ) → n ≤ p → list_any (λ x. p == x) (range_with_len 0 n) ≡ false
absent n p l = list_any_none (λ x. p == x) (range_with_len 0 n)
    (λ k d m. let within : k < n = omega (arith, m, length-range_with_len 0 n) in ne_eqb p (get_or (range_with_len 0 n) k d) (λ e. omega (arith, get_or-range_with_len 0 n k d within)))

with_next : (n : ℕ) → with_number (range_with_len 0 n) n ≡ range_with_len 0 (n + 1)
with_next n =
    let zero_first : 0 + n ≡ n = omega arith in
    rw (absent n n (omega arith)) (subst (λ z. range_with_len 0 n ++ z ∷ [] ≡ range_with_len 0 (n + 1)) zero_first (range_push 0 n))

with_old : (n p : ℕ) → p < n → with_number (range_with_len 0 n) p ≡ range_with_len 0 n
with_old n p l =
    let there : list_any (λ x. p == x) (range_with_len 0 n) ≡ true = list_any_at (λ x. p == x) (range_with_len 0 n) p 0 (omega (arith, length-range_with_len 0 n))
    (eq-eqb p (get_or (range_with_len 0 n) p 0) (omega (arith, get_or-range_with_len 0 n p 0 l))) in
    rw there refl

with_far : (n p : ℕ) → n < p → with_number (range_with_len 0 n) p ≡ range_with_len 0 n ++ p ∷ []
with_far n p l = rw (absent n p (omega arith)) refl

-- ---- one mention more
step : (seen place after : ℕ) → Some after ≡ place_after seen place → with_number (range_with_len 0 seen) place ≡ range_with_len 0 after
step seen place after e = by (nat_lt place seen) refl e
  where
    next : (b : Bool) → (place == seen) ≡ b → Some after ≡ (if b then Some (seen + 1) else None) → with_number (range_with_len 0 seen) place ≡ range_with_len 0 after
    next true t e =
        let same : place ≡ seen = eqb-true place seen t in
        let more : after ≡ seen + 1 = cc in
        rw (same, more) (with_next seen)
    next false t e = absurd cc

    by : (b : Bool) → nat_lt place seen ≡ b → Some after ≡ (if b then Some seen else (if place == seen then Some (seen + 1) else None)) → with_number (range_with_len 0 seen) place ≡ range_with_len 0 after
    by true t e = let same : after ≡ seen = cc in rw same (with_old seen place (ltb-true place seen t))
    by false t e = next (place == seen) refl e

far : (seen place : ℕ) → None ≡ place_after seen place → seen < place
far seen place e = by (nat_lt place seen) refl e
  where
    next : (b : Bool) → nat_lt place seen ≡ false → (place == seen) ≡ b → None ≡ (if b then Some (seen + 1) else None) → seen < place
    next true u t e = absurd cc
    next false u t e = let one = ltb-false place seen u in let two = eqb-false place seen t in omega (arith, one, two)

    by : (b : Bool) → nat_lt place seen ≡ b → None ≡ (if b then Some seen else (if place == seen then Some (seen + 1) else None)) → seen < place
    by true t e = absurd cc
    by false t e = next (place == seen) t refl e

pub mention_step : (seen : ℕ) (node : EfgNode) (nodes : List EfgNode) (after : ℕ) → Some after ≡ seen_after seen node.kind → first_mentions (range_with_len 0 seen) (sets_in (node ∷ nodes)) ≡ first_mentions (range_with_len 0 after) (sets_in nodes)
mention_step seen node nodes after e = by node.kind e
  where
    by : (kind : NodeKind) → Some after ≡ seen_after seen kind → fold with_number (range_with_len 0 seen) (cons_option (set_of kind) (sets_in nodes)) ≡ fold with_number (range_with_len 0 after) (sets_in nodes)
    by (Chance place) e = ap (λ xs. fold with_number xs (sets_in nodes)) (step seen place after e)
    by (Personal place) e = ap (λ xs. fold with_number xs (sets_in nodes)) (step seen place after e)
    by Terminal e = let same : seen ≡ after = cc in rw same refl

-- ---- what was seen stays where it is
with_kept : (seen : List ℕ) (number k : ℕ) → k < length seen → (k < length (with_number seen number)) × (get_or (with_number seen number) k 0 ≡ get_or seen k 0)
with_kept seen number k l = by (list_any (λ x. number == x) seen)
  where
    by : (b : Bool) → (k < length (if b then seen else (seen ++ number ∷ []))) × (get_or (if b then seen else (seen ++ number ∷ [])) k 0 ≡ get_or seen k 0)
    by true = (l, refl)
    by false = (omega (arith, l, length_push seen number), get_or_append_left seen (number ∷ []) 0 k l)

pub kept : (seen numbers : List ℕ) (k : ℕ) → k < length seen → get_or (first_mentions seen numbers) k 0 ≡ get_or seen k 0
kept seen [] k l = refl
kept seen (number ∷ numbers) k l = let one = with_kept seen number k l in kept (with_number seen number) numbers k one.0 ∙ one.1

last_there : (n p : ℕ) → get_or (range_with_len 0 n ++ p ∷ []) n 0 ≡ p
last_there n p = subst (λ k. get_or (range_with_len 0 n ++ p ∷ []) k 0 ≡ p) (length-range_with_len 0 n) (get_or-append_seam (range_with_len 0 n) p [] 0)

ranged : (count k : ℕ) → get_or (range_with_len 0 count) k 0 ≤ k
ranged count k = by (nat_lt k count) refl
  where
    by : (b : Bool) → nat_lt k count ≡ b → get_or (range_with_len 0 count) k 0 ≤ k
    by true e = omega (arith, get_or-range_with_len 0 count k 0 (ltb-true k count e))
    by false e = omega (arith, get_or_past (range_with_len 0 count) k 0 (omega (arith, ltb-false k count e, length-range_with_len 0 count)))

out_of_order : (seen place count : ℕ) (more : List ℕ) → seen < place → are_equal (first_mentions (with_number (range_with_len 0 seen) place) more) (range_with_len 0 count) ≡ false
out_of_order seen place count more l = rw (with_far seen place l) (equal_false (first_mentions (range_with_len 0 seen ++ place ∷ []) more) (range_with_len 0 count)
    (λ e. let at = kept (range_with_len 0 seen ++ place ∷ []) more seen (omega (arith, length_push (range_with_len 0 seen) place, length-range_with_len 0 seen)) in
    let same = ap (λ xs. get_or xs seen 0) e in
    omega (arith, at, same, last_there seen place, ranged count seen)))

pub late : (seen count : ℕ) (node : EfgNode) (nodes : List EfgNode) → None ≡ seen_after seen node.kind → are_equal (first_mentions (range_with_len 0 seen) (sets_in (node ∷ nodes))) (range_with_len 0 count) ≡ false
late seen count node nodes e = by node.kind e
  where
    by : (kind : NodeKind) → None ≡ seen_after seen kind → are_equal (fold with_number (range_with_len 0 seen) (cons_option (set_of kind) (sets_in nodes))) (range_with_len 0 count) ≡ false
    by (Chance place) e = out_of_order seen place count (sets_in nodes) (far seen place e)
    by (Personal place) e = out_of_order seen place count (sets_in nodes) (far seen place e)
    by Terminal e = absurd cc

pub same_ranges : (seen count : ℕ) → (seen == count) ≡ are_equal (range_with_len 0 seen) (range_with_len 0 count)
same_ranges seen count = by (seen == count) refl
  where
    by : (b : Bool) → (seen == count) ≡ b → b ≡ are_equal (range_with_len 0 seen) (range_with_len 0 count)
    by true e = let same : seen ≡ count = eqb-true seen count e in rw same (sym (equal_self (range_with_len 0 count)))
    by false e = sym (equal_false (range_with_len 0 seen) (range_with_len 0 count)
        (λ f. let other = eqb-false seen count e in omega (arith, other, ap length f, length-range_with_len 0 seen, length-range_with_len 0 count)))

-- ---- numbers that are compared one by one
pub equal_next : (xs : List ℕ) (k y : ℕ) (ys : List ℕ) → are_equal (drop k xs) (y ∷ ys) ≡ (begins_with (drop k xs) y && are_equal (drop (k + 1) xs) ys)
equal_next [] k y ys = by k
  where
    by : (k : ℕ) → are_equal (drop k []) (y ∷ ys) ≡ (begins_with (drop k []) y && are_equal (drop (k + 1) []) ys)
    by zero = refl
    by (suc k) = refl
equal_next (x ∷ xs) zero y ys = refl
equal_next (x ∷ xs) (suc k) y ys = let next : suc k + 1 ≡ suc (k + 1) = omega arith in rw next (equal_next xs k y ys)

le_suc : (a b : ℕ) → nat_le a b ≡ nat_le (suc a) (suc b)
le_suc a b = by (nat_le a b) refl
  where
    by : (t : Bool) → nat_le a b ≡ t → t ≡ nat_le (suc a) (suc b)
    by true e = sym (le-leb (suc a) (suc b) (omega (arith, leb-true a b e)))
    by false e = sym (lt-leb (suc a) (suc b) (omega (arith, leb-false a b e)))

pub equal_end : (xs : List ℕ) (k : ℕ) → are_equal (drop k xs) [] ≡ nat_le (length xs) k
equal_end [] k = by k
  where
    by : (k : ℕ) → are_equal (drop k []) [] ≡ nat_le 0 k
    by zero = refl
    by (suc k) = sym (le-leb 0 (suc k) (omega arith))
equal_end (x ∷ xs) zero = sym (lt-leb (length (x ∷ xs)) 0 (omega arith))
equal_end (x ∷ xs) (suc k) = equal_end xs k ∙ le_suc (length xs) k

-- ---- from a place on
pub mention_at : (nodes : List EfgNode) (node : EfgNode) (i seen after : ℕ) → i < length nodes → node ≡ get_or nodes i node → Some after ≡ seen_after seen node.kind
    → first_mentions (range_with_len 0 seen) (sets_in (drop i nodes)) ≡ first_mentions (range_with_len 0 after) (sets_in (drop (i + 1) nodes))
mention_at nodes node i seen after l e f =
    ap (λ xs. first_mentions (range_with_len 0 seen) (sets_in xs)) (rest_is nodes i node l ∙ ap (λ x. x ∷ drop (i + 1) nodes) (sym e))
    ∙ mention_step seen node (drop (i + 1) nodes) after f

pub late_at : (nodes : List EfgNode) (node : EfgNode) (i seen count : ℕ) → i < length nodes → node ≡ get_or nodes i node → None ≡ seen_after seen node.kind
    → are_equal (first_mentions (range_with_len 0 seen) (sets_in (drop i nodes))) (range_with_len 0 count) ≡ false
late_at nodes node i seen count l e f =
    ap (λ xs. are_equal (first_mentions (range_with_len 0 seen) (sets_in xs)) (range_with_len 0 count)) (rest_is nodes i node l ∙ ap (λ x. x ∷ drop (i + 1) nodes) (sym e))
    ∙ late seen count node (drop (i + 1) nodes) f

pub in_order_end : (nodes : List EfgNode) (i seen count : ℕ) → length nodes ≤ i
    → are_equal (first_mentions (range_with_len 0 seen) (sets_in (drop i nodes))) (range_with_len 0 count) ≡ (seen == count)
in_order_end nodes i seen count l =
    ap (λ xs. are_equal (first_mentions (range_with_len 0 seen) (sets_in xs)) (range_with_len 0 count)) (drop_all i nodes l)
    ∙ sym (same_ranges seen count)

-- the numbers of outcomes from a place on
pub numbered_at : (seen : List ℕ) (outcomes : List EfgOutcome) (outcome : EfgOutcome) (k : ℕ) → k < length outcomes → outcome ≡ get_or outcomes k outcome
    → are_equal (drop (k + 1) seen) (map (λ outcome. outcome.number) (drop k outcomes)) ≡ (begins_with (drop (k + 1) seen) outcome.number && are_equal (drop (k + 1 + 1) seen) (map (λ outcome. outcome.number) (drop (k + 1) outcomes)))
numbered_at seen outcomes outcome k l e =
    ap (λ xs. are_equal (drop (k + 1) seen) (map (λ outcome. outcome.number) xs)) (rest_is outcomes k outcome l ∙ ap (λ x. x ∷ drop (k + 1) outcomes) (sym e))
    ∙ equal_next seen (k + 1) outcome.number (map (λ outcome. outcome.number) (drop (k + 1) outcomes))

pub numbered_end : (seen : List ℕ) (outcomes : List EfgOutcome) (k : ℕ) → k ≡ length outcomes
    → are_equal (drop (k + 1) seen) (map (λ outcome. outcome.number) (drop k outcomes)) ≡ nat_le (length seen) (length outcomes + 1)
numbered_end seen outcomes k e =
    ap (λ xs. are_equal (drop (k + 1) seen) (map (λ outcome. outcome.number) xs)) (drop_all k outcomes (omega arith))
    ∙ equal_end seen (k + 1) ∙ ap (λ n. nat_le (length seen) (n + 1)) e

-- the first of the place
pub placed : (answer : Option ℕ) (number place : ℕ) (numbers seen : List ℕ) → answer ≡ position (λ x. number == x) numbers → place ≡ unwrap_or answer (length numbers) → numbers ≡ seen → place ≡ place_of seen number
placed answer number place numbers seen e f same = f ∙ ap (λ o. unwrap_or o (length numbers)) e ∙ by (nat_lt (place_of numbers number) (length numbers)) refl ∙ ap (λ xs. place_of xs number) same
  where
    by : (b : Bool) → nat_lt (place_of numbers number) (length numbers) ≡ b → unwrap_or (cond b (Some (place_of numbers number)) None) (length numbers) ≡ place_of numbers number
    by true t = refl
    by false t = let one = ltb-false (place_of numbers number) (length numbers) t in omega (arith, one, prefix_len-le-length (λ x. not (number == x)) numbers)
