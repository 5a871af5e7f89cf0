-- What is read is well formed.
use Rattle.std.proofs.Common.{◌≡◌, ◌<◌, ◌≤◌, ◌^◌, ℕ, zero, suc, max, Bool, true, false, List, [], ◌∷◌, ◌++◌, drop, refl, sym, ◌∙◌, ap, Option, Some, None, arith, subst, ℤ, pos, neg_ℤ, Result, Ok, Err}
use Rattle.std.specs.Prelude.{◌||◌, if◌then◌else◌, unsigned_abs, IfOk}
use Rattle.std.specs.List.{list_any}
use Rattle.std.specs.Str.{bytes_eq}
use Rattle.std.specs.Str.Parse.{digits_value}
use Rattle.std.specs.declared.cmp.Ordering.TheVariants.{Less}
use Rattle.std.proofs.lemmas.Bool.{true≢false}
use Rattle.spiel_string.specs.Alphabet.{is_name, is_word, spaces}
use Rattle.spiel_string.specs.Game.{Game, game, Params, no_params, param, Value, int, flag, word, inner}
use Rattle.spiel_string.specs.Grammar.{Node, leaf, call, Brackets, empty, filled, Entries, one, and, past_key, spell, spell_entries, IsProper, AreBracketsProper, AreEntriesProper, IsProperTop}
use Rattle.spiel_string.specs.Nesting.{nesting, brackets_nesting, entries_nesting}
use Rattle.spiel_string.specs.Reading.{IsRead}
use Rattle.spiel_string.specs.Repeats.{again, second_keys, second_brackets, second_entries}
use Rattle.spiel_string.specs.Insertion.{insert_pair}
use Rattle.spiel_string.specs.Sorted.{key_lt, sorted}
use Rattle.spiel_string.specs.Values.{are_digits, digits_of, whole_of, word_value, number_or, number_of, is_negative, value_of, brackets_params, entries_params, game_of, is_true, is_false}
use Rattle.spiel_string.specs.View.{params_of, view}
use Rattle.spiel_string.specs.WellFormed.{IsWellValue, IsWell, AreWell, value_depth, game_depth, params_depth, IsWellFormed, EachGame, EachGameIn, EachGameOf}
use Rattle.spiel_string.specs.declared.value.GameText.{GameText}
use Rattle.spiel_string.proofs.Digits.{digits_small}
use Rattle.spiel_string.proofs.KeyOrder.{Order, RiseFrom, Rise, apart, before, insert_any, Rises-params_of}
use Rattle.spiel_string.proofs.Sorting.{sorted_onto, sorted_onto-none}

-- ---- words

digits_of-small : (ds : List ℕ) (n : ℕ) → digits_of ds ≡ Some n → n < 10 ^ 18
digits_of-small ds n h = go (are_digits ds) refl h
  where
    go : (b : Bool) → are_digits ds ≡ b → (if b then Some (digits_value 10 ds) else None) ≡ Some n → n < 10 ^ 18
    go true a e = let f : digits_value 10 ds ≡ n = cc in let s = digits_small ds a in omega (arith, f, s)
    go false a e = absurd (let bad : None ≡ Some n = e in cc)

abs-neg : (n : ℕ) → unsigned_abs (neg_ℤ (pos n)) ≡ n
abs-neg zero = refl
abs-neg (suc n) = refl

number_small : (b : Bool) (ds : List ℕ) (z : ℤ) → number_of b (digits_of ds) ≡ Some z → unsigned_abs z < 10 ^ 18
number_small b ds z h = go b (digits_of ds) refl h
  where
    go : (c : Bool) (o : Option ℕ) → digits_of ds ≡ o → number_of c o ≡ Some z → unsigned_abs z < 10 ^ 18
    go c None e q = absurd (let bad : None ≡ Some z = q in cc)
    go true (Some n) e q =
        let f : neg_ℤ (pos n) ≡ z = cc in let g : unsigned_abs z ≡ n = ap unsigned_abs (sym f) ∙ abs-neg n in let lt = digits_of-small ds n e in omega (arith, g, lt)
    go false (Some n) e q =
        let f : pos n ≡ z = cc in let g : unsigned_abs z ≡ n = ap unsigned_abs (sym f) in let lt = digits_of-small ds n e in omega (arith, g, lt)

whole_small : (w : List ℕ) (z : ℤ) → whole_of w ≡ Some z → unsigned_abs z < 10 ^ 18
whole_small w z h = go (is_negative w) h
  where
    go : (b : Bool) → (if b then number_of true (digits_of (drop 1 w)) else number_of false (digits_of w)) ≡ Some z → unsigned_abs z < 10 ^ 18
    go true q = number_small true (drop 1 w) z q
    go false q = number_small false w z q

-- a value that is well formed, and how deep it is
abbrev Sound : Value → ℕ → Type 0
Sound v depth = IsWellValue v × (value_depth v ≡ depth)

sound-word : (w : List ℕ) → is_word w ≡ true → Sound (word_value w) 0
unfolding word_value
sound-word w h = go (whole_of w) (is_true w) (is_false w) refl refl refl
  where
    go : (o : Option ℤ) (b c : Bool) → whole_of w ≡ o → is_true w ≡ b → is_false w ≡ c → Sound (number_or o (if b then flag true else (if c then flag false else word w))) 0
    go (Some z) b c p q r = (whole_small w z p, refl)
    go None true c p q r = (tt, refl)
    go None false true p q r = (tt, refl)
    go None false false p q r = ((h, p, q, r), refl)

-- ---- lists of parameters

abbrev Pairs : Type 0
Pairs = List (List ℕ × Value)

abbrev AllWell : Pairs → Type 0
AllWell [] = Unit {0}
AllWell (p ∷ ps) = (is_name p.0 ≡ true) × IsWellValue p.1 × AllWell ps

abbrev depth_list : Pairs → ℕ
depth_list [] = 0
depth_list (p ∷ ps) = max (value_depth p.1) (depth_list ps)

abbrev has_key : List ℕ → Pairs → Bool
has_key k ps = list_any (λ (p : List ℕ × Value). bytes_eq k p.0) ps

neither : (a b : Bool) → (a || b) ≡ false → (a ≡ false) × (b ≡ false)
neither true b h = absurd (true≢false h)
neither false b h = (refl, h)

insert-rises : (b : List ℕ) (p : List ℕ × Value) (qs : Pairs) → Order b p.0 ≡ Less → RiseFrom b qs → has_key p.0 qs ≡ false → RiseFrom b (insert_pair p qs)
insert-rises b p [] lt r f = (lt, tt)
insert-rises b p (q ∷ qs) lt r f =
    let other = neither (bytes_eq p.0 q.0) _ f in go (key_lt p.0 q.0) refl other.0 (λ h. insert-rises q.0 p qs h r.1 other.1)
  where
    go : (c : Bool) → key_lt p.0 q.0 ≡ c → bytes_eq p.0 q.0 ≡ false → (Order q.0 p.0 ≡ Less → RiseFrom q.0 (insert_pair p qs)) → RiseFrom b (if c then p ∷ q ∷ qs else q ∷ insert_pair p qs)
    go true e other next = (lt, (before p.0 q.0 e, r.1))
    go false e other next = (r.0, next (apart p.0 q.0 other e))

insert-rise : (p : List ℕ × Value) (qs : Pairs) → Rise qs → has_key p.0 qs ≡ false → Rise (insert_pair p qs)
insert-rise p [] r f = tt
insert-rise p (q ∷ qs) r f = let other = neither (bytes_eq p.0 q.0) _ f in go (key_lt p.0 q.0) refl other.0 other.1
  where
    go : (c : Bool) → key_lt p.0 q.0 ≡ c → bytes_eq p.0 q.0 ≡ false → has_key p.0 qs ≡ false → Rise (if c then p ∷ q ∷ qs else q ∷ insert_pair p qs)
    go true e other none = (before p.0 q.0 e, r)
    go false e other none = insert-rises q.0 p qs (apart p.0 q.0 other e) r none

insert-well : (p : List ℕ × Value) (qs : Pairs) → is_name p.0 ≡ true → IsWellValue p.1 → AllWell qs → AllWell (insert_pair p qs)
insert-well p [] n w a = (n, w, tt)
insert-well p (q ∷ qs) n w a = go (key_lt p.0 q.0) (insert-well p qs n w a.2)
  where
    go : (c : Bool) → AllWell (insert_pair p qs) → AllWell (if c then p ∷ q ∷ qs else q ∷ insert_pair p qs)
    go true h = (n, w, a)
    go false h = (a.0, a.1, h)

insert-depth : (p : List ℕ × Value) (qs : Pairs) → depth_list (insert_pair p qs) ≡ max (value_depth p.1) (depth_list qs)
insert-depth p [] = refl
insert-depth p (q ∷ qs) = go (key_lt p.0 q.0) (insert-depth p qs)
  where
    swap : (x y z u : ℕ) → u ≡ max x z → max y u ≡ max x (max y z)
    swap x y z u h = omega (arith, h)

    go : (c : Bool) → depth_list (insert_pair p qs) ≡ max (value_depth p.1) (depth_list qs)
        → depth_list (if c then p ∷ q ∷ qs else q ∷ insert_pair p qs) ≡ max (value_depth p.1) (max (value_depth q.1) (depth_list qs))
    go true h = refl
    go false h = swap (value_depth p.1) (value_depth q.1) (depth_list qs) _ h

-- what parameters in order have
record Good (ps : Pairs) (depth : ℕ) : Type 0 where
  rises : Rise ps
  well : AllWell ps
  deep : depth_list ps ≡ depth

AreWell-params_of : (ps : Pairs) → AllWell ps → AreWell (params_of ps)
AreWell-params_of [] a = tt
AreWell-params_of (p ∷ ps) a = (a.0, a.1, AreWell-params_of ps a.2)

params_depth-params_of : (ps : Pairs) → params_depth (params_of ps) ≡ depth_list ps
params_depth-params_of [] = refl
params_depth-params_of (p ∷ ps) = ap (max (value_depth p.1)) (params_depth-params_of ps)

-- ---- trees

nothing_in : (xs ys : List (List ℕ)) → xs ++ ys ≡ [] → (xs ≡ []) × (ys ≡ [])
nothing_in [] ys h = (refl, h)
nothing_in (x ∷ xs) ys h = absurd (let bad : x ∷ (xs ++ ys) ≡ [] = h in cc)

fresh : (seen : List (List ℕ)) (k rest : List ℕ) → again seen k rest ≡ [] → list_any (bytes_eq k) seen ≡ false
fresh seen k rest h = go (list_any (bytes_eq k) seen) h
  where
    go : (b : Bool) → (if b then (k ++ rest) ∷ [] else []) ≡ [] → b ≡ false
    go true e = absurd (let bad : (k ++ rest) ∷ [] ≡ [] = e in cc)
    go false e = refl

put_in : (done : Pairs) (d : ℕ) (k : List ℕ) (v : Node) → Good done d → is_name k ≡ true → Sound (value_of v) (nesting v) → has_key k done ≡ false
    → Good (insert_pair (k, value_of v) done) (max (nesting v) d)
put_in done d k v g n w f = record {
  rises = insert-rise (k, value_of v) done g.rises f;
  well = insert-well (k, value_of v) done n w.0 g.well;
  deep = insert-depth (k, value_of v) done ∙ ap (λ u. max u (depth_list done)) w.1 ∙ ap (max (nesting v)) g.deep;
}

max_swap : (x d y : ℕ) → max y (max x d) ≡ max (max x y) d
max_swap x d y = omega arith

max_zero : (n : ℕ) → max n 0 ≡ n
max_zero n = omega arith

mutual
  sound_node : (v : Node) (rest : List ℕ) → IsProper v → second_keys v rest ≡ [] → Sound (value_of v) (nesting v)
  sound_node (leaf w n) rest h s = sound-word w h
  sound_node (call w n ps m) rest h s =
      let g = good_brackets ps (41 ∷ spaces m rest) h.1 s in (
        (h.0, Rises-params_of (sorted (brackets_params ps)) g.rises, AreWell-params_of (sorted (brackets_params ps)) g.well),
        ap (λ u. suc u) (params_depth-params_of (sorted (brackets_params ps)) ∙ g.deep),
      )

  good_brackets : (ps : Brackets) (rest : List ℕ) → AreBracketsProper ps → second_brackets ps rest ≡ [] → Good (sorted (brackets_params ps)) (brackets_nesting ps)
  good_brackets (empty n) rest h s = record { rises = tt; well = tt; deep = refl }
  good_brackets (filled es) rest h s =
      let g = good_entries [] [] 0 es rest (record { rises = tt; well = tt; deep = refl }) (λ k. refl) h s in
      subst (λ ps. Good ps (entries_nesting es)) (sorted_onto-none (entries_params es))
      (record { rises = g.rises; well = g.well; deep = g.deep ∙ max_zero (entries_nesting es) })

  good_entries : (seen : List (List ℕ)) (done : Pairs) (d : ℕ) (es : Entries) (rest : List ℕ) → Good done d → ((k : List ℕ) → has_key k done ≡ list_any (bytes_eq k) seen)
      → AreEntriesProper es → second_entries seen es rest ≡ [] → Good (sorted_onto done (entries_params es)) (max (entries_nesting es) d)
  good_entries seen done d (one head v) rest g same h s =
      let none = nothing_in (again seen head.key (past_key head (spell v rest))) _ s in
      put_in done d head.key v g h.0 (sound_node v rest h.1 none.1) (same head.key ∙ fresh seen head.key (past_key head (spell v rest)) none.0)
  good_entries seen done d (and head v es) rest g same h s =
      let tail : List ℕ = 44 ∷ spell_entries es rest in
      let none = nothing_in (again seen head.key (past_key head (spell v tail))) _ s in
      let later = nothing_in (second_keys v tail) _ none.1 in
      let first = put_in done d head.key v g h.0 (sound_node v tail h.1 later.0) (same head.key ∙ fresh seen head.key (past_key head (spell v tail)) none.0) in
      let more = good_entries (head.key ∷ seen) (insert_pair (head.key, value_of v) done) (max (nesting v) d) es rest first
      (λ k. insert_any k (head.key, value_of v) done ∙ ap (λ u. bytes_eq k head.key || u) (same k)) h.2 later.1 in
      record { rises = more.rises; well = more.well; deep = more.deep ∙ max_swap (nesting v) d (entries_nesting es) }

-- what is read is well formed
pub well_read : (text : List ℕ) (g : Game) → IsRead text g → IsWellFormed g
well_read text g r = subst IsWellFormed (sym r.value) (top r.tree.top r.spells.proper r.once r.shallow)
  where
    top : (v : Node) → IsProperTop v → second_keys v [] ≡ [] → nesting v ≤ 8 → IsWellFormed (game_of v)
    top (leaf w n) h s le = record { well = (h, tt, tt); shallow = omega arith }
    top (call w n ps m) h s le =
        let sound = sound_node (call w n ps m) [] h s in record { well = sound.0; shallow = (let e = sound.1 in omega (arith, e, le)) }

-- each game inside a well formed one is well formed
mutual
  each_game : (g : Game) → IsWell g → game_depth g ≤ 8 → EachGame IsWellFormed g
  each_game (game name ps) w le = (record { well = w; shallow = le }, each_param ps w.2 (omega arith))

  each_param : (ps : Params) → AreWell ps → params_depth ps ≤ 8 → EachGameIn IsWellFormed ps
  each_param no_params w le = tt
  each_param (param k v ps) w le = (each_value v w.1 (omega arith), each_param ps w.2 (omega arith))

  each_value : (v : Value) → IsWellValue v → value_depth v ≤ 8 → EachGameOf IsWellFormed v
  each_value (inner g) w le = each_game g w le
  each_value (int n) w le = tt
  each_value (flag b) w le = tt
  each_value (word x) w le = tt

pub inside_well_formed : (g : Game) → IsWellFormed g → EachGame IsWellFormed g
inside_well_formed g w = each_game g w.well w.shallow

pub answer_is_well : {E : Type 0} (text : List ℕ) (r : Result GameText E) → IfOk r (λ read. IsRead text (view read)) → IfOk r (λ read. EachGame IsWellFormed (view read))
answer_is_well text (Ok read) h = inside_well_formed (view read) (well_read text (view read) h)
answer_is_well text (Err e) h = tt
