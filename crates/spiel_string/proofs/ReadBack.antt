-- The canonical text of a well formed value reads back as that value.
use Rattle.std.proofs.Common.{◌≡◌, ◌<◌, ◌≤◌, ◌^◌, ℕ, zero, suc, max, true, false, eqb, ltb, leb, List, [], ◌∷◌, ◌++◌, length, drop, refl, sym, ◌∙◌, ap, append_assoc, append-nil, Some, None, arith, ℤ, pos, negsuc}
use Rattle.std.specs.Prelude.{◌||◌, if◌then◌else◌, codes, unsigned_abs}
use Rattle.std.specs.Char.{is_ascii_digit}
use Rattle.std.specs.List.{list_all, list_any}
use Rattle.std.specs.Str.{bytes_eq}
use Rattle.std.specs.Str.Parse.{digits_value}
use Rattle.std.specs.Fmt.{decimal, signed_decimal}
use Rattle.std.specs.declared.cmp.Ordering.TheVariants.{Less}
use Rattle.std.proofs.lemmas.Bool.{and_from, and_parts, or_left, or_right, lt-ltb, le-leb}
use Rattle.std.proofs.lemmas.Bool.Decides.{nat_tests}
use Rattle.std.proofs.lemmas.Cmp.{nat_list_cmp_total}
use Rattle.spiel_string.specs.Alphabet.{is_name, is_word, is_word_byte, is_name_byte, is_lower}
use Rattle.spiel_string.specs.Canonical.{joined, value_text, game_text, params_entries}
use Rattle.spiel_string.specs.Game.{Game, game, Params, no_params, param, Value, int, flag, word, inner}
use Rattle.spiel_string.specs.Grammar.{Head, Node, leaf, call, Brackets, empty, filled, Entries, one, and, spell, spell_brackets, spell_entries, IsProper, AreBracketsProper, AreEntriesProper, IsProperTop}
use Rattle.spiel_string.specs.Nesting.{nesting, brackets_nesting, entries_nesting}
use Rattle.spiel_string.specs.Reading.{IsRead}
use Rattle.spiel_string.specs.Repeats.{again, second_keys, second_brackets, second_entries}
use Rattle.spiel_string.specs.Sorted.{sorted}
use Rattle.spiel_string.specs.Values.{are_digits, digits_of, is_negative, number_of, whole_of, is_true, is_false, flag_or_word, number_or, word_value, value_of, brackets_params, entries_params, game_of}
use Rattle.spiel_string.specs.View.{params_of}
use Rattle.spiel_string.specs.WellFormed.{RisesFrom, Rises, IsWellValue, IsWell, AreWell, value_depth, game_depth, params_depth, IsWellFormed}
use Rattle.spiel_frac.proofs.Numerals.{decimal_digits, decimal_short, decimal_some, decimal_value}
use Rattle.spiel_string.proofs.KeyOrder.{Order, RiseFrom, below_is_other, sorted-rise}

-- ---- the tree of a value, with no spaces

abbrev head_of : List ℕ → Head
head_of key = record { before_key = zero; key = key; after_key = zero; after_equals = zero }

abbrev mutual
  value_tree : Value → Node
  value_tree (int n) = leaf (signed_decimal n) zero
  value_tree (flag true) = leaf (codes "True") zero
  value_tree (flag false) = leaf (codes "False") zero
  value_tree (word w) = leaf w zero
  value_tree (inner g) = game_tree g

  game_tree : Game → Node
  game_tree (game name ps) = call name zero (params_tree ps) zero

  params_tree : Params → Brackets
  params_tree no_params = empty zero
  params_tree (param key v ps) = filled (entries_tree key (value_tree v) ps)

  entries_tree : List ℕ → Node → Params → Entries
  entries_tree key n no_params = one (head_of key) n
  entries_tree key n (param next v ps) = and (head_of key) n (entries_tree next (value_tree v) ps)

-- ---- its keys are in order

entries-rise : (k : List ℕ) (ps : Params) → RisesFrom k ps → RiseFrom k (params_entries ps)
entries-rise k no_params r = tt
entries-rise k (param l v ps) r = (r.0, entries-rise l ps r.1)

sorted-entries : (ps : Params) → Rises ps → sorted (params_entries ps) ≡ params_entries ps
sorted-entries no_params r = refl
sorted-entries (param k v ps) r = sorted-rise ((k, value_text v) ∷ params_entries ps) (entries-rise k ps r)

-- the parameters as a list
abbrev list_of : Params → List (List ℕ × Value)
list_of no_params = []
list_of (param key v ps) = (key, v) ∷ list_of ps

list-rise : (k : List ℕ) (ps : Params) → RisesFrom k ps → RiseFrom k (list_of ps)
list-rise k no_params r = tt
list-rise k (param l v ps) r = (r.0, list-rise l ps r.1)

params_of-list_of : (ps : Params) → params_of (list_of ps) ≡ ps
params_of-list_of no_params = refl
params_of-list_of (param k v ps) = ap (param k v) (params_of-list_of ps)

params_of-sorted : (ps : Params) → Rises ps → params_of (sorted (list_of ps)) ≡ ps
params_of-sorted no_params r = refl
params_of-sorted (param k v ps) r = ap params_of (sorted-rise ((k, v) ∷ list_of ps) (list-rise k ps r)) ∙ params_of-list_of (param k v ps)

-- ---- it spells the canonical text

mutual
  spell-value : (v : Value) → IsWellValue v → (rest : List ℕ) → spell (value_tree v) rest ≡ value_text v ++ rest
  spell-value (int n) w rest = refl
  spell-value (flag true) w rest = refl
  spell-value (flag false) w rest = refl
  spell-value (word x) w rest = refl
  spell-value (inner g) w rest = spell-game g w rest

  spell-game : (g : Game) → IsWell g → (rest : List ℕ) → spell (game_tree g) rest ≡ game_text g ++ rest
  spell-game (game name ps) w rest =
      ap (λ u. name ++ 40 ∷ u) (spell-params ps w.2 (41 ∷ rest))
      ∙ ap (λ u. name ++ 40 ∷ (joined u ++ 41 ∷ rest)) (sym (sorted-entries ps w.1))
      ∙ ap (λ u. name ++ 40 ∷ u) (sym (append_assoc (joined (sorted (params_entries ps))) (41 ∷ []) rest))
      ∙ sym (append_assoc name (40 ∷ (joined (sorted (params_entries ps)) ++ 41 ∷ [])) rest)

  spell-params : (ps : Params) → AreWell ps → (rest : List ℕ) → spell_brackets (params_tree ps) rest ≡ joined (params_entries ps) ++ rest
  spell-params no_params w rest = refl
  spell-params (param k v ps) w rest = spell-entries k (value_tree v) (value_text v) (spell-value v w.1) ps w.2 rest

  spell-entries : (k : List ℕ) (n : Node) (t : List ℕ) → ((rest : List ℕ) → spell n rest ≡ t ++ rest) → (ps : Params) → AreWell ps → (rest : List ℕ)
      → spell_entries (entries_tree k n ps) rest ≡ joined ((k, t) ∷ params_entries ps) ++ rest
  spell-entries k n t h no_params w rest = ap (λ u. k ++ 61 ∷ u) (h rest) ∙ sym (append_assoc k (61 ∷ t) rest)
  spell-entries k n t h (param l v ps) w rest =
      ap (λ u. k ++ 61 ∷ spell n (44 ∷ u)) (spell-entries l (value_tree v) (value_text v) (spell-value v w.1) ps w.2 rest)
      ∙ ap (λ u. k ++ 61 ∷ u) (h (44 ∷ (joined ((l, value_text v) ∷ params_entries ps) ++ rest)))
      ∙ ap (λ u. k ++ 61 ∷ u) (sym (append_assoc t (44 ∷ joined ((l, value_text v) ∷ params_entries ps)) rest))
      ∙ sym (append_assoc k (61 ∷ (t ++ 44 ∷ joined ((l, value_text v) ∷ params_entries ps))) rest)

-- ---- whole numbers

small_64 : (n : ℕ) → n < 10 ^ 18 → n < 2 ^ 64
small_64 n h = omega arith

digits_of-decimal : (n : ℕ) → n < 10 ^ 18 → digits_of (decimal n) ≡ Some n
digits_of-decimal n h =
    let some : 0 < length (decimal n) = decimal_some n (small_64 n h) in
    let few : length (decimal n) ≤ 18 = decimal_short n h in
    let all : are_digits (decimal n) ≡ true =
    and_from (ltb 0 (length (decimal n))) _ (lt-ltb 0 (length (decimal n)) some)
    (and_from (leb (length (decimal n)) 18) _ (le-leb (length (decimal n)) 18 few) (decimal_digits n (small_64 n h))) in
    ap (λ b. if b then Some (digits_value 10 (decimal n)) else None) all ∙ ap (λ u. Some u) (decimal_value n (small_64 n h))

not_negative : (ds : List ℕ) → list_all is_ascii_digit ds ≡ true → is_negative ds ≡ false
not_negative [] h = refl
not_negative (x ∷ xs) h = not_45 x (and_parts (is_ascii_digit x) _ h).0
  where
    not_45 : (x : ℕ) → is_ascii_digit x ≡ true → eqb x 45 ≡ false
    not_45 x h = grind (arith, nat_tests)

whole_of-signed : (z : ℤ) → unsigned_abs z < 10 ^ 18 → whole_of (signed_decimal z) ≡ Some z
whole_of-signed (pos n) h =
    ap (λ b. if b then number_of true (digits_of (drop 1 (decimal n))) else number_of false (digits_of (decimal n))) (not_negative (decimal n) (decimal_digits n (small_64 n h)))
    ∙ ap (number_of false) (digits_of-decimal n h)
whole_of-signed (negsuc n) h = ap (number_of true) (digits_of-decimal (suc n) h)

word_of_digits : (ds : List ℕ) → list_all is_ascii_digit ds ≡ true → list_all is_word_byte ds ≡ true
word_of_digits [] h = refl
word_of_digits (x ∷ xs) h =
    let parts = and_parts (is_ascii_digit x) _ h in
    and_from (is_word_byte x) _ (or_left (is_name_byte x) _ (or_right (is_lower x) _ (or_left (is_ascii_digit x) _ parts.0))) (word_of_digits xs parts.1)

is_word-digits : (ds : List ℕ) → 0 < length ds → list_all is_ascii_digit ds ≡ true → is_word ds ≡ true
is_word-digits [] some h = absurd (omega arith)
is_word-digits (x ∷ xs) some h = word_of_digits (x ∷ xs) h

is_word-signed : (z : ℤ) → unsigned_abs z < 10 ^ 18 → is_word (signed_decimal z) ≡ true
is_word-signed (pos n) h = is_word-digits (decimal n) (decimal_some n (small_64 n h)) (decimal_digits n (small_64 n h))
is_word-signed (negsuc n) h = word_of_digits (decimal (suc n)) (decimal_digits (suc n) (small_64 (suc n) h))

-- ---- its names are names and its words are words

mutual
  proper-value : (v : Value) → IsWellValue v → IsProper (value_tree v)
  proper-value (int n) w = is_word-signed n w
  proper-value (flag true) w = refl
  proper-value (flag false) w = refl
  proper-value (word x) w = w.0
  proper-value (inner g) w = proper-game g w

  proper-game : (g : Game) → IsWell g → IsProper (game_tree g)
  proper-game (game name ps) w = (w.0, proper-params ps w.2)

  proper-params : (ps : Params) → AreWell ps → AreBracketsProper (params_tree ps)
  proper-params no_params w = tt
  proper-params (param k v ps) w = proper-entries k (value_tree v) w.0 (proper-value v w.1) ps w.2

  proper-entries : (k : List ℕ) (n : Node) → is_name k ≡ true → IsProper n → (ps : Params) → AreWell ps → AreEntriesProper (entries_tree k n ps)
  proper-entries k n a b no_params w = (a, b)
  proper-entries k n a b (param l v ps) w = (a, b, proper-entries l (value_tree v) w.0 (proper-value v w.1) ps w.2)

-- ---- it has the value

word_value-word : (w : List ℕ) → whole_of w ≡ None → is_true w ≡ false → is_false w ≡ false → word_value w ≡ word w
unfolding word_value
word_value-word w a b c =
    ap (λ o. number_or o (flag_or_word w)) a ∙ ap (λ q. if q then flag true else (if is_false w then flag false else word w)) b
    ∙ ap (λ q. if q then flag false else word w) c

word_value-int : (z : ℤ) → unsigned_abs z < 10 ^ 18 → word_value (signed_decimal z) ≡ int z
unfolding word_value
word_value-int z h = ap (λ o. number_or o (flag_or_word (signed_decimal z))) (whole_of-signed z h)

word_value-true : word_value (codes "True") ≡ flag true
unfolding word_value
word_value-true = refl

word_value-false : word_value (codes "False") ≡ flag false
unfolding word_value
word_value-false = refl

value_of-game : (g : Game) → value_of (game_tree g) ≡ inner (game_of (game_tree g))
value_of-game (game name ps) = refl

mutual
  value-value : (v : Value) → IsWellValue v → value_of (value_tree v) ≡ v
  value-value (int n) w = word_value-int n w
  value-value (flag true) w = word_value-true
  value-value (flag false) w = word_value-false
  value-value (word x) w = word_value-word x w.1 w.2 w.3
  value-value (inner g) w = value_of-game g ∙ ap (λ h. inner h) (value-game g w)

  value-game : (g : Game) → IsWell g → game_of (game_tree g) ≡ g
  value-game (game name ps) w = ap (λ u. game name (params_of (sorted u))) (value-params ps w.2) ∙ ap (game name) (params_of-sorted ps w.1)

  value-params : (ps : Params) → AreWell ps → brackets_params (params_tree ps) ≡ list_of ps
  value-params no_params w = refl
  value-params (param k v ps) w = value-entries k (value_tree v) v (value-value v w.1) ps w.2

  value-entries : (k : List ℕ) (n : Node) (v : Value) → value_of n ≡ v → (ps : Params) → AreWell ps → entries_params (entries_tree k n ps) ≡ (k, v) ∷ list_of ps
  value-entries k n v e no_params w = ap (λ (u : Value). (k, u) ∷ []) e
  value-entries k n v e (param l v' ps) w =
      ap (λ (u : Value). (k, u) ∷ entries_params (entries_tree l (value_tree v') ps)) e
      ∙ ap (λ (u : List (List ℕ × Value)). (k, v) ∷ u) (value-entries l (value_tree v') v' (value-value v' w.1) ps w.2)

-- ---- how deep its brackets nest

mutual
  nesting-value : (v : Value) → nesting (value_tree v) ≡ value_depth v
  nesting-value (int n) = refl
  nesting-value (flag true) = refl
  nesting-value (flag false) = refl
  nesting-value (word x) = refl
  nesting-value (inner g) = nesting-game g

  nesting-game : (g : Game) → nesting (game_tree g) ≡ game_depth g
  nesting-game (game name ps) = ap (λ u. suc u) (nesting-params ps)

  nesting-params : (ps : Params) → brackets_nesting (params_tree ps) ≡ params_depth ps
  nesting-params no_params = refl
  nesting-params (param k v ps) = nesting-entries k (value_tree v) (value_depth v) (nesting-value v) ps

  nesting-entries : (k : List ℕ) (n : Node) (d : ℕ) → nesting n ≡ d → (ps : Params) → entries_nesting (entries_tree k n ps) ≡ max d (params_depth ps)
  nesting-entries k n d e no_params = omega (arith, e)
  nesting-entries k n d e (param l v ps) =
      ap (λ u. max u (entries_nesting (entries_tree l (value_tree v) ps))) e ∙ ap (max d) (nesting-entries l (value_tree v) (value_depth v) (nesting-value v) ps)

-- ---- no key stands twice

-- each key that was seen stands before this one
abbrev Under : List (List ℕ) → List ℕ → Type 0
Under [] k = Unit {0}
Under (s ∷ seen) k = (Order s k ≡ Less) × Under seen k

Under-more : (seen : List (List ℕ)) (k l : List ℕ) → Under seen k → Order k l ≡ Less → Under seen l
Under-more [] k l h q = tt
Under-more (s ∷ seen) k l h q = (nat_list_cmp_total.trans s k l h.0 q, Under-more seen k l h.1 q)

none_seen : (seen : List (List ℕ)) (k : List ℕ) → Under seen k → list_any (bytes_eq k) seen ≡ false
none_seen [] k h = refl
none_seen (s ∷ seen) k h = ap (λ b. b || list_any (bytes_eq k) seen) (below_is_other s k h.0) ∙ none_seen seen k h.1

again-none : (seen : List (List ℕ)) (k rest : List ℕ) → Under seen k → again seen k rest ≡ []
again-none seen k rest h = ap (λ b. if b then (k ++ rest) ∷ [] else []) (none_seen seen k h)

joins : (xs ys : List (List ℕ)) → xs ≡ [] → ys ≡ [] → xs ++ ys ≡ []
joins xs ys p q = ap (λ u. u ++ ys) p ∙ q

mutual
  seconds-value : (v : Value) → IsWellValue v → (rest : List ℕ) → second_keys (value_tree v) rest ≡ []
  seconds-value (int n) w rest = refl
  seconds-value (flag true) w rest = refl
  seconds-value (flag false) w rest = refl
  seconds-value (word x) w rest = refl
  seconds-value (inner g) w rest = seconds-game g w rest

  seconds-game : (g : Game) → IsWell g → (rest : List ℕ) → second_keys (game_tree g) rest ≡ []
  seconds-game (game name ps) w rest = seconds-params ps w.1 w.2 (41 ∷ rest)

  seconds-params : (ps : Params) → Rises ps → AreWell ps → (rest : List ℕ) → second_brackets (params_tree ps) rest ≡ []
  seconds-params no_params r w rest = refl
  seconds-params (param k v ps) r w rest = seconds-entries [] k (value_tree v) (seconds-value v w.1) ps tt r w.2 rest

  seconds-entries : (seen : List (List ℕ)) (k : List ℕ) (n : Node) → ((rest : List ℕ) → second_keys n rest ≡ []) → (ps : Params) → Under seen k → RisesFrom k ps → AreWell ps → (rest : List ℕ)
      → second_entries seen (entries_tree k n ps) rest ≡ []
  seconds-entries seen k n e no_params u r w rest = joins _ _ (again-none seen k (61 ∷ spell n rest) u) (e rest)
  seconds-entries seen k n e (param l v ps) u r w rest =
      joins _ _ (again-none seen k (61 ∷ spell n (44 ∷ spell_entries (entries_tree l (value_tree v) ps) rest)) u)
      (joins _ _ (e (44 ∷ spell_entries (entries_tree l (value_tree v) ps) rest))
      (seconds-entries (k ∷ seen) l (value_tree v) (seconds-value v w.1) ps (r.0, Under-more seen k l u r.0) r.1 w.2 rest))

-- ---- the canonical text

proper-top : (g : Game) → IsWell g → IsProperTop (game_tree g)
proper-top (game name ps) w = proper-game (game name ps) w

pub reads_back : (g : Game) → IsWellFormed g → length (game_text g) ≤ 4096 → IsRead (game_text g) g
reads_back g w short = record {
  short = short;
  tree = record { lead = zero; top = game_tree g };
  spells = record { proper = proper-top g w.well; same = sym (append-nil (game_text g)) ∙ sym (spell-game g w.well []) };
  shallow = (let e = nesting-game g in let few = w.shallow in omega (arith, e, few));
  once = seconds-game g w.well [];
  value = sym (value-game g w.well);
}
