-- What helps a game to keep the laws. A test computes at a list that is written out, so that `refl` shows it.
use Rattle.std.specs.Prelude.{◌≡◌, ℕ, zero, suc, ◌+◌, ◌*◌, ◌%◌, ◌^◌, ◌<◌, ◌≤◌, Bool, true, ◌&&◌, nat_lt, nat_le, List, [], ◌∷◌, ◌++◌, length, map, sum}
use Rattle.std.specs.Fmt.{decimal}
use Rattle.std.specs.List.{All, AllByRecursion, list_all, flat_map, sum_by}
use Rattle.std.specs.List.Sorted.{IsStrictlyIncreasing}
use Rattle.std.proofs.Common.{arith, refl, ◌∙◌, length-append}
use Rattle.std.proofs.lemmas.Bool.{and_parts, leb-true, ltb-true}
use Rattle.std.proofs.lemmas.Fmt.{decimal_by_steps, length-decimal-le}
use Rattle.std.proofs.lemmas.List.Elements.{All-nil, All-cons, All-head, All-tail, All-append, All-push, All-from_recursion}
use Rattle.std.proofs.lemmas.List.Sums.{sum-map, sum_by-cons}
use Rattle.spiel_frac.specs.Listed.{listed}
use Rattle.spiel_api.specs.declared.place.Place.TheVariants.{Joint}
use Rattle.spiel_api.specs.Rules.{Rules}
use Rattle.spiel_api.specs.Plays.{IsPlay}
use Rattle.spiel_api.proofs.PlayLemmas.{IsPlay-front}
use Rattle.spiel_api.specs.Place.{IsOutside}
use Rattle.spiel_api.specs.Laws.{IsPrinted, IsPrintable, IsWithinLimits, HasWholeJointSteps}

-- each element passes a test that tells of a fact
pub All-computed : (P : ℕ → Type 0) (test : ℕ → Bool) → ((x : ℕ) → test x ≡ true → P x) → (xs : List ℕ) → list_all test xs ≡ true → All P xs
All-computed P test tells xs e = All-from_recursion P xs (each xs e)
  where
    each : (xs : List ℕ) → list_all test xs ≡ true → AllByRecursion P xs
    each [] e = tt
    each (x ∷ xs) e = let two = and_parts (test x) (list_all test xs) e in (tells x two.0, each xs two.1)

-- whether each number is below the next
abbrev pub is_rising : List ℕ → Bool
is_rising [] = true
is_rising (x ∷ []) = true
is_rising (x ∷ y ∷ rest) = nat_lt x y && is_rising (y ∷ rest)

pub IsStrictlyIncreasing-computed : (xs : List ℕ) → is_rising xs ≡ true → IsStrictlyIncreasing xs
IsStrictlyIncreasing-computed [] e k l = absurd (omega arith)
IsStrictlyIncreasing-computed (x ∷ []) e k l = absurd (omega arith)
IsStrictlyIncreasing-computed (x ∷ y ∷ rest) e zero l = ltb-true x y (and_parts (nat_lt x y) (is_rising (y ∷ rest)) e).0
IsStrictlyIncreasing-computed (x ∷ y ∷ rest) e (suc k) l =
    let next : suc k + 1 ≡ suc (k + 1) = omega arith in
    rw next (IsStrictlyIncreasing-computed (y ∷ rest) (and_parts (nat_lt x y) (is_rising (y ∷ rest)) e).1 k (omega arith))

pub nothing_rises : IsStrictlyIncreasing []
nothing_rises = IsStrictlyIncreasing-computed [] refl

-- as many ones add up to their number
ones : (xs : List ℕ) → sum_by (λ x. 1) xs ≡ length xs
ones [] = refl
ones (x ∷ xs) = omega (arith, sum_by-cons (λ (x : ℕ). 1) x xs, ones xs)

pub sum_of_ones : (xs : List ℕ) → sum (map (λ x. 1) xs) ≡ length xs
sum_of_ones xs = sum-map (λ x. 1) xs ∙ ones xs

-- whether a byte is printable ASCII
abbrev pub is_printed : ℕ → Bool
is_printed b = nat_le 32 b && nat_le b 126

pub IsPrintable-computed : (most : ℕ) (text : List ℕ) → nat_le (length text) most ≡ true → list_all is_printed text ≡ true → IsPrintable most text
IsPrintable-computed most text short ascii = record {
  short = leb-true (length text) most short;
  ascii = All-computed IsPrinted is_printed
      (λ b e. let two = and_parts (nat_le 32 b) (nat_le b 126) e in (leb-true 32 b two.0, leb-true b 126 two.1)) text ascii;
}

-- texts one behind the other
pub IsPrintable-append : (m n most : ℕ) (xs ys : List ℕ) → m + n ≤ most → IsPrintable m xs → IsPrintable n ys → IsPrintable most (xs ++ ys)
IsPrintable-append m n most xs ys l first second = record {
  short = omega (arith, length-append xs ys, first.short, second.short);
  ascii = All-append IsPrinted xs ys first.ascii second.ascii;
}

-- the texts of some items, each of at most so many bytes
pub IsPrintable-texts : {A : Type 0} (most : ℕ) (text_of : A → List ℕ) (items : List A) → All (λ x. IsPrintable most (text_of x)) items → IsPrintable (most * length items) (flat_map text_of items)
IsPrintable-texts most text_of [] each = record { short = omega arith; ascii = All-nil IsPrinted }
IsPrintable-texts most text_of (x ∷ items) each =
    let later = IsPrintable-texts most text_of items (All-tail (λ x. IsPrintable most (text_of x)) x items each) in
    IsPrintable-append most (most * length items) (most * length (x ∷ items)) (text_of x) (flat_map text_of items) (omega arith) (All-head (λ x. IsPrintable most (text_of x)) x items each) later

-- a number of so many digits
pub decimal_printable : (digits n : ℕ) → 0 < digits → n < 10 ^ digits → n < 2 ^ 64 → IsPrintable digits (decimal n)
decimal_printable digits n some small low = record {
  short = length-decimal-le digits n some small low;
  ascii = decimal_by_steps (λ n text. All IsPrinted text)
      (λ n m. All-from_recursion IsPrinted ((48 + n) ∷ []) ((omega arith, omega arith), tt))
      (λ n text m printed. All-push IsPrinted text (48 + n % 10) printed (omega arith, omega arith)) n low;
}

-- numbers of at most so many digits, with a byte between each two
pub IsPrintable-listed : (mark digits : ℕ) (numbers : List ℕ) → IsPrinted mark → 0 < digits → 10 ^ digits ≤ 2 ^ 64 → All (λ a. a < 10 ^ digits) numbers → IsPrintable ((digits + 1) * length numbers) (listed mark numbers)
IsPrintable-listed mark digits [] printed some low small = record { short = omega arith; ascii = All-nil IsPrinted }
IsPrintable-listed mark digits (a ∷ []) printed some low small =
    let here = All-head (λ a. a < 10 ^ digits) a [] small in
    let first = decimal_printable digits a some here (omega (arith, here, low)) in
    record { short = omega (arith, first.short); ascii = first.ascii }
IsPrintable-listed mark digits (a ∷ b ∷ rest) printed some low small =
    let here = All-head (λ a. a < 10 ^ digits) a (b ∷ rest) small in
    let first = decimal_printable digits a some here (omega (arith, here, low)) in
    let later = IsPrintable-listed mark digits (b ∷ rest) printed some low (All-tail (λ a. a < 10 ^ digits) a (b ∷ rest) small) in
    let behind : IsPrintable (1 + (digits + 1) * length (b ∷ rest)) (mark ∷ listed mark (b ∷ rest)) = record {
      short = omega (arith, later.short);
      ascii = All-cons IsPrinted mark (listed mark (b ∷ rest)) printed later.ascii;
    } in
    IsPrintable-append digits (1 + (digits + 1) * length (b ∷ rest)) ((digits + 1) * length (a ∷ b ∷ rest)) (decimal a) (mark ∷ listed mark (b ∷ rest)) (omega arith) first behind

-- whether a game of so many players, with such a unit and such a cap, is within the limits
abbrev pub has_size : ℕ → ℕ → ℕ → Bool
has_size players unit cap = (nat_le 1 players && nat_le players 64) && ((nat_le 1 unit && nat_le unit (2 ^ 62)) && (nat_le 1 cap && nat_le cap (2 ^ 62)))

pub within_limits : (r : Rules) → has_size r.players r.unit r.cap ≡ true → ((h : List ℕ) → IsPlay r h → length h ≤ 4096) → IsWithinLimits r
within_limits r size short =
    let two = and_parts _ _ size in
    let players = and_parts _ _ two.0 in
    let numbers = and_parts _ _ two.1 in
    let unit = and_parts _ _ numbers.0 in
    let cap = and_parts _ _ numbers.1 in
    record {
      players_low = leb-true 1 r.players players.0;
      players_high = leb-true r.players 64 players.1;
      unit_low = leb-true 1 r.unit unit.0;
      unit_high = leb-true r.unit (2 ^ 62) unit.1;
      cap_low = leb-true 1 r.cap cap.0;
      cap_high = leb-true r.cap (2 ^ 62) cap.1;
      short = short;
    }

-- a game in which players never move at once
pub without_joint_steps : (r : Rules) → IsOutside (r.place []) → ((h : List ℕ) (p : ℕ) → IsPlay r h → r.place h ≡ Joint p → ⊥) → HasWholeJointSteps r
without_joint_steps r begins none = record {
  begins = begins;
  enters = λ h a p play e. absurd (none (h ++ a ∷ []) (p + 1) play e);
  runs = λ h a p play e l. absurd (none h p (IsPlay-front r h (a ∷ []) play) e);
  same_legal = λ h a p q play e l. absurd (none h p (IsPlay-front r h (a ∷ []) play) e);
  same_info = λ h a p q play e l m. absurd (none h p (IsPlay-front r h (a ∷ []) play) e);
}
