-- What is written of a node is read again.
use Rattle.std.proofs.Common.{◌≡◌, ◌+◌, ◌^◌, ◌<◌, ℕ, suc, true, List, [], ◌∷◌, ◌++◌, length, refl, sym, ap, ◌∙◌, arith, Option, Some, None, Ok}
use Rattle.std.specs.Prelude.{nat_le, nat_lt, option_and_then, flat_map, All, is_none}
use Rattle.std.specs.Fmt.{decimal}
use Rattle.std.specs.Str.Parse.{digits_value}
use Rattle.std.proofs.lemmas.Bool.{le-leb, lt-ltb}
use Rattle.spiel_frac.specs.Fraction.{Fraction, frac_text}
use Rattle.spiel_frac.specs.Reading.{frac_of}
use Rattle.spiel_efg.specs.Writing.{IsShort}
use Rattle.spiel_frac.specs.Spelling.{are_digits}
use Rattle.spiel_frac.proofs.Numerals.{decimal-are_digits, decimal_value}
use Rattle.spiel_frac.proofs.ReadBack.{frac_of-frac_text}
use Rattle.spiel_efg.specs.ReadingTokens.{Mark, Read, Rest, and_then, expected, fraction_read, left_mark, right_mark, word_mark, number_at, player_at, player_number, whole_at, whole_number}
use Rattle.spiel_efg.specs.ReadingLines.{actions_at, chances_in, closed, in_braces, items_in, listed_at, some_of, unweighted, weighted, with_front, with_weight}
use Rattle.spiel_efg.specs.declared.parts.EfgAction.{EfgAction}
use Rattle.spiel_efg.proofs.WrittenLines.{action_marks, no_weight}

-- ---- reading on
abbrev pub rest_of : ℕ → List Mark → Rest
rest_of before marks = record { before = before; marks = marks }

-- this was read, and these marks are left
pub record Reads {A : Type 0} (r : Read A) (found : A) (more : List Mark) : Type 0 where
  pub before : ℕ
  pub is : r ≡ Ok (found, rest_of before more)

pub reads_then : {A B : Type 0} (next : A → Rest → Read B) (r : Read A) (a : A) (b : B) (inner more : List Mark) → Reads r a inner → ((n : ℕ) → Reads (next a (rest_of n inner)) b more)
    → Reads (and_then next r) b more
reads_then next r a b inner more one two =
    let later = two one.before in
    record { before = later.before; is = ap (and_then next) one.is ∙ later.is }

pub reads_same : {A : Type 0} (r s : Read A) (found : A) (more : List Mark) → r ≡ s → Reads s found more → Reads r found more
reads_same r s found more e one = record { before = one.before; is = e ∙ one.is }

-- ---- words
whole_written : (k : ℕ) → k < 2 ^ 32 → whole_number (decimal k) ≡ Some k
whole_written k small =
    let digits : are_digits (decimal k) ≡ true = decimal-are_digits k (omega (arith, small)) in
    let value : digits_value 10 (decimal k) ≡ k = decimal_value k (omega (arith, small)) in
    let below : nat_lt k (2 ^ 32) ≡ true = lt-ltb k (2 ^ 32) small in
    rw (digits, value, below) refl

pub whole_read : (k n : ℕ) (more : List Mark) → k < 2 ^ 32 → Reads (whole_at (rest_of n (word_mark (decimal k) ∷ more))) k more
whole_read k n more small =
    let here : Rest = rest_of n (word_mark (decimal k) ∷ more) in
    record { before = suc n; is = ap (λ (o : Option ℕ). expected o here) (whole_written k small) }

player_written : (players p : ℕ) → p < players → player_number players (suc p) ≡ Some p
player_written players p among =
    let low : nat_le 1 (suc p) ≡ true = le-leb 1 (suc p) (omega arith) in
    let high : nat_le (suc p) players ≡ true = le-leb (suc p) players (omega arith) in
    rw (low, high) (ap (λ (m : ℕ). Some m) (omega arith))

pub player_read : (players p n : ℕ) (more : List Mark) → p < players → suc p < 2 ^ 32 → Reads (player_at players (rest_of n (word_mark (decimal (suc p)) ∷ more))) p more
player_read players p n more among small =
    let here : Rest = rest_of n (word_mark (decimal (suc p)) ∷ more) in
    record { before = suc n; is = ap (λ (o : Option ℕ). expected (option_and_then (player_number players) o) here) (whole_written (suc p) small) ∙ ap (λ (o : Option ℕ). expected o here) (player_written players p among) }

number_written : (f : Fraction) → IsShort f → fraction_read (frac_of (frac_text f)) ≡ Some f
number_written f short = ap fraction_read (frac_of-frac_text (frac_of (frac_text f)) (frac_text f) f refl short.lowest short.parts refl)

number_is : (f : Fraction) (n : ℕ) (more : List Mark) → IsShort f → number_at (rest_of n (word_mark (frac_text f) ∷ more)) ≡ Ok (f, rest_of (suc n) more)
number_is f n more short =
    let here : Rest = rest_of n (word_mark (frac_text f) ∷ more) in
    ap (λ (o : Option Fraction). expected o here) (number_written f short)

pub number_read : (f : Fraction) (n : ℕ) (more : List Mark) → IsShort f → Reads (number_at (rest_of n (word_mark (frac_text f) ∷ more))) f more
number_read f n more short = record { before = suc n; is = number_is f n more short }

-- ---- actions
-- an action of chance has a probability that is read again, and one of a player has none
abbrev pub IsShortAction : Option ℕ → EfgAction → Type 0
IsShortAction None action = IsShort action.weight
IsShortAction (Some player) action = action.weight ≡ no_weight

plain_read : (player : ℕ) (actions : List EfgAction) (n : ℕ) (more : List Mark) → All (IsShortAction (Some player)) actions
    → items_in unweighted n (flat_map (action_marks (Some player)) actions ++ right_mark ∷ more) ≡ (actions, rest_of (n + length actions) (right_mark ∷ more))
plain_read player [] n more each =
    let here : ℕ → List EfgAction × Rest = λ m. ([], rest_of m (right_mark ∷ more)) in
    ap here (omega arith)
plain_read player (action ∷ actions) n more each =
    let same : unweighted action.name ≡ action = ap (λ (w : Fraction). weighted action.name w) (sym (each 0 action (omega arith))) in
    let place : suc n + length actions ≡ n + length (action ∷ actions) = omega arith in
    let front : EfgAction → List EfgAction × Rest = λ one. (one ∷ actions, rest_of (suc n + length actions) (right_mark ∷ more)) in
    let here : ℕ → List EfgAction × Rest = λ m. (action ∷ actions, rest_of m (right_mark ∷ more)) in
    ap (with_front (unweighted action.name)) (plain_read player actions (suc n) more (λ k d l. each (suc k) d (omega arith))) ∙ ap front same ∙ ap here place

chances_read : (actions : List EfgAction) (n : ℕ) (more : List Mark) → All (IsShortAction None) actions → Reads (chances_in n (flat_map (action_marks None) actions ++ right_mark ∷ more)) actions (right_mark ∷ more)
chances_read [] n more each = record { before = n; is = refl }
chances_read (action ∷ actions) n more each =
    let later = chances_read actions (suc (suc n)) more (λ k d l. each (suc k) d (omega arith)) in
    let rest : List Mark = flat_map (action_marks None) actions ++ right_mark ∷ more in
    record {
      before = later.before;
      is = ap (λ (r : Read Fraction). with_weight action.name r (chances_in (suc (suc n)) rest)) (number_is action.weight (suc n) rest (each 0 action (omega arith)))
          ∙ ap (with_weight action.name (Ok (action.weight, rest_of (suc (suc n)) rest))) later.is;
    }

listed_read : (player : Option ℕ) (actions : List EfgAction) (n : ℕ) (more : List Mark) → All (IsShortAction player) actions
    → Reads (listed_at (is_none player) (rest_of n (flat_map (action_marks player) actions ++ right_mark ∷ more))) actions (right_mark ∷ more)
listed_read None actions n more each = chances_read actions n more each
listed_read (Some player) actions n more each =
    let ok : List EfgAction × Rest → Read (List EfgAction) = λ found. Ok found in
    record { before = n + length actions; is = ap ok (plain_read player actions n more each) }

some_read : (actions : List EfgAction) (n : ℕ) (more : List Mark) → 0 < length actions → Reads (some_of actions (rest_of n more)) actions more
some_read [] n more some = absurd (omega arith)
some_read (action ∷ actions) n more some = record { before = n; is = refl }

-- what stands between braces
pub braced_read : {A : Type 0} (inner : Rest → Read A) (found : A) (n : ℕ) (marks more : List Mark) → ((m : ℕ) → Reads (inner (rest_of m marks)) found (right_mark ∷ more))
    → Reads (in_braces inner (rest_of n (left_mark ∷ marks))) (Some found) more
braced_read inner found n marks more one =
    reads_then (λ item left. Ok (Some item, left)) (and_then closed (inner (rest_of (suc n) marks))) found (Some found) more more
    (reads_then closed (inner (rest_of (suc n) marks)) found found (right_mark ∷ more) more (one (suc n)) (λ m. record { before = suc m; is = refl }))
    (λ m. record { before = m; is = refl })

pub actions_read : (player : Option ℕ) (actions : List EfgAction) (n : ℕ) (more : List Mark) → 0 < length actions → All (IsShortAction player) actions
    → Reads (actions_at (is_none player) (rest_of n (left_mark ∷ (flat_map (action_marks player) actions ++ right_mark ∷ more)))) (Some actions) more
actions_read player actions n more some each =
    braced_read (λ inner. and_then some_of (listed_at (is_none player) inner)) actions n (flat_map (action_marks player) actions ++ right_mark ∷ more) more
    (λ m. reads_then some_of (listed_at (is_none player) (rest_of m (flat_map (action_marks player) actions ++ right_mark ∷ more))) actions actions (right_mark ∷ more) (right_mark ∷ more)
    (listed_read player actions m more each) (λ k. some_read actions k (right_mark ∷ more) some))
