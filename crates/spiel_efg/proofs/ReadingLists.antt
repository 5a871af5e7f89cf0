-- Lists that are read item by item.
use Rattle.std.proofs.Common.{◌≡◌, ℕ, suc, ◌+◌, ◌-◌, ◌<◌, ◌≤◌, List, [], ◌∷◌, ◌++◌, length, refl, sym, ap, subst, ◌∙◌, arith, append_assoc, append-nil, Option, Some, None, Result, Ok, Err}
use Rattle.std.specs.Prelude.{pos}
use Rattle.spiel_frac.specs.Fraction.{Fraction, lowest_terms, greatest_common_divisor, greatest_up_to}
use Rattle.spiel_efg.specs.ReadingTokens.{IsComputed, Mark, word_mark, text_mark, left_mark, right_mark, comma_mark, Read, Rest, and_then, behind, behind_comma, next_number, next_text, number_at, expected}
use Rattle.spiel_efg.specs.ReadingLines.{chances_in, items_at, items_in, pays_at, weighted, with_front, with_weight}
use Rattle.spiel_efg.specs.declared.parts.EfgAction.{EfgAction}
use Rattle.spiel_efg.specs.declared.read_fault.EfgFault.{EfgFault}
use Rattle.spiel_efg.specs.declared.read_fault.EfgFault.TheVariants.{Token, Grammar, Players, SetClash, ChanceSum, ChanceTooFine, OutcomeClash, TooLarge, PayTooFine, NoMemory}

pub zero_is : lowest_terms (pos 0) (pos 1) ≡ record { num = pos 0; den = 1 }
unfolding lowest_terms greatest_common_divisor greatest_up_to
zero_is = refl

-- ---- faults
-- a fault that was computed of a part is that of the whole
pub passed_on : {A B : Type 0} (a : Result A EfgFault) (b : Result B EfgFault) (fault : EfgFault) → ((f : EfgFault) → a ≡ Err f → b ≡ Err f) → IsComputed a fault → IsComputed b fault
passed_on a b (Token at) next h = next (Token at) h
passed_on a b (Grammar at) next h = next (Grammar at) h
passed_on a b Players next h = next Players h
passed_on a b (SetClash node) next h = next (SetClash node) h
passed_on a b (ChanceSum node) next h = next (ChanceSum node) h
passed_on a b (ChanceTooFine node) next h = next (ChanceTooFine node) h
passed_on a b (OutcomeClash node) next h = next (OutcomeClash node) h
passed_on a b TooLarge next h = next TooLarge h
passed_on a b PayTooFine next h = next PayTooFine h
passed_on a b NoMemory next h = tt

-- ---- items before others
abbrev pub ahead : {A : Type 0} → List A → List A × Rest → List A × Rest
ahead items found = (items ++ found.0, found.1)

pub ahead_more : {A : Type 0} (items : List A) (item : A) (found : List A × Rest) → ahead (items ++ item ∷ []) found ≡ ahead items (with_front item found)
ahead_more items item found = ap (λ more. (more, found.1)) (append_assoc items (item ∷ []) found.0)

pub ahead_none : {A : Type 0} (items : List A) (rest : Rest) → ahead items ([], rest) ≡ (items, rest)
ahead_none items rest = ap (λ more. (more, rest)) (append-nil items)

-- the same where a fault may come
abbrev pub ahead_of : {A : Type 0} → List A → Read (List A) → Read (List A)
ahead_of items (Ok found) = Ok (ahead items found)
ahead_of items (Err fault) = Err fault

pub ahead_of_more : {A : Type 0} (items : List A) (item : A) (found : Read (List A)) → ahead_of (items ++ item ∷ []) found ≡ ahead_of items (ahead_of (item ∷ []) found)
ahead_of_more items item (Ok found) = ap (λ more. Ok more) (ahead_more items item found)
ahead_of_more items item (Err fault) = refl

pub ahead_of_none : {A : Type 0} (found : Read (List A)) → ahead_of [] found ≡ found
ahead_of_none (Ok found) = refl
ahead_of_none (Err fault) = refl

-- ---- texts
pub shorter : (rest : Rest) (said : List ℕ) → next_text rest ≡ Some said → length (behind rest).marks < length rest.marks
shorter rest said e = by rest.before rest.marks e
  where
    by : (before : ℕ) (marks : List Mark) → next_text (record { before = before; marks = marks }) ≡ Some said → length (behind (record { before = before; marks = marks })).marks < length marks
    by before [] f = cc
    by before (mark ∷ marks) f = omega arith

pub items_more : {A : Type 0} (make : List ℕ → A) (rest : Rest) (said : List ℕ) → next_text rest ≡ Some said → items_at make rest ≡ with_front (make said) (items_at make (behind rest))
items_more {A} make rest said e = by rest.before rest.marks e
  where
    by : (before : ℕ) (marks : List Mark) → next_text (record { before = before; marks = marks }) ≡ Some said
        → items_in make before marks ≡ with_front (make said) (items_at make (behind (record { before = before; marks = marks })))
    by before [] f = cc
    by before (text_mark found ∷ marks) f = let same : found ≡ said = cc in ap (λ (t : List ℕ). with_front (make t) (items_in make (suc before) marks)) same
    by before (word_mark bytes ∷ marks) f = cc
    by before (left_mark ∷ marks) f = cc
    by before (right_mark ∷ marks) f = cc
    by before (comma_mark ∷ marks) f = cc

pub items_none : {A : Type 0} (make : List ℕ → A) (rest : Rest) → next_text rest ≡ None → items_at make rest ≡ ([], rest)
items_none {A} make rest e = by rest.before rest.marks e
  where
    by : (before : ℕ) (marks : List Mark) → next_text (record { before = before; marks = marks }) ≡ None → items_in make before marks ≡ ([], record { before = before; marks = marks })
    by before [] f = refl
    by before (text_mark found ∷ marks) f = cc
    by before (word_mark bytes ∷ marks) f = refl
    by before (left_mark ∷ marks) f = refl
    by before (right_mark ∷ marks) f = refl
    by before (comma_mark ∷ marks) f = refl

-- ---- texts with numbers
abbrev pub chances_at : Rest → Read (List EfgAction)
chances_at rest = chances_in rest.before rest.marks

abbrev pub chance_then : List ℕ → Read Fraction → Read (List EfgAction)
chance_then name found = and_then (λ weight left. ahead_of (weighted name weight ∷ []) (chances_at left)) found

pub chances_more : (rest : Rest) (name : List ℕ) → next_text rest ≡ Some name → chances_at rest ≡ chance_then name (number_at (behind rest))
chances_more rest name e = by rest.before rest.marks e
  where
    weight_by : (said : List ℕ) (before : ℕ) (mark : Mark) (marks : List Mark) (found : Option Fraction) (more : Read (List EfgAction)) → chances_in (suc before) marks ≡ more
        → with_weight said (expected found (record { before = before; marks = mark ∷ marks })) more
        ≡ chance_then said (expected found (record { before = before; marks = mark ∷ marks }))
    weight_by said before mark marks None more g = refl
    weight_by said before mark marks (Some weight) (Ok more) g = ap (λ (r : Read (List EfgAction)). ahead_of (weighted said weight ∷ []) r) (sym g)
    weight_by said before mark marks (Some weight) (Err fault) g = ap (λ (r : Read (List EfgAction)). ahead_of (weighted said weight ∷ []) r) (sym g)

    by : (before : ℕ) (marks : List Mark) → next_text (record { before = before; marks = marks }) ≡ Some name
        → chances_in before marks ≡ chance_then name (number_at (behind (record { before = before; marks = marks })))
    by before [] f = cc
    by before (text_mark found ∷ []) f = refl
    by before (text_mark found ∷ mark ∷ marks) f =
        let same : found ≡ name = cc in
        let inner : Rest = record { before = suc before; marks = mark ∷ marks } in
        weight_by found (suc before) mark marks (next_number inner) (chances_in (suc (suc before)) marks) refl
        ∙ ap (λ (t : List ℕ). chance_then t (number_at inner)) same
    by before (word_mark bytes ∷ marks) f = cc
    by before (left_mark ∷ marks) f = cc
    by before (right_mark ∷ marks) f = cc
    by before (comma_mark ∷ marks) f = cc

pub chances_none : (rest : Rest) → next_text rest ≡ None → chances_at rest ≡ Ok ([], rest)
chances_none rest e = by rest.before rest.marks e
  where
    by : (before : ℕ) (marks : List Mark) → next_text (record { before = before; marks = marks }) ≡ None → chances_in before marks ≡ Ok ([], record { before = before; marks = marks })
    by before [] f = refl
    by before (text_mark found ∷ marks) f = cc
    by before (word_mark bytes ∷ marks) f = refl
    by before (left_mark ∷ marks) f = refl
    by before (right_mark ∷ marks) f = refl
    by before (comma_mark ∷ marks) f = refl

-- ---- the steps of the loops, from where reading started
pub items_step : {A : Type 0} (make : List ℕ → A) (start rest next : Rest) (items : List A) (item : A) (said : List ℕ)
    → ahead items (items_at make rest) ≡ items_at make start → next_text rest ≡ Some said → next ≡ behind rest → item ≡ make said
    → ahead (items ++ item ∷ []) (items_at make next) ≡ items_at make start
items_step make start rest next items item said so text n is =
    ahead_more items item (items_at make next)
    ∙ ap (λ found. ahead items found) (ap (λ x. with_front x (items_at make next)) is ∙ ap (λ (r : Rest). with_front (make said) (items_at make r)) n ∙ sym (items_more make rest said text))
    ∙ so

pub items_end : {A : Type 0} (make : List ℕ → A) (start rest : Rest) (items : List A) → ahead items (items_at make rest) ≡ items_at make start → next_text rest ≡ None → items_at make start ≡ (items, rest)
items_end make start rest items so none = sym so ∙ ap (λ found. ahead items found) (items_none make rest none) ∙ ahead_none items rest

pub chance_step : (start rest next after : Rest) (actions : List EfgAction) (name : List ℕ) (weight : Fraction)
    → ahead_of actions (chances_at rest) ≡ chances_at start → next_text rest ≡ Some name → next ≡ behind rest → number_at next ≡ Ok (weight, after)
    → ahead_of (actions ++ weighted name weight ∷ []) (chances_at after) ≡ chances_at start
chance_step start rest next after actions name weight so text n e =
    ahead_of_more actions (weighted name weight) (chances_at after)
    ∙ ap (ahead_of actions) (sym (chances_more rest name text ∙ ap (chance_then name) (ap (λ (r : Rest). number_at r) (sym n) ∙ e)))
    ∙ so

pub chance_fault : (start rest next : Rest) (actions : List EfgAction) (name : List ℕ) (fault : EfgFault)
    → ahead_of actions (chances_at rest) ≡ chances_at start → next_text rest ≡ Some name → next ≡ behind rest → IsComputed (number_at next) fault
    → IsComputed (chances_at start) fault
chance_fault start rest next actions name fault so text n h =
    passed_on (number_at next) (chances_at start) fault
    (λ f e. sym so ∙ ap (ahead_of actions) (chances_more rest name text ∙ ap (chance_then name) (ap (λ (r : Rest). number_at r) (sym n) ∙ e)))
    h

pub chance_end : (start rest : Rest) (actions : List EfgAction) → ahead_of actions (chances_at rest) ≡ chances_at start → next_text rest ≡ None → chances_at start ≡ Ok (actions, rest)
chance_end start rest actions so none = sym so ∙ ap (ahead_of actions) (chances_none rest none) ∙ ap (λ found. Ok found) (ahead_none actions rest)

pub behind_shorter : (rest : Rest) → length (behind rest).marks ≤ length rest.marks
behind_shorter rest = by rest.before rest.marks
  where
    by : (before : ℕ) (marks : List Mark) → length (behind (record { before = before; marks = marks })).marks ≤ length marks
    by before [] = omega arith
    by before (mark ∷ marks) = omega arith

abbrev left_of : {A : Type 0} → Rest → Read A → Rest
left_of rest (Ok found) = found.1
left_of rest (Err fault) = rest

pub number_shorter : (rest after : Rest) (weight : Fraction) → number_at rest ≡ Ok (weight, after) → length after.marks ≤ length rest.marks
number_shorter rest after weight e = by (next_number rest) e
  where
    by : (found : Option Fraction) → expected found rest ≡ Ok (weight, after) → length after.marks ≤ length rest.marks
    by None f = cc
    by (Some w) f = let same : behind rest ≡ after = ap (λ (r : Read Fraction). left_of rest r) f in subst (λ (r : Rest). length r.marks ≤ length rest.marks) same (behind_shorter rest)

-- ---- payoffs
abbrev pub pay_then : ℕ → Read Fraction → Read (List Fraction)
pay_then count found = and_then (λ pay more. ahead_of (pay ∷ []) (pays_at count (behind_comma more))) found

pub pays_more : (count : ℕ) (rest : Rest) → pays_at (suc count) rest ≡ pay_then count (number_at rest)
pays_more count rest = by (number_at rest)
  where
    inner : (pay : Fraction) (found : Read (List Fraction)) → and_then (λ pays left. Ok (pay ∷ pays, left)) found ≡ ahead_of (pay ∷ []) found
    inner pay (Ok found) = refl
    inner pay (Err fault) = refl

    by : (found : Read Fraction) → and_then (λ pay more. and_then (λ pays left. Ok (pay ∷ pays, left)) (pays_at count (behind_comma more))) found ≡ pay_then count found
    by (Ok found) = inner found.0 (pays_at count (behind_comma found.1))
    by (Err fault) = refl

pub no_less : (players : ℕ) → players - 0 ≡ players
no_less players = omega arith

one_less : (players counter : ℕ) → counter < players → players - counter ≡ suc (players - (counter + 1))
one_less players counter l = omega arith

pub pay_step : (players counter : ℕ) (start rest after next : Rest) (pays : List Fraction) (pay : Fraction)
    → ahead_of pays (pays_at (players - counter) rest) ≡ pays_at players start → counter < players → number_at rest ≡ Ok (pay, after) → next ≡ behind_comma after
    → ahead_of (pays ++ pay ∷ []) (pays_at (players - (counter + 1)) next) ≡ pays_at players start
pay_step players counter start rest after next pays pay so l e n =
    let left = players - (counter + 1) in
    ahead_of_more pays pay (pays_at left next)
    ∙ ap (ahead_of pays) (ap (λ (r : Rest). ahead_of (pay ∷ []) (pays_at left r)) n ∙ sym (ap (λ (k : ℕ). pays_at k rest) (one_less players counter l) ∙ pays_more left rest ∙ ap (pay_then left) e))
    ∙ so

pub pay_fault : (players counter : ℕ) (start rest : Rest) (pays : List Fraction) (fault : EfgFault)
    → ahead_of pays (pays_at (players - counter) rest) ≡ pays_at players start → counter < players → IsComputed (number_at rest) fault
    → IsComputed (pays_at players start) fault
pay_fault players counter start rest pays fault so l h =
    let left = players - (counter + 1) in
    passed_on (number_at rest) (pays_at players start) fault
    (λ f e. sym so ∙ ap (ahead_of pays) (ap (λ (k : ℕ). pays_at k rest) (one_less players counter l) ∙ pays_more left rest ∙ ap (pay_then left) e))
    h

pub pay_end : (players counter : ℕ) (start rest : Rest) (pays : List Fraction)
    → ahead_of pays (pays_at (players - counter) rest) ≡ pays_at players start → players ≤ counter → pays_at players start ≡ Ok (pays, rest)
pay_end players counter start rest pays so l =
    let none : players - counter ≡ 0 = omega arith in
    sym so ∙ ap (λ (k : ℕ). ahead_of pays (pays_at k rest)) none ∙ ap (λ found. Ok found) (ahead_none pays rest)
