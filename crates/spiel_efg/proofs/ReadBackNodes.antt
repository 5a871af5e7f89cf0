-- What is written of sets, outcomes and nodes is read again.
use Rattle.std.proofs.Common.{◌≡◌, ◌^◌, ◌<◌, ℕ, suc, false, List, [], ◌∷◌, ◌++◌, length, refl, ap, subst, arith, append_assoc, Option, Some, None, Ok}
use Rattle.std.specs.Prelude.{flat_map, All, is_none}
use Rattle.std.specs.Fmt.{decimal}
use Rattle.spiel_frac.specs.Fraction.{Fraction, frac_text}
use Rattle.spiel_efg.specs.ReadingTokens.{Mark, Read, Rest, and_then, behind_comma, is_left_in, left_mark, comma_mark, optional, right_mark, text_in, text_mark, word_mark, name_at, number_at, whole_at}
use Rattle.spiel_efg.specs.ReadingLines.{actions_at, in_braces, outcome_mention_at, pays_at, set_mention_at}
use Rattle.spiel_efg.specs.declared.parts.EfgAction.{EfgAction}
use Rattle.spiel_efg.specs.declared.parts.EfgOutcome.{EfgOutcome}
use Rattle.spiel_efg.specs.declared.parts.EfgSet.{EfgSet}
use Rattle.spiel_efg.specs.declared.read_mentions.OutcomeMention.{OutcomeMention}
use Rattle.spiel_efg.specs.declared.read_mentions.SetMention.{SetMention}
use Rattle.spiel_efg.specs.Writing.{IsShort}
use Rattle.spiel_efg.proofs.WrittenLines.{action_marks, outcome_marks, pay_marks}
use Rattle.spiel_efg.proofs.ReadBackLines.{IsShortAction, Reads, actions_read, braced_read, number_read, reads_same, reads_then, rest_of, whole_read}

-- ---- sets
-- a set is mentioned in full
abbrev pub mention_of : EfgSet → SetMention
mention_of one = record { player = one.player; number = one.number; name = one.name; actions = Some one.actions }

-- what is written of a set is read again
pub record IsReadable (players : ℕ) (one : EfgSet) : Type 0 where
  pub number : one.number < 2 ^ 32
  pub some : 0 < length one.actions
  pub actions : All (IsShortAction one.player) one.actions

abbrev set_done : Option ℕ → ℕ → List ℕ → Option (List EfgAction) → Rest → Read SetMention
set_done player number name actions left = Ok (record { player = player; number = number; name = name; actions = actions }, left)

abbrev set_named : Option ℕ → ℕ → List ℕ → Rest → Read SetMention
set_named player number name rest = and_then (set_done player number name) (actions_at (is_none player) rest)

abbrev set_numbered : Option ℕ → ℕ → Rest → Read SetMention
set_numbered player number rest = and_then (set_named player number) (name_at rest)

-- the marks of a set behind its player
abbrev pub numbered_marks : EfgSet → List Mark → List Mark
numbered_marks one more = word_mark (decimal one.number) ∷ text_mark one.name ∷ left_mark ∷ (flat_map (action_marks one.player) one.actions ++ right_mark ∷ more)

pub set_read : (players : ℕ) (one : EfgSet) (n : ℕ) (more : List Mark) → IsReadable players one → Reads (set_mention_at one.player (rest_of n (numbered_marks one more))) (mention_of one) more
unfolding set_mention_at
set_read players one n more fit =
    let listed : List Mark = left_mark ∷ (flat_map (action_marks one.player) one.actions ++ right_mark ∷ more) in
    reads_then (set_numbered one.player) (whole_at (rest_of n (numbered_marks one more))) one.number (mention_of one) (text_mark one.name ∷ listed) more
    (whole_read one.number n (text_mark one.name ∷ listed) fit.number)
    (λ m. reads_then (set_named one.player one.number) (name_at (rest_of m (text_mark one.name ∷ listed))) one.name (mention_of one) listed more (record { before = suc m; is = refl })
    (λ k. reads_then (set_done one.player one.number one.name) (actions_at (is_none one.player) (rest_of k listed)) (Some one.actions) (mention_of one) more more
    (actions_read one.player one.actions k more fit.some fit.actions) (λ j. record { before = j; is = refl })))

-- ---- outcomes
abbrev next_marks : Fraction → List Mark
next_marks next = comma_mark ∷ word_mark (frac_text next) ∷ []

abbrev pays_more : Fraction → List Fraction → Rest → Read (List Fraction)
pays_more pay pays left = Ok (pay ∷ pays, left)

abbrev pay_then : ℕ → Fraction → Rest → Read (List Fraction)
pay_then count pay rest = and_then (pays_more pay) (pays_at count (behind_comma rest))

first_pay : (pay : Fraction) (pays : List Fraction) (n : ℕ) (more : List Mark) → IsShort pay → ((m : ℕ) → Reads (pays_at (length pays) (behind_comma (rest_of m (flat_map next_marks pays ++ right_mark ∷ more)))) pays (right_mark ∷ more))
    → Reads (pays_at (suc (length pays)) (rest_of n (word_mark (frac_text pay) ∷ (flat_map next_marks pays ++ right_mark ∷ more)))) (pay ∷ pays) (right_mark ∷ more)
first_pay pay pays n more short others =
    let rest : List Mark = flat_map next_marks pays ++ right_mark ∷ more in
    reads_then (pay_then (length pays)) (number_at (rest_of n (word_mark (frac_text pay) ∷ rest))) pay (pay ∷ pays) rest (right_mark ∷ more) (number_read pay n rest short)
    (λ m. reads_then (pays_more pay) (pays_at (length pays) (behind_comma (rest_of m rest))) pays (pay ∷ pays) (right_mark ∷ more) (right_mark ∷ more) (others m) (λ k. record { before = k; is = refl }))

more_pays : (pays : List Fraction) (more : List Mark) → All IsShort pays → (n : ℕ) → Reads (pays_at (length pays) (behind_comma (rest_of n (flat_map next_marks pays ++ right_mark ∷ more)))) pays (right_mark ∷ more)
more_pays [] more each n = record { before = n; is = refl }
more_pays (pay ∷ pays) more each n = first_pay pay pays (suc n) more (each 0 pay (omega arith)) (more_pays pays more (λ k d l. each (suc k) d (omega arith)))

pays_read : (pays : List Fraction) (n : ℕ) (more : List Mark) → All IsShort pays → Reads (pays_at (length pays) (rest_of n (pay_marks pays ++ right_mark ∷ more))) pays (right_mark ∷ more)
pays_read [] n more each = record { before = n; is = refl }
pays_read (pay ∷ pays) n more each = first_pay pay pays n more (each 0 pay (omega arith)) (more_pays pays more (λ k d l. each (suc k) d (omega arith)))

-- an outcome is mentioned in full, and 0 alone
abbrev pub outcome_mention_of : Option EfgOutcome → OutcomeMention
outcome_mention_of None = record { number = 0; name = []; pays = None }
outcome_mention_of (Some one) = record { number = one.number; name = one.name; pays = Some one.pays }

-- an outcome that is read again has a number of 32 bits and so many payoffs
pub record IsReadableOutcome (players : ℕ) (one : EfgOutcome) : Type 0 where
  pub number : one.number < 2 ^ 32
  pub count : length one.pays ≡ players
  pub pays : All IsShort one.pays

abbrev pub IsReadableMaybe : ℕ → Option EfgOutcome → Type 0
IsReadableMaybe players None = Unit {0}
IsReadableMaybe players (Some one) = IsReadableOutcome players one

-- no part of an outcome begins with these marks
pub record IsBehindLine (more : List Mark) : Type 0 where
  pub no_text : text_in more ≡ None
  pub no_brace : is_left_in more ≡ false

abbrev outcome_done : ℕ → List ℕ → Option (List Fraction) → Rest → Read OutcomeMention
outcome_done number name pays left = Ok (record { number = number; name = name; pays = pays }, left)

abbrev outcome_named : ℕ → ℕ → List ℕ → Rest → Read OutcomeMention
outcome_named players number name rest = and_then (outcome_done number name) (in_braces (pays_at players) rest)

abbrev outcome_numbered : ℕ → ℕ → Rest → Read OutcomeMention
outcome_numbered players number rest = and_then (outcome_named players number) (name_at rest)

no_name : (n : ℕ) (more : List Mark) → text_in more ≡ None → Reads (name_at (rest_of n more)) [] more
no_name n more e =
    let ok : Option (List ℕ) → Read (List ℕ) = λ found. Ok (optional [] found (rest_of n more)) in
    record { before = n; is = ap ok e }

no_braces : (players n : ℕ) (more : List Mark) → is_left_in more ≡ false → Reads (in_braces (pays_at players) (rest_of n more)) None more
no_braces players n more e = record { before = n; is = rw e refl }

pub outcome_read : (players : ℕ) (one : Option EfgOutcome) (n : ℕ) (more : List Mark) → IsReadableMaybe players one → IsBehindLine more
    → Reads (outcome_mention_at players (rest_of n (outcome_marks one ++ more))) (outcome_mention_of one) more
unfolding outcome_mention_at
outcome_read players None n more fit behind =
    let done : OutcomeMention = outcome_mention_of None in
    reads_then (outcome_numbered players) (whole_at (rest_of n (word_mark (decimal 0) ∷ more))) 0 done more more (whole_read 0 n more (omega arith))
    (λ m. reads_then (outcome_named players 0) (name_at (rest_of m more)) [] done more more (no_name m more behind.no_text)
    (λ k. reads_then (outcome_done 0 []) (in_braces (pays_at players) (rest_of k more)) None done more more (no_braces players k more behind.no_brace) (λ j. record { before = j; is = refl })))
outcome_read players (Some one) n more fit behind =
    let done : OutcomeMention = outcome_mention_of (Some one) in
    let paid : List Mark = pay_marks one.pays ++ right_mark ∷ more in
    let listed : List Mark = left_mark ∷ paid in
    let marks : outcome_marks (Some one) ++ more ≡ word_mark (decimal one.number) ∷ text_mark one.name ∷ listed =
    ap (λ (ms : List Mark). word_mark (decimal one.number) ∷ text_mark one.name ∷ left_mark ∷ ms) (append_assoc (pay_marks one.pays) (right_mark ∷ []) more) in
    reads_same (outcome_mention_at players (rest_of n (outcome_marks (Some one) ++ more))) (outcome_mention_at players (rest_of n (word_mark (decimal one.number) ∷ text_mark one.name ∷ listed))) done more
    (ap (λ (ms : List Mark). outcome_mention_at players (rest_of n ms)) marks)
    (reads_then (outcome_numbered players) (whole_at (rest_of n (word_mark (decimal one.number) ∷ text_mark one.name ∷ listed))) one.number done (text_mark one.name ∷ listed) more
    (whole_read one.number n (text_mark one.name ∷ listed) fit.number)
    (λ m. reads_then (outcome_named players one.number) (name_at (rest_of m (text_mark one.name ∷ listed))) one.name done listed more (record { before = suc m; is = refl })
    (λ k. reads_then (outcome_done one.number one.name) (in_braces (pays_at players) (rest_of k listed)) (Some one.pays) done more more
    (braced_read (pays_at players) one.pays k paid more (λ j. subst (λ (count : ℕ). Reads (pays_at count (rest_of j paid)) one.pays (right_mark ∷ more)) fit.count (pays_read one.pays j more fit.pays)))
    (λ j. record { before = j; is = refl }))))
