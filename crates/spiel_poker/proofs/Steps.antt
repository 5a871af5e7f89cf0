-- A state of Leduc poker, one number more.
use Rattle.std.proofs.Common.{◌≡◌, ℕ, zero, suc, ◌+◌, ◌<◌, ◌≤◌, Bool, true, false, List, [], ◌∷◌, ◌++◌, length, take, reverse, drop, refl, ap, sym, subst, ◌∙◌, arith}
use Rattle.std.specs.Prelude.{slice_index}
use Rattle.std.specs.List.{Contains}
use Rattle.std.proofs.lemmas.List.{length-drop, length-reverse, length-take-le, take_more}
use Rattle.spiel_api.specs.Rules.{next_at, next_of}
use Rattle.spiel_api.specs.Plays.{IsPlay}
use Rattle.spiel_api.proofs.Members.{none_of_none}
use Rattle.spiel_api.proofs.PlayLemmas.{IsPlay-take}
use Rattle.spiel_poker.specs.declared.leduc.Round.{Round}
use Rattle.spiel_poker.specs.declared.leduc.Round.TheVariants.{First, Second}
use Rattle.spiel_poker.specs.declared.leduc.LeducState.{LeducState}
use Rattle.spiel_poker.specs.declared.betting.Table.{Table}
use Rattle.spiel_api.specs.declared.place.Place.{Place}
use Rattle.spiel_poker.specs.Betting.{in_turn, words_owed}
use Rattle.spiel_poker.specs.Table.{IsTable, MaySpeak, seats}
use Rattle.spiel_poker.specs.Leduc.{Parts, leduc_rules, parts, first_opening, second_opening, opening_by, opening_of, told_by, told, place_by}
use Rattle.spiel_poker.specs.LeducState.{ShowsParts, HasCards, IsLeducAt, front}
use Rattle.spiel_poker.specs.Histories.{parts-few, parts-card, parts-last_card, parts-more, flat_by, flat_parts}
use Rattle.spiel_poker.specs.LeducLaws.{sound_play, highest_low}

-- a new state that shows one number more of the history is sound so far
pub shows_more : (s new : LeducState) (count a : ℕ) → IsPlay leduc_rules s.history → count < length s.history → a ≡ slice_index s.history count → new.history ≡ s.history → ShowsParts new.round new.public new.public_at new.table (parts 2 (take count s.history ++ a ∷ [])) → HasCards new.round (count + 1) → IsLeducAt (front (count + 1) new)
shows_more s new count a play within e same shows cards =
    let now : take (count + 1) new.history ≡ take (count + 1) s.history = ap (λ (h : List ℕ). take (count + 1) h) same in
    let more : take (count + 1) s.history ≡ take count s.history ++ a ∷ [] = take_more s.history count 0 within ∙ ap (λ b. take count s.history ++ b ∷ []) (sym e) in
    let long : count + 1 ≡ length (take (count + 1) new.history) = sym (ap length now ∙ length-take-le (count + 1) s.history (omega arith)) in
    record {
      play = subst (IsPlay leduc_rules) (sym now) (IsPlay-take leduc_rules s.history (count + 1) play);
      shows = subst (λ (h : List ℕ). ShowsParts new.round new.public new.public_at new.table (parts 2 h)) (sym (now ∙ more)) shows;
      cards = subst (HasCards new.round) long cards;
    }

-- a card of the first players
pub shows_card : (r : Round) (card at : ℕ) (t : Table) (h : List ℕ) (a : ℕ) → length h + 1 < 2 → ShowsParts r card at t (parts 2 h) → ShowsParts r card at t (parts 2 (h ++ a ∷ []))
shows_card r card at t h a l shows = subst (ShowsParts r card at t) (parts-few 2 h (omega arith) ∙ sym (parts-card 2 h a l)) shows

-- the last player's card
pub shows_last_card : (r : Round) (card at : ℕ) (t : Table) (h : List ℕ) (a : ℕ) → length h ≡ 1 → ShowsParts r card at t (parts 2 h) → ShowsParts First card at t (parts 2 (h ++ a ∷ []))
shows_last_card r card at t h a one shows =
    let before = subst (ShowsParts r card at t) (parts-few 2 h (omega arith)) shows in
    subst (ShowsParts First card at t) (sym (parts-last_card 2 h a (omega arith))) (record {
      round = refl;
      public = before.public;
      public_at = before.public_at;
      table = before.table;
    })

told_by_word : (r owed : ℕ) (x : Parts) (a : ℕ) → told_by (suc r) (suc owed) x a ≡ record x { words = a ∷ x.words }
told_by_word zero owed x a = refl
told_by_word (suc r) owed x a = refl

told_word : (x : Parts) (r owed a : ℕ) → x.round ≡ suc r → words_owed (opening_of 2 x).line x.words ≡ suc owed → told 2 x a ≡ record x { words = a ∷ x.words }
told_word x r owed a e o =
    ap (λ (n : ℕ). told_by n (words_owed (opening_of 2 x).line x.words) x a) e ∙ ap (λ (n : ℕ). told_by (suc r) n x a) o ∙ told_by_word r owed x a

-- a word
pub shows_word : (r : Round) (card at : ℕ) (t u : Table) (h : List ℕ) (a k : ℕ) → 2 ≤ length h → ShowsParts r card at t (parts 2 h) → (parts 2 h).round ≡ suc k → 0 < t.owed → IsTable u (opening_of 2 (parts 2 h)) (a ∷ (parts 2 h).words) → ShowsParts r card at u (parts 2 (h ++ a ∷ []))
shows_word r card at t u h a k both shows e owed table = by t.owed refl owed
  where
    by : (n : ℕ) → t.owed ≡ n → 0 < n → ShowsParts r card at u (parts 2 (h ++ a ∷ []))
    by zero o l = absurd (omega arith)
    by (suc n) o l = subst (ShowsParts r card at u) (sym (parts-more 2 h a both ∙ told_word (parts 2 h) k n a e (shows.table.owed ∙ o))) (record {
      round = shows.round;
      public = shows.public;
      public_at = shows.public_at;
      table = table;
    })

told_public : (x : Parts) (a : ℕ) → x.round ≡ 1 → words_owed (opening_of 2 x).line x.words ≡ 0 → told 2 x a ≡ record { round = 2; first = x.words; public = a; words = [] }
told_public x a e o = ap (λ (n : ℕ). told_by n (words_owed (opening_of 2 x).line x.words) x a) e ∙ ap (λ (n : ℕ). told_by 1 n x a) o

-- the public card
pub shows_public : (r : Round) (card at : ℕ) (t u : Table) (h : List ℕ) (a : ℕ) → 2 ≤ length h → ShowsParts r card at t (parts 2 h) → (parts 2 h).round ≡ 1 → t.owed ≡ 0 → IsTable u (second_opening 2 (parts 2 h).words) [] → ShowsParts Second a (length h) u (parts 2 (h ++ a ∷ []))
shows_public r card at t u h a both shows e owed table =
    subst (ShowsParts Second a (length h) u) (sym (parts-more 2 h a both ∙ told_public (parts 2 h) a e (shows.table.owed ∙ owed))) (record {
      round = refl;
      public = refl;
      public_at =
          let flat : reverse (parts 2 h).words ≡ drop 2 h = ap (λ (n : ℕ). flat_by n (parts 2 h)) (sym e) ∙ flat_parts 2 h in
          omega (arith, length-reverse (parts 2 h).words, ap length flat, length-drop 2 h);
      table = table;
    })

-- how the round began
pub first_round : (x : Parts) → x.round ≡ 1 → opening_of 2 x ≡ first_opening 2
first_round x e = ap (λ (n : ℕ). opening_by 2 n x.first) e

pub first_size : (x : Parts) → x.round ≡ 1 → (opening_of 2 x).size ≡ 2
first_size x e = ap (λ (n : ℕ). (opening_by 2 n x.first).size) e

pub second_size : (x : Parts) → x.round ≡ 2 → (opening_of 2 x).size ≡ 4
second_size x e = ap (λ (n : ℕ). (opening_by 2 n x.first).size) e

-- there is a number only while both players are left
line_open : (r owed : ℕ) (folded : Bool) (speaker : ℕ) (legal : ℕ → List ℕ) (a : ℕ) → Contains (next_at (place_by (suc r) (seats folded speaker) owed) legal) a → folded ≡ false
line_open zero owed true speaker legal a c = none_of_none a c
line_open zero owed false speaker legal a c = refl
line_open (suc r) owed true speaker legal a c = none_of_none a c
line_open (suc r) owed false speaker legal a c = refl

-- and in the second round only while a word is owed
word_owed : (r owed : ℕ) (folded : Bool) (speaker : ℕ) (legal : ℕ → List ℕ) (a : ℕ) → Contains (next_at (place_by (suc (suc r)) (seats folded speaker) owed) legal) a → 0 < owed
word_owed r owed true speaker legal a c = none_of_none a c
word_owed r zero false speaker legal a c = none_of_none a c
word_owed r (suc owed) false speaker legal a c = omega arith

next_here : (s : LeducState) (a r : ℕ) → IsLeducAt s → Contains (next_of leduc_rules s.history) a → (parts 2 s.history).round ≡ r → Contains (next_at (place_by r (seats s.table.folded s.table.speaker) s.table.owed) (leduc_rules.legal s.history)) a
next_here s a r at c e =
    let x = parts 2 s.history in
    let line = at.shows.table.line in
    let here = ap (λ (n : ℕ). place_by n (in_turn (opening_of 2 x).line x.words) (words_owed (opening_of 2 x).line x.words)) e
    ∙ ap (λ (l : List ℕ). place_by r l (words_owed (opening_of 2 x).line x.words)) line
    ∙ ap (λ (n : ℕ). place_by r (seats s.table.folded s.table.speaker) n) at.shows.table.owed in
    subst (λ (place : Place). Contains (next_at place (leduc_rules.legal s.history)) a) here c

pub nobody_folded : (s : LeducState) (a r : ℕ) → IsLeducAt s → Contains (next_of leduc_rules s.history) a → (parts 2 s.history).round ≡ suc r → s.table.folded ≡ false
nobody_folded s a r at c e = line_open r s.table.owed s.table.folded s.table.speaker (leduc_rules.legal s.history) a (next_here s a (suc r) at c e)

pub second_owed : (s : LeducState) (a : ℕ) → IsLeducAt s → Contains (next_of leduc_rules s.history) a → (parts 2 s.history).round ≡ 2 → 0 < s.table.owed
second_owed s a at c e = word_owed 0 s.table.owed s.table.folded s.table.speaker (leduc_rules.legal s.history) a (next_here s a 2 at c e)

-- a word may be said
pub speaks : (s : LeducState) (a r : ℕ) → IsLeducAt s → Contains (next_of leduc_rules s.history) a → (parts 2 s.history).round ≡ suc r → 0 < s.table.owed → MaySpeak s.table
speaks s a r at c e owed =
    let x = parts 2 s.history in
    let sound = sound_play s.history at.play in
    record {
      both = nobody_folded s a r at c e;
      owed = owed;
      speaker = at.shows.table.speaker;
      raises = omega (arith, sound.round.raises, at.shows.table.raises);
      highest = omega (arith, highest_low x sound, at.shows.table.top);
    }
