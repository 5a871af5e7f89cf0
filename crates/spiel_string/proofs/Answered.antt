-- The answer that is computed is the one that the grammar tells, and no other.
use Rattle.std.proofs.Common.{◌≡◌, ◌<◌, ◌≤◌, ◌+◌, ℕ, zero, suc, Bool, true, false, List, [], ◌∷◌, ◌++◌, length, take, get_or, refl, sym, ◌∙◌, ap, Option, Some, None, Result, Ok, Err, subst, arith}
use Rattle.std.specs.Prelude.{nat_lt, if◌then◌else◌, option_and_then, MatchResult, IfOk, IfErr}
use Rattle.std.specs.List.{All, list_any}
use Rattle.std.proofs.lemmas.List.Elements.{All-nil, All-cons, All-append, All-weaker, All-head}
use Rattle.std.specs.Str.{bytes_eq}
use Rattle.std.proofs.lemmas.Bool.{ltb-true, ltb-false}
use Rattle.std.proofs.lemmas.List.{length-append}
use Rattle.spiel_string.specs.Alphabet.{spaces}
use Rattle.spiel_string.specs.Answer.{or_stuck, follow, once, game_in, ended, followed, reading, IsAnswer, IsComputed}
use Rattle.spiel_string.specs.Game.{Game}
use Rattle.spiel_string.specs.Grammar.{IsSyntaxPlace, Head, Node, leaf, call, Brackets, empty, filled, Entries, one, and, Whole, past_key, spell_head, spell, spell_brackets, spell_entries, Spells}
use Rattle.spiel_string.specs.Nesting.{nesting}
use Rattle.spiel_string.specs.Partial.{State, start, step, run, final}
use Rattle.spiel_string.specs.Reading.{most_brackets, most_bytes, IsRead, IsFaultOf, MayRefuse}
use Rattle.spiel_string.specs.Repeats.{again, second_keys, second_brackets, second_entries}
use Rattle.spiel_string.specs.Values.{game_of}
use Rattle.spiel_string.specs.View.{view}
use Rattle.spiel_string.specs.declared.fault.StringFault.{StringFault}
use Rattle.spiel_string.specs.declared.fault.StringFault.TheVariants.{TooLong, Syntax, TooDeep, Repeated, NoMemory}
use Rattle.spiel_string.specs.declared.value.GameText.{GameText}
use Rattle.spiel_string.proofs.OneAnswer.{one_value, not_both, one_fault}
use Rattle.spiel_string.proofs.SyntaxPlaces.{spelled-run, syntax_end, syntax_stuck}

-- ---- a second key is no longer than the text that it stands in

length-spaces : (n : ℕ) (rest : List ℕ) → length (spaces n rest) ≡ n + length rest
length-spaces zero rest = omega arith
length-spaces (suc n) rest = let shorter = length-spaces n (32 ∷ rest) in omega (arith, shorter)

-- the text is at most so long
abbrev IsWithin : ℕ → List ℕ → Type 0
IsWithin most text = length text ≤ most

past_key_within : (head : Head) (rest : List ℕ) → length rest ≤ length (past_key head rest)
past_key_within head rest =
    let outside = length-spaces head.after_key (61 ∷ spaces head.after_equals rest) in let inside = length-spaces head.after_equals rest in omega (arith, outside, inside)

key_within : (head : Head) (rest : List ℕ) → length (head.key ++ past_key head rest) ≤ length (spell_head head rest)
key_within head rest = let all = length-spaces head.before_key (head.key ++ past_key head rest) in omega (arith, all)

head_within : (head : Head) (rest : List ℕ) → length rest ≤ length (spell_head head rest)
head_within head rest =
    let key = key_within head rest in let behind = past_key_within head rest in let both = length-append head.key (past_key head rest) in omega (arith, key, behind, both)

again_within : (seen : List (List ℕ)) (key rest : List ℕ) (most : ℕ) → length (key ++ rest) ≤ most → All (IsWithin most) (again seen key rest)
again_within seen key rest most le = by (list_any (bytes_eq key) seen)
  where
    by : (b : Bool) → All (IsWithin most) (if b then (key ++ rest) ∷ [] else [])
    by true = All-cons (IsWithin most) (key ++ rest) [] le (All-nil (IsWithin most))
    by false = All-nil (IsWithin most)

widen : (few most : ℕ) (texts : List (List ℕ)) → few ≤ most → All (IsWithin few) texts → All (IsWithin most) texts
widen few most texts le all = All-weaker (IsWithin few) (IsWithin most) (λ text short. omega (arith, short, le)) texts all

mutual
  keys_within : (v : Node) (rest : List ℕ) → All (IsWithin (length (spell v rest))) (second_keys v rest)
  keys_within (leaf text after) rest = All-nil (IsWithin _)
  keys_within (call name before brackets after) rest =
      let inside = spell_brackets brackets (41 ∷ spaces after rest) in let lengths = length-append name (spaces before (40 ∷ inside)) in
      let spaced = length-spaces before (40 ∷ inside) in
      widen _ _ (second_brackets brackets (41 ∷ spaces after rest)) (omega (arith, lengths, spaced)) (brackets_within brackets (41 ∷ spaces after rest))

  brackets_within : (brackets : Brackets) (rest : List ℕ) → All (IsWithin (length (spell_brackets brackets rest))) (second_brackets brackets rest)
  brackets_within (empty n) rest = All-nil (IsWithin _)
  brackets_within (filled entries) rest = entries_within entries [] rest

  entries_within : (entries : Entries) (seen : List (List ℕ)) (rest : List ℕ) → All (IsWithin (length (spell_entries entries rest))) (second_entries seen entries rest)
  entries_within (one head value) seen rest =
      All-append (IsWithin _) _ _ (again_within seen head.key (past_key head (spell value rest)) _ (key_within head (spell value rest)))
      (widen _ _ (second_keys value rest) (head_within head (spell value rest)) (keys_within value rest))
  entries_within (and head value entries) seen rest =
      let others = spell_entries entries rest in
      let longer = spell value (44 ∷ others) in
      All-append (IsWithin _) _ _ (again_within seen head.key (past_key head longer) _ (key_within head longer))
      (All-append (IsWithin _) _ _ (widen _ _ (second_keys value (44 ∷ others)) (head_within head longer) (keys_within value (44 ∷ others)))
      (widen _ _ (second_entries (head.key ∷ seen) entries rest)
      (let behind = head_within head longer in let inside = value_within value (44 ∷ others) in omega (arith, behind, inside)) (entries_within entries (head.key ∷ seen) rest)))

  value_within : (v : Node) (rest : List ℕ) → length rest ≤ length (spell v rest)
  value_within (leaf text after) rest = let lengths = length-append text (spaces after rest) in let spaced = length-spaces after rest in omega (arith, lengths, spaced)
  value_within (call name before brackets after) rest =
      let inside = spell_brackets brackets (41 ∷ spaces after rest) in
      let lengths = length-append name (spaces before (40 ∷ inside)) in let spaced = length-spaces before (40 ∷ inside) in
      let behind = length-spaces after rest in let within = bracketed_within brackets (41 ∷ spaces after rest) in omega (arith, lengths, spaced, behind, within)

  bracketed_within : (brackets : Brackets) (rest : List ℕ) → length rest ≤ length (spell_brackets brackets rest)
  bracketed_within (empty n) rest = let spaced = length-spaces n rest in omega (arith, spaced)
  bracketed_within (filled entries) rest = behind_entries entries rest

  behind_entries : (entries : Entries) (rest : List ℕ) → length rest ≤ length (spell_entries entries rest)
  behind_entries (one head value) rest = let outside = head_within head (spell value rest) in let inside = value_within value rest in omega (arith, outside, inside)
  behind_entries (and head value entries) rest =
      let others = spell_entries entries rest in
      let outside = head_within head (spell value (44 ∷ others)) in let inside = value_within value (44 ∷ others) in
      let below = behind_entries entries rest in omega (arith, outside, inside, below)

suffix_within : (t : Whole) (text : List ℕ) → Spells t text → (u : List ℕ) (us : List (List ℕ)) → second_keys t.top [] ≡ u ∷ us → length u ≤ length text
suffix_within t text h u us e =
    let first : length u ≤ length (spell t.top []) = All-head (IsWithin _) u us (subst (All (IsWithin _)) e (keys_within t.top [])) in
    let lead = length-spaces t.lead (spell t.top []) in let same = ap (λ (x : List ℕ). length x) h.same in omega (arith, first, lead, same)

-- ---- how far a text leads

follow-ok : (bytes : List ℕ) (at : ℕ) (s t : State) → follow s at bytes ≡ Ok t → run s bytes ≡ Some t
unfolding follow run
follow-ok [] at s t h = cc
follow-ok (byte ∷ bytes) at s t h = go (step s byte) (λ u. follow-ok bytes (suc at) u t) h
  where
    go : (o : Option State) → ((u : State) → follow u (suc at) bytes ≡ Ok t → run u bytes ≡ Some t)
        → or_stuck at (λ next. follow next (suc at) bytes) o ≡ Ok t → option_and_then (λ next. run next bytes) o ≡ Some t
    go None next e = absurd (let bad : Err at ≡ Ok t = e in cc)
    go (Some u) next e = next u e

-- a byte that can't stand where it does, so many bytes behind a state
record IsStuck (s : State) (bytes : List ℕ) (past : ℕ) : Type 0 where
  state : State
  within : past < length bytes
  read : run s (take past bytes) ≡ Some state
  none : step state (get_or bytes past 0) ≡ None

follow-err : (bytes : List ℕ) (at : ℕ) (s : State) (place : ℕ) → follow s at bytes ≡ Err place → (past : ℕ) × (place ≡ at + past) × IsStuck s bytes past
unfolding follow run
follow-err [] at s place h = absurd (let bad : Ok s ≡ Err place = h in cc)
follow-err (byte ∷ bytes) at s place h = go (step s byte) refl (λ u. follow-err bytes (suc at) u place) h
  where
    go : (o : Option State) → step s byte ≡ o → ((u : State) → follow u (suc at) bytes ≡ Err place → (past : ℕ) × (place ≡ suc at + past) × IsStuck u bytes past)
        → or_stuck at (λ next. follow next (suc at) bytes) o ≡ Err place → (past : ℕ) × (place ≡ at + past) × IsStuck s (byte ∷ bytes) past
    go None stuck next e = let here : at ≡ place = cc in (0, omega (arith, here), record { state = s; within = omega arith; read = refl; none = stuck })
    go (Some u) stuck next e =
        let below = next u e in let place_is = below.1 in let far = below.2.within in (
          suc below.0,
          omega (arith, place_is),
          record {
            state = below.2.state;
            within = omega (arith, far);
            read = ap (option_and_then (λ t. run t (take below.0 bytes))) stuck ∙ below.2.read;
            none = below.2.none;
          },
        )

-- ---- the answer that is computed

stuck_at : (text : List ℕ) (place : ℕ) → follow (start 0) 0 text ≡ Err place → IsSyntaxPlace text place
stuck_at text place h =
    let found = follow-err text 0 (start 0) place h in let place_is = found.1 in
    subst (IsSyntaxPlace text) (sym (let same : place ≡ found.0 = omega (arith, place_is) in same)) (syntax_stuck text found.0 found.2.state found.2.within found.2.read found.2.none)

with_keys : (text : List ℕ) (t : Whole) → length text ≤ most_bytes → Spells t text → nesting t.top ≤ most_brackets → (keys : List (List ℕ)) → second_keys t.top [] ≡ keys
    → IsAnswer text (once (length text) (game_of t.top) keys)
with_keys text t short h shallow [] e = record { short = short; tree = t; spells = h; shallow = shallow; once = e; value = refl }
with_keys text t short h shallow (u ∷ us) e = record {
  short = short;
  tree = t;
  spells = h;
  shallow = shallow;
  second = record { suffix = u; others = us; first = e; at_place = let within = suffix_within t text h u us e in omega (arith, within) };
}

in_tree : (text : List ℕ) (t : Whole) → length text ≤ most_bytes → Spells t text → IsAnswer text (game_in (length text) t)
in_tree text t short h = by (nat_lt most_brackets (nesting t.top)) refl
  where
    by : (b : Bool) → nat_lt most_brackets (nesting t.top) ≡ b → IsAnswer text (if b then Err TooDeep else once (length text) (game_of t.top) (second_keys t.top []))
    by true e = record { short = short; tree = t; spells = h; deep = ltb-true most_brackets (nesting t.top) e }
    by false e = with_keys text t short h (ltb-false most_brackets (nesting t.top) e) (second_keys t.top []) refl

at_end : (text : List ℕ) (s : State) → length text ≤ most_bytes → run (start 0) text ≡ Some s → (o : Option Whole) → final s ≡ o → IsAnswer text (ended (length text) o)
at_end text s short h None f = (short, syntax_end text s h f)
at_end text s short h (Some t) f = in_tree text t short (spelled-run text s t h f)

walked : (text : List ℕ) → length text ≤ most_bytes → (r : Result State ℕ) → follow (start 0) 0 text ≡ r → IsAnswer text (followed (length text) r)
walked text short (Err place) h = (short, stuck_at text place h)
walked text short (Ok s) h = at_end text s short (follow-ok text 0 (start 0) s h) (final s) refl

-- what is computed is what the grammar tells
pub is_answer : (text : List ℕ) → IsAnswer text (reading text)
unfolding reading
is_answer text = by (nat_lt most_bytes (length text)) refl
  where
    by : (b : Bool) → nat_lt most_bytes (length text) ≡ b → IsAnswer text (if b then Err TooLong else followed (length text) (follow (start 0) 0 text))
    by true e = ltb-true most_bytes (length text) e
    by false e = walked text (ltb-false most_bytes (length text) e) (follow (start 0) 0 text) refl

-- a text that is read as a game is computed as that game, and a fault as that fault
pub reading_of_game : (text : List ℕ) (g : Game) → IsRead text g → reading text ≡ Ok g
reading_of_game text g h = go (reading text) (is_answer text)
  where
    go : (r : Result Game StringFault) → IsAnswer text r → r ≡ Ok g
    go (Ok read) a = ap (λ x. Ok x) (one_value text read g a h)
    go (Err fault) a = absurd (not_both text g fault h a)

pub reading_of_fault : (text : List ℕ) (fault : StringFault) → IsFaultOf text fault → reading text ≡ Err fault
reading_of_fault text fault h = go (reading text) (is_answer text)
  where
    go : (r : Result Game StringFault) → IsAnswer text r → r ≡ Err fault
    go (Ok read) a = absurd (not_both text read fault a h)
    go (Err answer) a = ap (λ x. Err x) (one_fault text fault answer h a)

is_computed : (text : List ℕ) (answer : StringFault) → MayRefuse text answer → IsComputed (reading text) answer
is_computed text TooLong m = reading_of_fault text TooLong m
is_computed text (Syntax at) m = reading_of_fault text (Syntax at) m
is_computed text TooDeep m = reading_of_fault text TooDeep m
is_computed text (Repeated at) m = reading_of_fault text (Repeated at) m
is_computed text NoMemory m = tt

pub answer_is_computed : (text : List ℕ) (r : Result GameText StringFault) → IfOk r (λ read. IsRead text (view read)) → IfErr r (MayRefuse text)
    → MatchResult r (λ read. reading text ≡ Ok (view read)) (IsComputed (reading text))
answer_is_computed text (Ok read) ok err = reading_of_game text (view read) ok
answer_is_computed text (Err fault) ok err = is_computed text fault err
