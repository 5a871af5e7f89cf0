-- A byte more keeps names and words what they are.
use Rattle.std.proofs.Common.{◌≡◌, ℕ, zero, suc, true, List, [], ◌∷◌, subst, Option, Some, None}
use Rattle.std.specs.Prelude.{IfSome, option_and_then}
use Rattle.std.proofs.lemmas.Bool.{or_left, or_right}
use Rattle.spiel_string.specs.Alphabet.{is_name, is_lower, is_name_rest, is_name_byte, is_word_byte}
use Rattle.spiel_string.specs.Grammar.{Head, Node, leaf, call, Brackets, empty, filled, Entries, one, and, IsProper, AreBracketsProper, AreEntriesProper}
use Rattle.spiel_string.specs.Partial.{Finished, no_entry, with_entry, AreFinishedProper, wrap, Context, outermost, within, IsContextProper, State, start, outer, open_at, key_at, value_due, value_at, done, IsStateProper, spaced, closed, outer_word, key_word, close_empty, value_word, value_open, step_class, step, run}
use Rattle.spiel_string.specs.Scan.{class}
use Rattle.spiel_string.specs.declared.scan.Class.{Class}
use Rattle.spiel_string.specs.declared.scan.Class.TheVariants.{Space, Open, Close, Comma, Equals, Lower, NameRest, WordRest}
use Rattle.spiel_string.proofs.Alphabet.{IsOf, IsOf-class, is_name-push, is_word-push, is_one}
use Rattle.spiel_string.proofs.Shown.{only_where}

proper-spaced : (v : Node) → IsProper v → IsProper (spaced v)
proper-spaced (leaf w n) h = h
proper-spaced (call w n ps m) h = h

pub proper-wrap : (ds : Finished) (es : Entries) → AreFinishedProper ds → AreEntriesProper es → AreEntriesProper (wrap ds es)
proper-wrap no_entry es h q = q
proper-wrap (with_entry ds head v) es h q = proper-wrap ds (and head v es) h.0 (h.1, h.2, q)

proper-closed : (c : Context) (ps : Brackets) → IsContextProper c → AreBracketsProper ps → IsStateProper (closed c ps)
proper-closed (outermost l w n) ps h q = (h, q)
proper-closed (within c ds head w n) ps h q = (h.0, h.1, h.2, (h.3, q))

lower_name : (x : ℕ) → is_lower x ≡ true → is_name_byte x ≡ true
lower_name x h = or_left (is_lower x) _ h

rest_name : (x : ℕ) → is_name_rest x ≡ true → is_name_byte x ≡ true
rest_name x h = or_right (is_lower x) _ h

name_word : (x : ℕ) → is_name_byte x ≡ true → is_word_byte x ≡ true
name_word x h = or_left (is_name_byte x) _ h

outer_word_proper : (l : ℕ) (w : List ℕ) (n x : ℕ) → is_name w ≡ true → is_name_byte x ≡ true → IfSome (outer_word l w n x) IsStateProper
outer_word_proper l w zero x h q = is_name-push w x h q
outer_word_proper l w (suc n) x h q = tt

key_word_proper : (c : Context) (ds : Finished) (l : ℕ) (k : List ℕ) (n x : ℕ) → IsStateProper (key_at c ds l k n) → is_name_byte x ≡ true
    → IfSome (key_word c ds l k n x) IsStateProper
key_word_proper c ds l k zero x h q = (h.0, h.1, is_name-push k x h.2 q)
key_word_proper c ds l k (suc n) x h q = tt

value_word_proper : (c : Context) (ds : Finished) (head : Head) (v : Node) (x : ℕ) → IsStateProper (value_at c ds head v) → is_word_byte x ≡ true
    → IfSome (value_word c ds head v x) IsStateProper
value_word_proper c ds head (leaf w zero) x h q = (h.0, h.1, h.2, is_word-push w x h.3 q)
value_word_proper c ds head v x h q = tt

value_open_proper : (c : Context) (ds : Finished) (head : Head) (v : Node) → IsStateProper (value_at c ds head v) → IfSome (value_open c ds head v) IsStateProper
value_open_proper c ds head (leaf w n) h =
    only_where (is_name w) (open_at (within c ds head w n) no_entry zero) IsStateProper (λ e. ((h.0, h.1, h.2, e), tt))
value_open_proper c ds head (call w n ps m) h = tt

close_empty_proper : (c : Context) (ds : Finished) (l : ℕ) → IsContextProper c → IfSome (close_empty c ds l) IsStateProper
close_empty_proper c no_entry l h = proper-closed c (empty l) h tt
close_empty_proper c (with_entry ds head v) l h = tt

proper-step_class : (s : State) (x : ℕ) (k : Class) → IsOf k x → IsStateProper s → IfSome (step_class s x k) IsStateProper
proper-step_class (start n) x Space e h = tt
proper-step_class (start n) x Lower e h = is_one is_lower x e
proper-step_class (outer l w n) x Space e h = h
proper-step_class (outer l w n) x Lower e h = outer_word_proper l w n x h (lower_name x e)
proper-step_class (outer l w n) x NameRest e h = outer_word_proper l w n x h (rest_name x e)
proper-step_class (outer l w n) x Open e h = (h, tt)
proper-step_class (open_at c ds l) x Space e h = h
proper-step_class (open_at c ds l) x Lower e h = (h.0, h.1, is_one is_lower x e)
proper-step_class (open_at c ds l) x Close e h = close_empty_proper c ds l h.0
proper-step_class (key_at c ds l k n) x Space e h = h
proper-step_class (key_at c ds l k n) x Lower e h = key_word_proper c ds l k n x h (lower_name x e)
proper-step_class (key_at c ds l k n) x NameRest e h = key_word_proper c ds l k n x h (rest_name x e)
proper-step_class (key_at c ds l k n) x Equals e h = h
proper-step_class (value_due c ds head) x Space e h = h
proper-step_class (value_due c ds head) x Lower e h = (h.0, h.1, h.2, is_one is_word_byte x (name_word x (lower_name x e)))
proper-step_class (value_due c ds head) x NameRest e h = (h.0, h.1, h.2, is_one is_word_byte x (name_word x (rest_name x e)))
proper-step_class (value_due c ds head) x WordRest e h = (h.0, h.1, h.2, is_one is_word_byte x (or_right (is_name_byte x) _ e))
proper-step_class (value_at c ds head v) x Space e h = (h.0, h.1, h.2, proper-spaced v h.3)
proper-step_class (value_at c ds head v) x Lower e h = value_word_proper c ds head v x h (name_word x (lower_name x e))
proper-step_class (value_at c ds head v) x NameRest e h = value_word_proper c ds head v x h (name_word x (rest_name x e))
proper-step_class (value_at c ds head v) x WordRest e h = value_word_proper c ds head v x h (or_right (is_name_byte x) _ e)
proper-step_class (value_at c ds head v) x Open e h = value_open_proper c ds head v h
proper-step_class (value_at c ds head v) x Comma e h = (h.0, (h.1, h.2, h.3))
proper-step_class (value_at c ds head v) x Close e h = proper-closed c (filled (wrap ds (one head v))) h.0 (proper-wrap ds (one head v) h.1 (h.2, h.3))
proper-step_class (done l w n ps m) x Space e h = h
proper-step_class s x k e h = tt

pub proper-run : (xs : List ℕ) (s t : State) → IsStateProper s → run s xs ≡ Some t → IsStateProper t
unfolding run
proper-run [] s t h q = let e : s ≡ t = cc in subst IsStateProper e h
proper-run (x ∷ xs) s t h q = go (step s x) (proper-step_class s x (class x) (IsOf-class x) h) q (λ u. proper-run xs u t)
  where
    go : (o : Option State) → IfSome o IsStateProper → option_and_then (λ u. run u xs) o ≡ Some t
        → ((u : State) → IsStateProper u → run u xs ≡ Some t → IsStateProper t) → IsStateProper t
    go None p r next = absurd (let none : None ≡ Some t = r in cc)
    go (Some u) p r next = next u p r
