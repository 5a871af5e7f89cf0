-- Some text of the grammar begins with what was read.
use Rattle.std.proofs.Common.{◌≡◌, ℕ, zero, List, [], ◌∷◌, refl, sym, ap, Some, subst}
use Rattle.spiel_string.specs.Grammar.{Head, Node, leaf, call, Brackets, filled, one, spell_brackets, AreBracketsProper, InGrammar, IsViable}
use Rattle.spiel_string.specs.Partial.{Finished, wrap, Context, outermost, within, front, IsContextProper, State, start, outer, open_at, key_at, value_due, value_at, done, shown, IsStateProper, run}
use Rattle.spiel_string.proofs.Proper.{proper-wrap, proper-run}
use Rattle.spiel_string.proofs.Shown.{spell-wrap, shown-run}

-- closes each bracket
abbrev closers : Context → List ℕ
closers (outermost l w n) = 41 ∷ []
closers (within c ds head w n) = 41 ∷ closers c

closed_front : (c : Context) (ps : Brackets) → IsContextProper c → AreBracketsProper ps → InGrammar (front c (spell_brackets ps (closers c)))
closed_front (outermost l w n) ps h q = (record { lead = l; top = call w n ps zero }, record { proper = (h, q); same = refl })
closed_front (within c ds head w n) ps h q =
    let last : Node = call w n ps zero in
    subst InGrammar (ap (front c) (spell-wrap ds (one head last) (closers c)))
    (closed_front c (filled (wrap ds (one head last))) h.0 (proper-wrap ds (one head last) h.1 (h.2, (h.3, q))))

closed_value : (c : Context) (ds : Finished) (head : Head) (v : Node) → IsStateProper (value_at c ds head v) → InGrammar (shown (value_at c ds head v) (closers c))
closed_value c ds head v h =
    subst InGrammar (ap (front c) (spell-wrap ds (one head v) (closers c)))
    (closed_front c (filled (wrap ds (one head v))) h.0 (proper-wrap ds (one head v) h.1 (h.2, h.3)))

-- the word `a`
abbrev letter : Node
letter = leaf (97 ∷ []) zero

-- what completes a state
abbrev completion : State → List ℕ
completion (start n) = 97 ∷ []
completion (open_at c ds l) = 97 ∷ 61 ∷ 97 ∷ closers c
completion (key_at c ds l k n) = 61 ∷ 97 ∷ closers c
completion (value_due c ds head) = 97 ∷ closers c
completion (value_at c ds head v) = closers c
completion s = []

completed : (s : State) → IsStateProper s → InGrammar (shown s (completion s))
completed (start n) h = (record { lead = n; top = letter }, record { proper = refl; same = refl })
completed (outer l w n) h = (record { lead = l; top = leaf w n }, record { proper = h; same = refl })
completed (open_at c ds l) h =
    closed_value c ds (record { before_key = l; key = 97 ∷ []; after_key = zero; after_equals = zero }) letter (h.0, h.1, refl, refl)
completed (key_at c ds l k n) h =
    closed_value c ds (record { before_key = l; key = k; after_key = n; after_equals = zero }) letter (h.0, h.1, h.2, refl)
completed (value_due c ds head) h = closed_value c ds head letter (h.0, h.1, h.2, refl)
completed (value_at c ds head v) h = closed_value c ds head v h
completed (done l w n ps m) h = (record { lead = l; top = call w n ps m }, record { proper = h; same = refl })

pub viable-run : (xs : List ℕ) (t : State) → run (start zero) xs ≡ Some t → IsViable xs
viable-run xs t h =
    (completion t, subst InGrammar (sym (shown-run xs (start zero) t (completion t) h)) (completed t (proper-run xs (start zero) t tt h)))
