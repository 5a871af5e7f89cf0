-- Texts that are added piece by piece, where for want of memory only a front may have been added.
use Rattle.std.proofs.Common.{◌≡◌, ℕ, ◌+◌, ◌<◌, List, [], ◌∷◌, ◌++◌, length, take, drop, get_or, Result, Ok, Err, refl, ap, sym, subst, ◌∙◌, append_assoc, take-append-drop}
use Rattle.std.specs.List.{flat_map}
use Rattle.std.specs.Result.{IsErr}
use Rattle.std.proofs.lemmas.List.{append-nil, take_more}
use Rattle.std.proofs.lemmas.List.Concat.{flat_map-append}
use Rattle.spiel_frac.specs.declared.memory.NoMemory.{NoMemory}
use Rattle.spiel_frac.specs.Adding.{Adds, AddsPart}

-- nothing was added, or a whole text
pub part_none : (old new text : List ℕ) → new ≡ old → AddsPart old new text
part_none old new text e = record { part = []; rest = text; whole = refl; added = e ∙ sym (append-nil old) }

pub part_whole : (old new text : List ℕ) → new ≡ old ++ text → AddsPart old new text
part_whole old new text e = record { part = text; rest = []; whole = sym (append-nil text); added = e }

-- a part of a text is one of a longer text
pub part_front : (old new text more : List ℕ) → AddsPart old new text → AddsPart old new (text ++ more)
part_front old new text more p = record {
  part = p.part;
  rest = p.rest ++ more;
  whole = ap (λ (xs : List ℕ). xs ++ more) p.whole ∙ append_assoc p.part p.rest more;
  added = p.added;
}

-- a text, and then a part of the next
pub part_behind : (old mid new before piece : List ℕ) → mid ≡ old ++ before → AddsPart mid new piece → AddsPart old new (before ++ piece)
part_behind old mid new before piece e p = record {
  part = before ++ p.part;
  rest = p.rest;
  whole = ap (λ (xs : List ℕ). before ++ xs) p.whole ∙ sym (append_assoc before p.part p.rest);
  added = p.added ∙ ap (λ (xs : List ℕ). xs ++ p.part) e ∙ append_assoc old before p.part;
}

-- a text, and then the next
pub adds_behind : (r : Result (Unit {0}) NoMemory) (old mid new before piece : List ℕ) → mid ≡ old ++ before → Adds r mid new piece → Adds r old new (before ++ piece)
adds_behind (Ok done) old mid new before piece e adds = adds ∙ ap (λ (xs : List ℕ). xs ++ piece) e ∙ append_assoc old before piece
adds_behind (Err error) old mid new before piece e p = part_behind old mid new before piece e p

-- memory ran out when a part was added
pub adds_failed : (r : Result (Unit {0}) NoMemory) (old new text : List ℕ) → IsErr r → AddsPart old new text → Adds r old new text
adds_failed (Ok done) old new text e part = cc
adds_failed (Err error) old new text e part = part

-- the texts of some items
module _ {A : Type 0} (text_of : A → List ℕ) (items : List A) (k : ℕ) where
  -- those of the first items, and of the others
  pub texts_split : flat_map text_of items ≡ flat_map text_of (take k items) ++ flat_map text_of (drop k items)
  texts_split = ap (flat_map text_of) (sym (take-append-drop k items)) ∙ flat_map-append text_of (take k items) (drop k items)

  -- those of the first items are a part
  pub part_of_texts : (old new : List ℕ) → new ≡ old ++ flat_map text_of (take k items) → AddsPart old new (flat_map text_of items)
  part_of_texts old new e = record { part = flat_map text_of (take k items); rest = flat_map text_of (drop k items); whole = texts_split; added = e }

  -- one item more
  pub texts_more : (d : A) → k < length items → flat_map text_of (take (k + 1) items) ≡ flat_map text_of (take k items) ++ text_of (get_or items k d)
  texts_more d l =
      ap (flat_map text_of) (take_more items k d l) ∙ flat_map-append text_of (take k items) (get_or items k d ∷ [])
      ∙ ap (λ (text : List ℕ). flat_map text_of (take k items) ++ text) (append-nil (text_of (get_or items k d)))

  pub texts_added_more : (d : A) (old mid new : List ℕ) → k < length items → mid ≡ old ++ flat_map text_of (take k items) → new ≡ mid ++ text_of (get_or items k d) → new ≡ old ++ flat_map text_of (take (k + 1) items)
  texts_added_more d old mid new l before more =
      more ∙ ap (λ (text : List ℕ). text ++ text_of (get_or items k d)) before ∙ append_assoc old (flat_map text_of (take k items)) (text_of (get_or items k d))
      ∙ ap (λ (text : List ℕ). old ++ text) (sym (texts_more d l))

-- the texts of the first items, and then a part of the next
pub part_of_next : {A : Type 0} (text_of : A → List ℕ) (items : List A) (k : ℕ) (d : A) (old mid new : List ℕ) → k < length items
    → mid ≡ old ++ flat_map text_of (take k items) → AddsPart mid new (text_of (get_or items k d)) → AddsPart old new (flat_map text_of items)
part_of_next text_of items k d old mid new l before p =
    let front = flat_map text_of (take k items) ++ text_of (get_or items k d) in
    let whole : flat_map text_of items ≡ front ++ flat_map text_of (drop (k + 1) items) =
    texts_split text_of items (k + 1) ∙ ap (λ (text : List ℕ). text ++ flat_map text_of (drop (k + 1) items)) (texts_more text_of items k d l) in
    subst (AddsPart old new) (sym whole) (part_front old new front (flat_map text_of (drop (k + 1) items)) (part_behind old mid new (flat_map text_of (take k items)) (text_of (get_or items k d)) before p))
