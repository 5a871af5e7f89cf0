-- Texts with a byte between them: one text more.
use Rattle.std.proofs.Common.{◌≡◌, ℕ, suc, ◌+◌, ◌<◌, Bool, false, cond, ◌==◌, List, [], ◌∷◌, ◌++◌, length, map, take, drop, get_or, refl, ap, sym, subst, ◌∙◌, arith, append_assoc, take-append-drop}
use Rattle.std.specs.List.{join_with_byte}
use Rattle.std.specs.Fmt.{decimal}
use Rattle.std.proofs.lemmas.Bool.{ne_eqb}
use Rattle.std.proofs.lemmas.List.{append-nil, length-map, length-take-le, map-append, map_more}
use Rattle.spiel_frac.specs.Adding.{AddsPart}
use Rattle.spiel_frac.specs.Listed.{listed}
use Rattle.spiel_frac.proofs.AddedTexts.{part_front, part_behind}

-- one text more is behind the separator, unless it is the first
pub join_with_byte-push : (c : ℕ) (texts : List (List ℕ)) (text : List ℕ) → join_with_byte c (texts ++ text ∷ []) ≡ join_with_byte c texts ++ cond (length texts == 0) text (c ∷ text)
join_with_byte-push c [] text = refl
join_with_byte-push c (first ∷ []) text = refl
join_with_byte-push c (first ∷ next ∷ texts) text =
    let later : (n : ℕ) → (suc n == 0) ≡ false = λ n. ne_eqb (suc n) 0 (λ e. omega (arith, e)) in
    let behind = λ (b : Bool). join_with_byte c (next ∷ texts) ++ cond b text (c ∷ text) in
    ap (λ (rest : List ℕ). first ++ c ∷ rest) (join_with_byte-push c (next ∷ texts) text ∙ ap behind (later (length texts)))
    ∙ sym (append_assoc first (c ∷ join_with_byte c (next ∷ texts)) (c ∷ text))
    ∙ ap (λ (b : Bool). join_with_byte c (first ∷ next ∷ texts) ++ cond b text (c ∷ text)) (sym (later (suc (length texts))))

-- so it is with numbers
pub decimals_joined : (c : ℕ) (numbers : List ℕ) (k : ℕ) → k < length numbers
    → listed c (take (k + 1) numbers) ≡ listed c (take k numbers) ++ cond (k == 0) (decimal (get_or numbers k 0)) (c ∷ decimal (get_or numbers k 0))
decimals_joined c numbers k l =
    let texts = map decimal (take k numbers) in
    let text = decimal (get_or numbers k 0) in
    let many : length texts ≡ k = length-map (take k numbers) decimal ∙ length-take-le k numbers (omega arith) in
    ap (join_with_byte c) (map_more decimal numbers k 0 l) ∙ join_with_byte-push c texts text ∙ ap (λ n. join_with_byte c texts ++ cond (n == 0) text (c ∷ text)) many

-- the first texts stand in front
record HasFront (c : ℕ) (front all : List (List ℕ)) : Type 0 where
  rest : List ℕ
  whole : join_with_byte c all ≡ join_with_byte c front ++ rest

has_front : (c : ℕ) (front back : List (List ℕ)) → HasFront c front (front ++ back)
has_front c [] back = record { rest = join_with_byte c back; whole = refl }
has_front c (x ∷ []) [] = record { rest = []; whole = sym (append-nil x) }
has_front c (x ∷ []) (y ∷ back) = record { rest = c ∷ join_with_byte c (y ∷ back); whole = refl }
has_front c (x ∷ y ∷ front) back =
    let later = has_front c (y ∷ front) back in
    record {
      rest = later.rest;
      whole = ap (λ (text : List ℕ). x ++ c ∷ text) later.whole ∙ sym (append_assoc x (c ∷ join_with_byte c (y ∷ front)) later.rest);
    }

-- the numbers so far, and then a part of the next
pub part_of_listed : (c : ℕ) (numbers : List ℕ) (k : ℕ) (old mid new : List ℕ) → k < length numbers → mid ≡ old ++ listed c (take k numbers)
    → AddsPart mid new (cond (k == 0) (decimal (get_or numbers k 0)) (c ∷ decimal (get_or numbers k 0))) → AddsPart old new (listed c numbers)
part_of_listed c numbers k old mid new l before adds =
    let next : List ℕ = cond (k == 0) (decimal (get_or numbers k 0)) (c ∷ decimal (get_or numbers k 0)) in
    let front : List ℕ = listed c (take k numbers) in
    let all = has_front c (map decimal (take (k + 1) numbers)) (map decimal (drop (k + 1) numbers)) in
    let whole : listed c numbers ≡ front ++ next ++ all.rest =
    ap (listed c) (sym (take-append-drop (k + 1) numbers)) ∙ ap (join_with_byte c) (map-append decimal (take (k + 1) numbers) (drop (k + 1) numbers)) ∙ all.whole
    ∙ ap (λ (text : List ℕ). text ++ all.rest) (decimals_joined c numbers k l) in
    subst (AddsPart old new) (sym whole) (part_front old new (front ++ next) all.rest (part_behind old mid new front next before adds))

-- one number more
pub listed_more : (c : ℕ) (numbers : List ℕ) (k : ℕ) (old mid new : List ℕ) → k < length numbers → mid ≡ old ++ listed c (take k numbers)
    → new ≡ mid ++ cond (k == 0) (decimal (get_or numbers k 0)) (c ∷ decimal (get_or numbers k 0)) → new ≡ old ++ listed c (take (k + 1) numbers)
listed_more c numbers k old mid new l before more =
    let next : List ℕ = cond (k == 0) (decimal (get_or numbers k 0)) (c ∷ decimal (get_or numbers k 0)) in
    more ∙ ap (λ (text : List ℕ). text ++ next) before ∙ append_assoc old (listed c (take k numbers)) next ∙ ap (λ (text : List ℕ). old ++ text) (sym (decimals_joined c numbers k l))
