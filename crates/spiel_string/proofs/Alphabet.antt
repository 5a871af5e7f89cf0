-- Names and words that grow, and the classes of their bytes.
use Rattle.std.proofs.Common.{◌≡◌, ℕ, Bool, true, false, List, [], ◌∷◌, ◌++◌, eqb, refl, sym, ◌∙◌, ap, ◌⊎◌, inl, inr}
use Rattle.std.specs.Prelude.{◌&&◌, ◌||◌, if◌then◌else◌}
use Rattle.std.specs.List.{list_all}
use Rattle.std.proofs.lemmas.Bool.{eqb-true, and_from, and_parts, or_left, true≢false}
use Rattle.std.proofs.lemmas.List.Folds.{list_all-append}
use Rattle.spiel_string.specs.Alphabet.{is_lower, is_name_rest, is_word_rest, is_name_byte, is_word_byte, is_name, is_word}
use Rattle.spiel_string.specs.Scan.{class}
use Rattle.spiel_string.specs.declared.scan.Class.{Class}
use Rattle.spiel_string.specs.declared.scan.Class.TheVariants.{Space, Open, Close, Comma, Equals, Lower, NameRest, WordRest, Other}

-- ---- names and words

list_all-push : (p : ℕ → Bool) (xs : List ℕ) (x : ℕ) → list_all p xs ≡ true → p x ≡ true → list_all p (xs ++ x ∷ []) ≡ true
list_all-push p xs x h q = list_all-append p xs (x ∷ []) ∙ and_from (list_all p xs) (p x && true) h (and_from (p x) true q refl)

pub is_name-push : (w : List ℕ) (x : ℕ) → is_name w ≡ true → is_name_byte x ≡ true → is_name (w ++ x ∷ []) ≡ true
is_name-push [] x h q = absurd (true≢false (sym h))
is_name-push (y ∷ w) x h q =
    let parts = and_parts (is_lower y) _ h in and_from (is_lower y) _ parts.0 (list_all-push is_name_byte w x parts.1 q)

pub is_word-push : (w : List ℕ) (x : ℕ) → is_word w ≡ true → is_word_byte x ≡ true → is_word (w ++ x ∷ []) ≡ true
is_word-push [] x h q = absurd (true≢false (sym h))
is_word-push (y ∷ w) x h q =
    let parts = and_parts (is_word_byte y) _ h in and_from (is_word_byte y) _ parts.0 (list_all-push is_word_byte w x parts.1 q)

-- a word or a name of one byte
pub is_one : (p : ℕ → Bool) (x : ℕ) → p x ≡ true → (p x && true) ≡ true
is_one p x h = and_from (p x) true h refl

all_words : (xs : List ℕ) → list_all is_name_byte xs ≡ true → list_all is_word_byte xs ≡ true
all_words [] h = refl
all_words (x ∷ xs) h =
    let parts = and_parts (is_name_byte x) _ h in and_from (is_word_byte x) _ (or_left (is_name_byte x) _ parts.0) (all_words xs parts.1)

-- a name is a word
pub is_word-from_name : (w : List ℕ) → is_name w ≡ true → is_word w ≡ true
is_word-from_name [] h = absurd (true≢false (sym h))
is_word-from_name (x ∷ w) h =
    let parts = and_parts (is_lower x) _ h in
    and_from (is_word_byte x) _ (or_left (is_name_byte x) _ (or_left (is_lower x) _ parts.0)) (all_words w parts.1)

-- ---- what a class says of its byte

abbrev pub IsOf : Class → ℕ → Type 0
IsOf Space x = x ≡ 32
IsOf Open x = x ≡ 40
IsOf Close x = x ≡ 41
IsOf Comma x = x ≡ 44
IsOf Equals x = x ≡ 61
IsOf Lower x = is_lower x ≡ true
IsOf NameRest x = is_name_rest x ≡ true
IsOf WordRest x = is_word_rest x ≡ true
IsOf Other x = Unit {0}

chosen : (b : Bool) (k l : Class) (x : ℕ) → (b ≡ true → IsOf k x) → IsOf l x → IsOf (if b then k else l) x
chosen true k l x first other = first refl
chosen false k l x first other = other

pub IsOf-class : (x : ℕ) → IsOf (class x) x
IsOf-class x =
    chosen (eqb x 32) Space _ x (eqb-true x 32)
    (chosen (eqb x 40) Open _ x (eqb-true x 40)
    (chosen (eqb x 41) Close _ x (eqb-true x 41)
    (chosen (eqb x 44) Comma _ x (eqb-true x 44)
    (chosen (eqb x 61) Equals _ x (eqb-true x 61)
    (chosen (is_lower x) Lower _ x (λ h. h)
    (chosen (is_name_rest x) NameRest _ x (λ h. h)
    (chosen (is_word_rest x) WordRest Other x (λ h. h) tt)))))))

-- ---- the class of a byte of a name or a word

skip : (b : Bool) (k l : Class) → b ≡ false → (if b then k else l) ≡ l
skip true k l h = absurd (true≢false h)
skip false k l h = refl

-- a byte that passes a test is none that fails it
not_byte : (x m : ℕ) (p : ℕ → Bool) → p x ≡ true → p m ≡ false → eqb x m ≡ false
not_byte x m p h q = go (eqb x m) refl
  where
    go : (b : Bool) → eqb x m ≡ b → b ≡ false
    go true e = absurd (true≢false (sym h ∙ ap p (eqb-true x m e) ∙ q))
    go false e = refl

-- the class of a byte that is no mark and no space
class_of_word : (x : ℕ) (p : ℕ → Bool) → p x ≡ true → p 32 ≡ false → p 40 ≡ false → p 41 ≡ false → p 44 ≡ false → p 61 ≡ false
    → class x ≡ (if is_lower x then Lower else (if is_name_rest x then NameRest else (if is_word_rest x then WordRest else Other)))
class_of_word x p h a b c d e =
    skip (eqb x 32) Space _ (not_byte x 32 p h a) ∙ skip (eqb x 40) Open _ (not_byte x 40 p h b) ∙ skip (eqb x 41) Close _ (not_byte x 41 p h c)
    ∙ skip (eqb x 44) Comma _ (not_byte x 44 p h d) ∙ skip (eqb x 61) Equals _ (not_byte x 61 p h e)

pub class-lower : (x : ℕ) → is_lower x ≡ true → class x ≡ Lower
class-lower x h =
    class_of_word x is_lower h refl refl refl refl refl
    ∙ ap (λ b. if b then Lower else (if is_name_rest x then NameRest else (if is_word_rest x then WordRest else Other))) h

pub class-name : (x : ℕ) → is_name_byte x ≡ true → (class x ≡ Lower) ⊎ (class x ≡ NameRest)
class-name x h = go (is_lower x) (is_name_rest x) h (class_of_word x is_name_byte h refl refl refl refl refl)
  where
    go : (b c : Bool) → (b || c) ≡ true → class x ≡ (if b then Lower else (if c then NameRest else (if is_word_rest x then WordRest else Other)))
        → (class x ≡ Lower) ⊎ (class x ≡ NameRest)
    go true c h e = inl e
    go false true h e = inr e
    go false false h e = absurd (true≢false (sym h))

pub class-word : (x : ℕ) → is_word_byte x ≡ true → (class x ≡ Lower) ⊎ ((class x ≡ NameRest) ⊎ (class x ≡ WordRest))
class-word x h = go (is_lower x) (is_name_rest x) (is_word_rest x) h (class_of_word x is_word_byte h refl refl refl refl refl)
  where
    go : (b c d : Bool) → ((b || c) || d) ≡ true → class x ≡ (if b then Lower else (if c then NameRest else (if d then WordRest else Other)))
        → (class x ≡ Lower) ⊎ ((class x ≡ NameRest) ⊎ (class x ≡ WordRest))
    go true c d h e = inl e
    go false true d h e = inr (inl e)
    go false false true h e = inr (inr e)
    go false false false h e = absurd (true≢false (sym h))
