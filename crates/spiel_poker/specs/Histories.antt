-- What a history of Leduc poker is made of, one number more.
use Rattle.std.proofs.Common.{◌≡◌, ℕ, zero, suc, ◌+◌, ◌<◌, ◌≤◌, List, [], ◌∷◌, ◌++◌, length, reverse, drop, refl, ap, sym, ◌∙◌, arith, append_assoc}
use Rattle.std.proofs.lemmas.List.{append-nil, reverse-append}
use Rattle.spiel_poker.specs.Leduc.{Parts, opening_of, told_by, told, no_round, no_word, all_told, after_cards, parts}
use Rattle.spiel_poker.specs.Betting.{words_owed}

all_told-push : (n : ℕ) (x : Parts) (xs : List ℕ) (a : ℕ) → all_told n x (xs ++ a ∷ []) ≡ told n (all_told n x xs) a
all_told-push n x [] a = refl
all_told-push n x (b ∷ xs) a = all_told-push n (told n x b) xs a

dealt_more : (n k : ℕ) (h : List ℕ) (a : ℕ) → length h + 1 < k → after_cards n k (h ++ a ∷ []) ≡ no_round
dealt_more n zero h a l = absurd (omega arith)
dealt_more n (suc zero) [] a l = absurd (omega arith)
dealt_more n (suc (suc k)) [] a l = refl
dealt_more n (suc k) (c ∷ h) a l = dealt_more n k h a (omega arith)

dealt_last : (n k : ℕ) (h : List ℕ) (a : ℕ) → length h + 1 ≡ k → after_cards n k (h ++ a ∷ []) ≡ no_word
dealt_last n zero h a e = absurd (omega arith)
dealt_last n (suc zero) [] a e = refl
dealt_last n (suc (suc k)) [] a e = absurd (omega arith)
dealt_last n (suc k) (c ∷ h) a e = dealt_last n k h a (omega arith)

told_more : (n k : ℕ) (h : List ℕ) (a : ℕ) → k ≤ length h → after_cards n k (h ++ a ∷ []) ≡ told n (after_cards n k h) a
told_more n zero h a l = all_told-push n no_word h a
told_more n (suc k) [] a l = absurd (omega arith)
told_more n (suc k) (c ∷ h) a l = told_more n k h a (omega arith)

few_dealt : (n k : ℕ) (h : List ℕ) → length h < k → after_cards n k h ≡ no_round
few_dealt n zero h l = absurd (omega arith)
few_dealt n (suc k) [] l = refl
few_dealt n (suc k) (c ∷ h) l = few_dealt n k h (omega arith)

-- while cards are still to come
pub parts-few : (n : ℕ) (h : List ℕ) → length h < n → parts n h ≡ no_round
unfolding parts
parts-few n h l = few_dealt n n h l

-- a card more, while cards are still to come
pub parts-card : (n : ℕ) (h : List ℕ) (a : ℕ) → length h + 1 < n → parts n (h ++ a ∷ []) ≡ no_round
unfolding parts
parts-card n h a l = dealt_more n n h a l

-- the last card
pub parts-last_card : (n : ℕ) (h : List ℕ) (a : ℕ) → length h + 1 ≡ n → parts n (h ++ a ∷ []) ≡ no_word
unfolding parts
parts-last_card n h a e = dealt_last n n h a e

-- a word, or the public card
pub parts-more : (n : ℕ) (h : List ℕ) (a : ℕ) → n ≤ length h → parts n (h ++ a ∷ []) ≡ told n (parts n h) a
unfolding parts
parts-more n h a l = told_more n n h a l

-- the numbers behind the players' cards
abbrev pub flat_by : ℕ → Parts → List ℕ
flat_by zero x = []
flat_by (suc zero) x = reverse x.words
flat_by (suc (suc r)) x = reverse x.first ++ x.public ∷ reverse x.words

reverse_more : (a : ℕ) (xs : List ℕ) → reverse (a ∷ xs) ≡ reverse xs ++ a ∷ []
reverse_more a xs = reverse-append (a ∷ []) xs

flat_by_round : (r owed : ℕ) (x : Parts) (a : ℕ) → x.round ≡ r → 1 ≤ r → flat_by (told_by r owed x a).round (told_by r owed x a) ≡ flat_by r x ++ a ∷ []
flat_by_round zero owed x a e l = absurd (omega arith)
flat_by_round (suc zero) zero x a e l = refl
flat_by_round (suc zero) (suc owed) x a e l = rw e (reverse_more a x.words)
flat_by_round (suc (suc r)) owed x a e l =
    rw (e, reverse_more a x.words) (sym (append_assoc (reverse x.first) (x.public ∷ reverse x.words) (a ∷ [])))

round_by : (r owed : ℕ) (x : Parts) (a : ℕ) → x.round ≡ r → 1 ≤ r → 1 ≤ (told_by r owed x a).round
round_by zero owed x a e l = absurd (omega arith)
round_by (suc zero) zero x a e l = omega arith
round_by (suc zero) (suc owed) x a e l = omega arith
round_by (suc (suc r)) owed x a e l = omega arith

flat_all : (n : ℕ) (x : Parts) (rest : List ℕ) → 1 ≤ x.round → flat_by (all_told n x rest).round (all_told n x rest) ≡ flat_by x.round x ++ rest
flat_all n x [] l = sym (append-nil (flat_by x.round x))
flat_all n x (a ∷ rest) l =
    let owed = words_owed (opening_of n x).line x.words in
    flat_all n (told n x a) rest (round_by x.round owed x a refl l)
    ∙ ap (λ (xs : List ℕ). xs ++ rest) (flat_by_round x.round owed x a refl l)
    ∙ append_assoc (flat_by x.round x) (a ∷ []) rest

flat_after : (n k : ℕ) (h : List ℕ) → flat_by (after_cards n k h).round (after_cards n k h) ≡ drop k h
flat_after n zero h = flat_all n no_word h (omega arith)
flat_after n (suc k) [] = refl
flat_after n (suc k) (c ∷ h) = flat_after n k h

-- the parts are the whole history behind the players' cards
pub flat_parts : (n : ℕ) (h : List ℕ) → flat_by (parts n h).round (parts n h) ≡ drop n h
unfolding parts
flat_parts n h = flat_after n n h
