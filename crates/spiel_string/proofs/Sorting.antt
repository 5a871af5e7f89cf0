-- Pairs that are put in one after another are sorted.
use Rattle.std.proofs.Common.{◌≡◌, ℕ, Bool, true, false, List, [], ◌∷◌, ◌++◌, refl, sym, ◌∙◌, ap, append_assoc, append-nil}
use Rattle.std.specs.Ordering.{is_lt, ordering_reverse}
use Rattle.std.specs.declared.cmp.Ordering.{Ordering}
use Rattle.std.specs.declared.cmp.Ordering.TheVariants.{Less, Equal, Greater}
use Rattle.std.proofs.lemmas.Bool.{true≢false}
use Rattle.std.proofs.lemmas.Cmp.{nat_list_cmp_total}
use Rattle.spiel_string.specs.Insertion.{insert_pair}
use Rattle.spiel_string.specs.Sorted.{key_lt, put_pair, sorted}
use Rattle.spiel_string.proofs.KeyOrder.{Order, before}

-- the pairs, and then these, put in one after another
abbrev pub sorted_onto : {X : Type 0} → List (List ℕ × X) → List (List ℕ × X) → List (List ℕ × X)
sorted_onto done [] = done
sorted_onto done (p ∷ ps) = sorted_onto (insert_pair p done) ps

key_lt-trans : (a b c : List ℕ) → key_lt a b ≡ true → key_lt b c ≡ true → key_lt a c ≡ true
key_lt-trans a b c h q = ap is_lt (nat_list_cmp_total.trans a b c (before a b h) (before b c q))

-- q isn't below p, where p isn't above x and x isn't above q
key_ge-trans : (q x p : List ℕ) → key_lt x p ≡ false → key_lt q x ≡ false → key_lt q p ≡ false
key_ge-trans q x p a b = go (Order x p) refl (key_lt q p) refl
  where
    go : (o : Ordering) → Order x p ≡ o → (c : Bool) → key_lt q p ≡ c → c ≡ false
    go Less e true f = absurd (true≢false (sym (ap is_lt e) ∙ a))
    go Equal e true f =
        let same : Order q x ≡ Order q p = nat_list_cmp_total.antisymm q x ∙ ap ordering_reverse (nat_list_cmp_total.congr x p q e) ∙ sym (nat_list_cmp_total.antisymm q p) in
        absurd (true≢false (sym f ∙ sym (ap is_lt same) ∙ b))
    go Greater e true f =
        let below : Order p x ≡ Less = nat_list_cmp_total.antisymm p x ∙ ap ordering_reverse e in
        absurd (true≢false (sym (ap is_lt (nat_list_cmp_total.trans q p x (before q p f) below)) ∙ b))
    go o e false f = refl

-- it is one whether the first or the last is put in first
put-insert : {X : Type 0} (p q : List ℕ × X) (xs : List (List ℕ × X)) → put_pair p (insert_pair q xs) ≡ insert_pair q (put_pair p xs)
put-insert p q [] = refl
put-insert {X} p q (x ∷ xs) = go (key_lt q.0 x.0) (key_lt x.0 p.0) (key_lt q.0 p.0) refl refl refl (put-insert p q xs)
  where
    go : (a b c : Bool) → key_lt q.0 x.0 ≡ a → key_lt x.0 p.0 ≡ b → key_lt q.0 p.0 ≡ c → put_pair p (insert_pair q xs) ≡ insert_pair q (put_pair p xs)
        → put_pair p (insert_pair q (x ∷ xs)) ≡ insert_pair q (put_pair p (x ∷ xs))
    go true true true ea eb ec h = rw (ea, eb, ec, ea) refl
    go true true false ea eb ec h = absurd (true≢false (sym (key_lt-trans q.0 x.0 p.0 ea eb) ∙ ec))
    go true false true ea eb ec h = rw (ea, eb, ec) refl
    go true false false ea eb ec h = rw (ea, eb, ec, ea) refl
    go false true c ea eb ec h = rw (ea, eb, ea) (ap (λ u. x ∷ u) h)
    go false false true ea eb ec h = absurd (true≢false (sym ec ∙ key_ge-trans q.0 x.0 p.0 eb ea))
    go false false false ea eb ec h = rw (ea, eb, ec, ea) refl

-- one more at the end
pub sorted-push : {X : Type 0} (xs : List (List ℕ × X)) (q : List ℕ × X) → sorted (xs ++ q ∷ []) ≡ insert_pair q (sorted xs)
sorted-push [] q = refl
sorted-push (x ∷ xs) q = ap (put_pair x) (sorted-push xs q) ∙ put-insert x q (sorted xs)

sorted_onto-sorted : {X : Type 0} (ys xs : List (List ℕ × X)) → sorted_onto (sorted ys) xs ≡ sorted (ys ++ xs)
sorted_onto-sorted ys [] = ap sorted (sym (append-nil ys))
sorted_onto-sorted ys (x ∷ xs) =
    ap (λ u. sorted_onto u xs) (sym (sorted-push ys x)) ∙ sorted_onto-sorted (ys ++ x ∷ []) xs ∙ ap sorted (append_assoc ys (x ∷ []) xs)

pub sorted_onto-none : {X : Type 0} (xs : List (List ℕ × X)) → sorted_onto [] xs ≡ sorted xs
sorted_onto-none xs = sorted_onto-sorted [] xs
