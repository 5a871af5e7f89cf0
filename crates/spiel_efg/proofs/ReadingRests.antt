-- What is left to read, from one token to the next.
use Rattle.std.proofs.Common.{◌≡◌, ℕ, suc, ◌+◌, ◌<◌, List, [], ◌∷◌, length, map, take, drop, ◌-◌, sym, ap, ◌∙◌, arith, get_or}
use Rattle.std.proofs.lemmas.List.{drop_all, length-drop, take_all}
use Rattle.std.proofs.Math.Seq.{drop-cons}
use Rattle.spiel_string.specs.declared.token.Token.{Token}
use Rattle.spiel_string.specs.declared.token.Token.TheVariants.{Left}
use Rattle.spiel_efg.specs.ReadingTokens.{Rest, behind, behind_first, mark_of, rest_from}

-- behind a token the next one is left
pub behind_is : (bytes : List ℕ) (tokens : List Token) (at : ℕ) → at < length tokens → rest_from bytes tokens (at + 1) ≡ behind (rest_from bytes tokens at)
behind_is bytes tokens at l =
    let next : suc at ≡ at + 1 = omega arith in
    let split : drop at tokens ≡ get_or tokens at Left ∷ drop (suc at) tokens = drop-cons tokens at Left l in
    sym (ap (λ (left : List Token). behind_first at (map (mark_of bytes) left)) split ∙ ap (rest_from bytes tokens) next)

-- behind all of them nothing is left
pub behind_last : (bytes : List ℕ) (tokens : List Token) (at : ℕ) → length tokens ≡ at → rest_from bytes tokens at ≡ behind (rest_from bytes tokens at)
behind_last bytes tokens at e =
    let none : drop at tokens ≡ [] = drop_all at tokens (omega (arith, e)) in
    ap (λ (left : List Token). let rest : Rest = record { before = at; marks = map (mark_of bytes) left } in rest) none
    ∙ sym (ap (λ (left : List Token). behind_first at (map (mark_of bytes) left)) none)

-- all that is left, as a slice up to the end
pub to_the_end : {A : Type 0} (xs : List A) (at : ℕ) → take (length xs - at) (drop at xs) ≡ drop at xs
to_the_end {A} xs at = take_all (length xs - at) (drop at xs) (omega (arith, length-drop at xs))
