-- Where in a history the words of a round stand.
use Rattle.std.proofs.Common.{◌≡◌, ℕ, ◌+◌, ◌-◌, ◌<◌, ◌≤◌, List, ◌∷◌, ◌++◌, length, map, take, reverse, drop, refl, ap, sym, subst, ◌∙◌, arith, length-append}
use Rattle.std.proofs.lemmas.List.{length-drop, length-reverse, drop-drop}
use Rattle.std.proofs.Math.Seq.{take-append_seam, drop-append-add}
use Rattle.spiel_poker.specs.declared.leduc.Round.{Round}
use Rattle.spiel_poker.specs.declared.leduc.Round.TheVariants.{Deal, First, Second}
use Rattle.spiel_poker.specs.declared.leduc.LeducState.{LeducState}
use Rattle.spiel_poker.specs.Betting.{word_letter}
use Rattle.spiel_poker.specs.Leduc.{parts, round_texts}
use Rattle.spiel_poker.specs.LeducState.{HasCards, IsLeducAt, round_number}
use Rattle.spiel_poker.specs.Histories.{flat_by, flat_parts}

-- behind the players' cards
flat_at : (s : LeducState) → IsLeducAt s → flat_by (round_number s.round) (parts 2 s.history) ≡ drop 2 s.history
flat_at s at = ap (λ (n : ℕ). flat_by n (parts 2 s.history)) (sym at.shows.round) ∙ flat_parts 2 s.history

flat_second : (s : LeducState) → IsLeducAt s → s.round ≡ Second → reverse (parts 2 s.history).first ++ (parts 2 s.history).public ∷ reverse (parts 2 s.history).words ≡ drop 2 s.history
flat_second s at e = ap (λ (r : Round). flat_by (round_number r) (parts 2 s.history)) (sym e) ∙ flat_at s at

-- the public card stands in the history
pub public_within : (s : LeducState) → IsLeducAt s → s.round ≡ Second → s.public_at + 1 ≤ length s.history
public_within s at e =
    let x = parts 2 s.history in
    omega (arith, ap length (flat_second s at e), length-drop 2 s.history, length-append (reverse x.first) (x.public ∷ reverse x.words), length-reverse x.first, at.shows.public_at)

pub first_words : (s : LeducState) → IsLeducAt s → s.round ≡ Second → take (s.public_at - 2) (drop 2 s.history) ≡ reverse (parts 2 s.history).first
first_words s at e =
    let x = parts 2 s.history in
    let count : s.public_at - 2 ≡ length (reverse x.first) = omega (arith, length-reverse x.first, at.shows.public_at) in
    rw (count, ← (flat_second s at e)) (take-append_seam (reverse x.first) (x.public ∷ reverse x.words))

pub second_words : (s : LeducState) → IsLeducAt s → s.round ≡ Second → drop (s.public_at + 1) s.history ≡ reverse (parts 2 s.history).words
second_words s at e =
    let x = parts 2 s.history in
    let count : s.public_at + 1 ≡ 2 + (length (reverse x.first) + 1) = omega (arith, length-reverse x.first, at.shows.public_at) in
    rw count (sym (drop-drop (length (reverse x.first) + 1) 2 s.history) ∙ ap (λ (xs : List ℕ). drop (length (reverse x.first) + 1) xs) (sym (flat_second s at e)) ∙ drop-append-add (reverse x.first) (x.public ∷ reverse x.words) 1)

pub ruleset first_said = (public_within, first_words)

pub ruleset second_said = (public_within, second_words)

-- the text of the first round while it is on
pub early_texts : (s : LeducState) → IsLeducAt s → (s.round ≡ Second → ⊥) → 2 ≤ length s.history → map word_letter (drop 2 s.history) ≡ round_texts (parts 2 s.history).round (parts 2 s.history)
early_texts s at early both = by s.round refl
  where
    by : (r : Round) → s.round ≡ r → map word_letter (drop 2 s.history) ≡ round_texts (parts 2 s.history).round (parts 2 s.history)
    by Deal e = let few : length s.history < 2 = subst (λ (r : Round). HasCards r (length s.history)) e at.cards in absurd (omega arith)
    by First e =
        ap (λ (xs : List ℕ). map word_letter xs) (sym (flat_at s at) ∙ ap (λ (r : Round). flat_by (round_number r) (parts 2 s.history)) e)
        ∙ ap (λ (n : ℕ). round_texts n (parts 2 s.history)) (sym (at.shows.round ∙ ap round_number e))
    by Second e = absurd (early e)
