-- The point card with which a turn begins.
use Rattle.std.proofs.Common.{◌≡◌, ℕ, ◌-◌, ◌<◌, ◌≤◌, length, reverse, get_or, Some, refl, ap, sym, ◌∙◌, arith}
use Rattle.std.specs.Prelude.{slice_get}
use Rattle.std.proofs.lemmas.List.{length-reverse, get_or-reverse}
use Rattle.std.proofs.lemmas.Option.{slice_get-get_or, slice_get_past}
use Rattle.spiel_goof.specs.declared.turns.Stage.TheVariants.{Between, Shown}
use Rattle.spiel_goof.specs.declared.goofspiel.PointOrder.{PointOrder}
use Rattle.spiel_goof.specs.declared.goofspiel.PointOrder.TheVariants.{Random, Ascending, Descending}
use Rattle.spiel_api.specs.Deck.{numbers_below}
use Rattle.spiel_api.proofs.CardsLeft.{length-numbers_below, number_at}
use Rattle.spiel_goof.specs.Goofspiel.{given_points}
use Rattle.spiel_goof.specs.Turns.{begun}

-- behind the last turn no card is given
pub past_last : (order : PointOrder) (n k : ℕ) → n ≤ k → Between ≡ begun (slice_get (given_points order n) k)
past_last Random n k l = refl
past_last Ascending n k l = sym (ap begun (slice_get_past (numbers_below n) k (omega (arith, length-numbers_below n))))
past_last Descending n k l = sym (ap begun (slice_get_past (reverse (numbers_below n)) k (omega (arith, length-reverse (numbers_below n), length-numbers_below n))))

rising_at : (n k : ℕ) → k < n → Shown k ≡ begun (slice_get (numbers_below n) k)
rising_at n k l =
    sym (ap begun (slice_get-get_or (numbers_below n) k 0 (omega (arith, length-numbers_below n)) ∙ ap (λ (c : ℕ). Some c) (number_at n k l)))

falling_at : (n k : ℕ) → k < n → Shown (n - 1 - k) ≡ begun (slice_get (reverse (numbers_below n)) k)
falling_at n k l =
    let many = length-numbers_below n in
    let within : k < length (numbers_below n) = omega (arith, many) in
    let mirrored : get_or (numbers_below n) (length (numbers_below n) - 1 - k) 0 ≡ n - 1 - k =
    number_at n (length (numbers_below n) - 1 - k) (omega (arith, many)) ∙ ap (λ m. m - 1 - k) many in
    sym (ap begun (slice_get-get_or (reverse (numbers_below n)) k 0 (omega (arith, within, length-reverse (numbers_below n)))
    ∙ ap (λ (c : ℕ). Some c) (get_or-reverse (numbers_below n) k 0 within ∙ mirrored)))

-- the card of a turn in rising and in falling order
pub rising : (order : PointOrder) (n k : ℕ) → order ≡ Ascending → k < n → Shown k ≡ begun (slice_get (given_points order n) k)
rising order n k e l = rw e (rising_at n k l)

pub falling : (order : PointOrder) (n k : ℕ) → order ≡ Descending → k < n → Shown (n - 1 - k) ≡ begun (slice_get (given_points order n) k)
falling order n k e l = rw e (falling_at n k l)
