-- What is told of the rounds that are over: printable, and not too long.
use Rattle.std.specs.Prelude.{ℕ, ◌-◌, ◌*◌, ◌^◌, ◌<◌, ◌≤◌, List, ◌++◌, length, flat_map, codes}
use Rattle.std.specs.Fmt.{decimal}
use Rattle.std.specs.List.{All}
use Rattle.std.proofs.Common.{refl, arith}
use Rattle.std.proofs.lemmas.List.Elements.{All-weaker}
use Rattle.spiel_api.specs.Laws.{IsPrinted, IsPrintable}
use Rattle.spiel_api.proofs.LawLemmas.{IsPrintable-append, IsPrintable-computed, IsPrintable-texts, decimal_printable}
use Rattle.spiel_layers.specs.Repeated.{with_space, rounds_told}

printable_number : (a : ℕ) → a < 2 ^ 32 - 1 → IsPrintable 11 (with_space a)
printable_number a l =
    IsPrintable-append 10 1 11 (decimal a) (codes " ") (omega arith) (decimal_printable 10 a (omega arith) (omega arith) (omega arith)) (IsPrintable-computed 1 (codes " ") refl refl)

-- the numbers of at most 1,024 choices, and a text of the stage
pub told_printable : (numbers text : List ℕ) → length numbers ≤ 1024 → All (λ a. a < 2 ^ 32 - 1) numbers → length text ≤ 16384 → All IsPrinted text → IsPrintable 32768 (rounds_told numbers ++ text)
told_printable numbers text few small short ascii =
    let told = IsPrintable-texts 11 with_space numbers (All-weaker (λ a. a < 2 ^ 32 - 1) (λ a. IsPrintable 11 (with_space a)) printable_number numbers small) in
    let ended = IsPrintable-append (11 * length numbers) 2 11266 (flat_map with_space numbers) (codes "| ") (omega arith) told (IsPrintable-computed 2 (codes "| ") refl refl) in
    IsPrintable-append 11266 16384 32768 (rounds_told numbers) text (omega arith) ended (record { short = short; ascii = ascii })
