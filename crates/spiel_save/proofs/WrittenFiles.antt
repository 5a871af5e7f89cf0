-- What is written reads back.
use Rattle.std.proofs.Common.{◌≡◌, ℕ, suc, ◌^◌, ◌<◌, ◌≤◌, Bool, true, List, [], ◌∷◌, length, map, get_or, Some, Ok, refl, ◌∙◌, ap, arith}
use Rattle.std.specs.Prelude.{if◌then◌else◌, codes}
use Rattle.std.specs.List.{list_all}
use Rattle.std.specs.Char.{is_ascii_digit}
use Rattle.std.specs.Fmt.{decimal}
use Rattle.std.proofs.lemmas.Bool.{and_from, and_parts}
use Rattle.spiel_string.specs.Canonical.{game_text}
use Rattle.spiel_string.specs.Game.{Game}
use Rattle.spiel_string.specs.Reading.{most_bytes, IsRead}
use Rattle.spiel_string.specs.WellFormed.{IsWellFormed}
use Rattle.spiel_save.specs.Lines.{Line, is_kept, kept, numbered}
use Rattle.spiel_save.specs.Numbers.{numbers_of, with_first, with_number}
use Rattle.spiel_save.specs.Saved.{body_of, saved_lines, saved_text, IsSaved}
use Rattle.spiel_frac.proofs.DecimalNumbers.{decimal_number-decimal}
use Rattle.spiel_frac.proofs.Numerals.{decimal_digits, decimal_some}
use Rattle.spiel_save.proofs.PlainGames.{kept_game, plain_game}
use Rattle.spiel_save.proofs.Texts.{is_other, is_plain, lines_back, plain_by}

abbrev AreSmall : List ℕ → Type 0
AreSmall history = (i : ℕ) → get_or history i 0 < 2 ^ 32

wide : (n : ℕ) → n < 2 ^ 32 → n < 2 ^ 64
wide n h = omega (arith, h)

-- ---- the lines of numbers

plain_numbers : (history : List ℕ) → AreSmall history → list_all is_plain (map decimal history) ≡ true
plain_numbers [] small = refl
plain_numbers (n ∷ history) small =
    and_from (is_plain (decimal n)) _ (plain_by (decimal n) is_ascii_digit refl (decimal_digits n (wide n (small 0)))) (plain_numbers history (λ i. small (suc i)))

kept_digits : (line : List ℕ) → 0 < length line → list_all is_ascii_digit line ≡ true → is_kept line ≡ true
kept_digits [] some digits = absurd (omega (arith, some))
kept_digits (byte ∷ line) some digits = is_other byte 35 is_ascii_digit (and_parts (is_ascii_digit byte) _ digits).0 refl

kept_line : (line : Line) (lines : List Line) → is_kept line.1 ≡ true → kept (line ∷ lines) ≡ line ∷ kept lines
kept_line line lines h = ap (λ (b : Bool). if b then line ∷ kept lines else kept lines) h

kept_numbers : (above : ℕ) (history : List ℕ) → AreSmall history → kept (numbered above (map decimal history)) ≡ numbered above (map decimal history)
kept_numbers above [] small = refl
kept_numbers above (n ∷ history) small =
    kept_line (suc above, decimal n) (numbered (suc above) (map decimal history)) (kept_digits (decimal n) (decimal_some n (wide n (small 0))) (decimal_digits n (wide n (small 0))))
    ∙ ap (λ (lines : List Line). (suc above, decimal n) ∷ lines) (kept_numbers (suc above) history (λ i. small (suc i)))

numbers_back : (above : ℕ) (history : List ℕ) → AreSmall history → numbers_of (numbered above (map decimal history)) ≡ Ok history
numbers_back above [] small = refl
numbers_back above (n ∷ history) small =
    ap (λ number. with_number (suc above) number (numbers_of (numbered (suc above) (map decimal history)))) (decimal_number-decimal n (small 0))
    ∙ ap (with_first n) (numbers_back (suc above) history (λ i. small (suc i)))

-- ---- the whole file

plain_lines : (game : List ℕ) (history : List ℕ) → is_plain game ≡ true → AreSmall history → list_all is_plain (saved_lines game history) ≡ true
plain_lines game history plain small = and_from (is_plain game) _ plain (plain_numbers history small)

body_back : (game : List ℕ) (history : List ℕ) → is_kept game ≡ true → AreSmall history
    → body_of (kept (numbered 0 (saved_lines game history))) ≡ Some (game, numbered 5 (map decimal history))
body_back game history keeps small =
    ap (λ (b : Bool). body_of ((1, codes "[Meta]") ∷ (2, codes "Version: 1") ∷ (3, codes "[Game]") ∷ (if b then (4, game) ∷ (5, codes "[State]") ∷ kept (numbered 5 (map decimal history)) else (5, codes "[State]") ∷ kept (numbered 5 (map decimal history))))) keeps
    ∙ ap (λ (lines : List Line). Some (game, lines)) (kept_numbers 5 history small)

pub reads_back : (g : Game) (history : List ℕ) → (IsWellFormed g → length (game_text g) ≤ most_bytes → IsRead (game_text g) g) → AreSmall history
    → IsWellFormed g → length (game_text g) ≤ most_bytes → IsSaved (saved_text g history) g history
unfolding saved_text
reads_back g history read small well short =
    let is = read well short in
    record {
      body = (game_text g, numbered 5 (map decimal history));
      found = ap (λ (lines : List (List ℕ)). body_of (kept (numbered 0 lines))) (lines_back (saved_lines (game_text g) history) (plain_lines (game_text g) history (plain_game (game_text g) g is) small))
          ∙ body_back (game_text g) history (kept_game g well.well) small;
      read = is;
      numbers = numbers_back 5 history small;
    }
