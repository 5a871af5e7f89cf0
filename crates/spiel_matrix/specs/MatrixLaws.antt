-- Matrix games keep the laws.
use Rattle.std.specs.Prelude.{◌≡◌, ℕ, zero, suc, ◌+◌, ◌^◌, ◌<◌, ◌≤◌, pos, Bool, true, false, ◌&&◌, nat_le, List, [], ◌∷◌, ◌++◌, length, map, take, slice_index_or, nat_abs, codes, if◌then◌else◌}
use Rattle.std.specs.List.{AllByRecursion, Contains, list_all, range_with_len}
use Rattle.std.proofs.Common.{refl, sym, ap, subst, ◌∙◌, arith, length-append}
use Rattle.std.proofs.lemmas.Bool.{and_parts, leb-true}
use Rattle.std.proofs.lemmas.List.{length-map, length-take}
use Rattle.std.proofs.lemmas.List.Elements.{All-from_recursion}
use Rattle.spiel_api.specs.declared.place.Place.TheVariants.{End, Joint}
use Rattle.spiel_api.specs.Place.{IsOutside}
use Rattle.spiel_api.specs.Laws.{IsLawful, IsPrinted, IsPrintable, HasWholeJointSteps}
use Rattle.spiel_api.proofs.LawLemmas.{IsPrintable-computed, decimal_printable}
use Rattle.spiel_api.proofs.NodeLaws.{AreChoices-range, IsNode, chance_weights, legal_numbers}
use Rattle.spiel_frac.specs.Fraction.{Fraction}
use Rattle.spiel_matrix.specs.declared.parts.MatrixParts.{MatrixParts}
use Rattle.spiel_matrix.specs.Names.{printed, printed_byte, strategy_name}
use Rattle.spiel_matrix.specs.Pays.{common_unit, greatest, in_parts, sizes_in}
use Rattle.spiel_matrix.specs.Parts.{is_matrix, most_pays}
use Rattle.spiel_matrix.specs.Matrix.{matrix_legal, matrix_name, matrix_place, matrix_rules, pay_place, strategies_of}
use Rattle.spiel_matrix.specs.MatrixPlays.{IsMatrix, count_low, count_small, everywhere, legal_below, matrix_from, pay_within, play_short}

-- ---- texts
byte_printed : (byte : ℕ) → IsPrinted (printed_byte byte)
byte_printed byte = by (nat_le 32 byte && nat_le byte 126) refl
  where
    by : (b : Bool) → (nat_le 32 byte && nat_le byte 126) ≡ b → IsPrinted (if b then byte else 63)
    by true e = let two = and_parts (nat_le 32 byte) (nat_le byte 126) e in (leb-true 32 byte two.0, leb-true byte 126 two.1)
    by false e = (omega arith, omega arith)

each_printed : (text : List ℕ) → AllByRecursion IsPrinted (map printed_byte text)
each_printed [] = tt
each_printed (byte ∷ text) = (byte_printed byte, each_printed text)

text_printed : (text : List ℕ) → IsPrintable 128 (printed text)
text_printed text = record {
  short = omega (arith, length-map (take 64 text) printed_byte, length-take 64 text);
  ascii = All-from_recursion IsPrinted (printed text) (each_printed (take 64 text));
}

pub name_printed : (text : List ℕ) (number : ℕ) → number < most_pays → IsPrintable 128 (strategy_name text number)
name_printed [] number l =
    let name = decimal_printable 7 (number + 1) (omega arith) (omega arith) (omega arith) in
    record { short = omega (arith, name.short); ascii = name.ascii }
name_printed (byte ∷ text) number l = text_printed (byte ∷ text)

-- ---- the cap
pub greatest_low : (sizes : List ℕ) → 1 ≤ greatest sizes
greatest_low [] = omega arith
greatest_low (size ∷ sizes) = let later = greatest_low sizes in omega arith

greatest_high : (sizes : List ℕ) (most : ℕ) → 1 ≤ most → list_all (λ size. nat_le size most) sizes ≡ true → greatest sizes ≤ most
greatest_high [] most low e = omega arith
greatest_high (size ∷ sizes) most low e =
    let two = and_parts (nat_le size most) (list_all (λ size. nat_le size most) sizes) e in
    let later = greatest_high sizes most low two.1 in
    let here = leb-true size most two.0 in
    omega arith

size_within : (unit : ℕ) (pays : List Fraction) (k : ℕ) (d : Fraction) → k < length pays → nat_abs (in_parts unit (slice_index_or pays k d)) ≤ greatest (sizes_in unit pays)
size_within unit [] k d l = absurd (omega arith)
size_within unit (pay ∷ pays) zero d l = omega arith
size_within unit (pay ∷ pays) (suc k) d l = let later = size_within unit pays k d (omega arith) in omega arith

module _ (parts : MatrixParts) (is : is_matrix parts ≡ true) (positive : 0 < common_unit parts.pays) where
  sound : IsMatrix parts
  sound = matrix_from parts is

  nodes : (h : List ℕ) → IsNode (length parts.players) (matrix_place parts h) (matrix_legal parts h) []
  nodes h = everywhere parts (λ place legal. IsNode (length parts.players) place legal []) h (λ l. (
    l,
    λ p m.
        let strategies = strategies_of parts p in
        AreChoices-range 0 (length strategies) (count_low parts.strategies p sound.shape.filled (omega (arith, sound.shape.lists))) (omega (arith, count_small parts sound.shape p)),
  )) (λ l p. refl)

  -- whoever is next has the number of the choices so far
  chooser : (h : List ℕ) (p : ℕ) → matrix_place parts h ≡ Joint p → (p ≡ length h) × (length h < length parts.players)
  chooser h p = everywhere parts (λ place legal. place ≡ Joint p → (p ≡ length h) × (length h < length parts.players)) h (λ l e. let same : length h ≡ p = cc in (sym same, l)) (λ l e. cc)

  choosing : (h : List ℕ) → length h < length parts.players → matrix_place parts h ≡ Joint (length h)
  choosing h l = everywhere parts (λ place legal. place ≡ Joint (length h)) h (λ m. refl) (λ m. absurd (omega arith))

  numbers : (h : List ℕ) (q : ℕ) → length h < length parts.players → matrix_legal parts h q ≡ range_with_len 0 (length (strategies_of parts q))
  numbers h q l = everywhere parts (λ place legal. legal q ≡ range_with_len 0 (length (strategies_of parts q))) h (λ m. refl) (λ m. absurd (omega arith))

  one_longer : (h : List ℕ) (a : ℕ) → length (h ++ a ∷ []) ≡ length h + 1
  one_longer h a = length-append h (a ∷ [])

  joint_step : HasWholeJointSteps (matrix_rules parts)
  joint_step = record {
    begins = subst IsOutside (sym (choosing [] sound.shape.players_low)) refl;
    enters = λ h a p play e.
        let at = chooser (h ++ a ∷ []) (p + 1) e in
        let long = one_longer h a in
        let same : length h ≡ p = omega (arith, at.0, long) in
        choosing h (omega (arith, at.1, long)) ∙ ap Joint same;
    runs = λ h a p play e l.
        let at = chooser h p e in
        let long = one_longer h a in
        choosing (h ++ a ∷ []) (omega (arith, at.0, long, l)) ∙ ap Joint (omega (arith, at.0, long));
    same_legal = λ h a p q play e l.
        let at = chooser h p e in
        let long = one_longer h a in
        numbers (h ++ a ∷ []) q (omega (arith, at.0, long, l)) ∙ sym (numbers h q at.1);
    same_info = λ h a p q play e l m. refl;
  }

  names : (h : List ℕ) (p a : ℕ) → Contains (matrix_legal parts h p) a → IsPrintable 128 (matrix_name parts p a)
  names h p a c = name_printed (slice_index_or (strategies_of parts p) a []) a (omega (arith, legal_below parts h p a c, count_small parts sound.shape p))

  pub matrix_lawful : IsLawful (matrix_rules parts)
  matrix_lawful = record {
    limits = record {
      players_low = sound.shape.players_low;
      players_high = sound.shape.players_high;
      unit_low = positive;
      unit_high = sound.unit_high;
      cap_low = greatest_low (sizes_in (common_unit parts.pays) parts.pays);
      cap_high = greatest_high (sizes_in (common_unit parts.pays) parts.pays) (2 ^ 62) (omega arith) sound.small;
      short = λ h play. omega (arith, play_short parts sound.shape h play, sound.shape.players_high);
    };
    numbers = legal_numbers (matrix_rules parts) (λ h play. nodes h);
    chance = chance_weights (matrix_rules parts) (λ h play. nodes h);
    joint = joint_step;
    texts = record {
      infos = λ h p play has l. IsPrintable-computed 32768 (codes "start") refl refl;
      names = λ h p a play c. names h p a c;
    };
    capped = λ h p play end l. size_within (common_unit parts.pays) parts.pays (pay_place parts h p) (record { num = pos 0; den = 1 }) (pay_within parts sound.shape h p play end l);
    one_shot = λ o. record {
      joint_root = choosing [] sound.shape.players_low;
      one_step = λ h play e. everywhere parts (λ place legal. place ≡ End) h (λ l. absurd (omega (arith, e))) (λ l. refl);
      short_infos = λ h p play has l. omega arith;
    };
  }
