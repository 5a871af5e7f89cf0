-- What clap builds of the command of a shape.
use Rattle.std.proofs.Common.{◌≡◌, ◌∙◌, ◌&&◌, ◌||◌, ap, refl, ℕ, suc, Bool, true, false, not, List, [], ◌∷◌, ◌++◌, map, is_some}
use Rattle.std.specs.List.{list_all, list_any}
use Rattle.std.specs.Prelude.{count_by}
use Rattle.clap.specs.Walk.{Text, Rule, is_early_multiple}
use Rattle.clap.specs.Simple.{Shape as CommandShape, built, filled, filled_from}
use Rattle.clap.specs.Faults.{is_simple_and_free}
use Rattle.spiel_words.specs.Line.{Shape}
use Rattle.spiel_words.specs.Rules.{app_for, flag_rule, option_rule, place_rule, numbered, rules_for}

-- the rules with what they left out
abbrev pub place_built : ℕ → Text → Rule
place_built index name = filled (place_rule index name)

abbrev pub flag_built : Text → Rule
flag_built name = filled (flag_rule name)

abbrev pub option_built : Text → Rule
option_built name = filled (option_rule name)

abbrev pub all_built : Shape → List Rule
all_built shape = numbered place_built 1 shape.places ++ (map flag_built shape.flags ++ map option_built shape.options)

abbrev pub top_of : Shape → CommandShape
top_of shape = (built (app_for shape)).top

filled-options : (i : ℕ) (names : List Text) → filled_from i (map option_rule names) ≡ map option_built names
filled-options i [] = refl
filled-options i (name ∷ names) = ap (λ rules. option_built name ∷ rules) (filled-options i names)

filled-flags : (i : ℕ) (names others : List Text) → filled_from i (map flag_rule names ++ map option_rule others) ≡ map flag_built names ++ map option_built others
filled-flags i [] others = filled-options i others
filled-flags i (name ∷ names) others = ap (λ rules. flag_built name ∷ rules) (filled-flags i names others)

filled-places : (i k : ℕ) (places flags options : List Text) → filled_from i (numbered place_rule k places ++ (map flag_rule flags ++ map option_rule options))
    ≡ numbered place_built k places ++ (map flag_built flags ++ map option_built options)
filled-places i k [] flags options = filled-flags i flags options
filled-places i k (name ∷ names) flags options = ap (λ rules. place_built k name ∷ rules) (filled-places i (suc k) names flags options)

pub rules_built : (shape : Shape) → (top_of shape).rules ≡ all_built shape
rules_built shape = filled-places 1 1 shape.places shape.flags shape.options

-- a test that passes at each rule
module _ (test : Rule → Bool) (place : ℕ → Text → Rule) (flag option : Text → Rule) (on_place : (k : ℕ) (name : Text) → test (place k name) ≡ true)
    (on_flag : (name : Text) → test (flag name) ≡ true) (on_option : (name : Text) → test (option name) ≡ true) where
  all-options : (names : List Text) → list_all test (map option names) ≡ true
  all-options [] = refl
  all-options (name ∷ names) = ap (λ b. b && list_all test (map option names)) (on_option name) ∙ all-options names

  all-flags : (names others : List Text) → list_all test (map flag names ++ map option others) ≡ true
  all-flags [] others = all-options others
  all-flags (name ∷ names) others = ap (λ b. b && list_all test (map flag names ++ map option others)) (on_flag name) ∙ all-flags names others

  pub all-rules : (k : ℕ) (places flags options : List Text) → list_all test (numbered place k places ++ (map flag flags ++ map option options)) ≡ true
  all-rules k [] flags options = all-flags flags options
  all-rules k (name ∷ names) flags options =
      ap (λ b. b && list_all test (numbered place (suc k) names ++ (map flag flags ++ map option options))) (on_place k name) ∙ all-rules (suc k) names flags options

none-any : (test : Rule → Bool) (rules : List Rule) → list_all (λ rule. not (test rule)) rules ≡ true → list_any test rules ≡ false
none-any test [] all = refl
none-any test (rule ∷ rules) all = go (test rule) all (none-any test rules)
  where
    go : (b : Bool) → (not b && list_all (λ r. not (test r)) rules) ≡ true → (list_all (λ r. not (test r)) rules ≡ true → list_any test rules ≡ false) → (b || list_any test rules) ≡ false
    go true all below = let bad : false ≡ true = all in cc
    go false all below = below all

simple_rules : (shape : Shape) → list_all (λ rule. rule.is_simple) (rules_for shape) ≡ true
simple_rules shape = all-rules (λ rule. rule.is_simple) place_rule flag_rule option_rule (λ k name. refl) (λ name. refl) (λ name. refl) 1 shape.places shape.flags shape.options

simple_built : (shape : Shape) → list_all (λ rule. rule.is_simple) (all_built shape) ≡ true
simple_built shape = all-rules (λ rule. rule.is_simple) place_built flag_built option_built (λ k name. refl) (λ name. refl) (λ name. refl) 1 shape.places shape.flags shape.options

free_built : (shape : Shape) → list_all (λ rule. rule.is_free) (all_built shape) ≡ true
free_built shape = all-rules (λ rule. rule.is_free) place_built flag_built option_built (λ k name. refl) (λ name. refl) (λ name. refl) 1 shape.places shape.flags shape.options

in_order : (shape : Shape) (n : ℕ) → list_any (is_early_multiple n) (all_built shape) ≡ false
in_order shape n = none-any (is_early_multiple n) (all_built shape)
    (all-rules (λ rule. not (is_early_multiple n rule)) place_built flag_built option_built (λ k name. refl) (λ name. refl) (λ name. refl) 1 shape.places shape.flags shape.options)

pub simple : (shape : Shape) → is_simple_and_free (app_for shape) ≡ true
simple shape =
    let a = simple_rules shape in
    let b : list_all (λ (rule : Rule). rule.is_simple) (top_of shape).rules ≡ true = ap (list_all (λ (rule : Rule). rule.is_simple)) (rules_built shape) ∙ simple_built shape in
    let c : list_all (λ (rule : Rule). rule.is_free) (top_of shape).rules ≡ true = ap (list_all (λ (rule : Rule). rule.is_free)) (rules_built shape) ∙ free_built shape in
    let n : ℕ = count_by (λ (rule : Rule). is_some rule.index) (top_of shape).rules in
    let d : list_any (is_early_multiple n) (top_of shape).rules ≡ false = ap (list_any (is_early_multiple n)) (rules_built shape) ∙ in_order shape n in
    simp (a, b, c, d)
