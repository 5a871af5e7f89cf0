-- What the values of a policy come to.
use Rattle.std.specs.Prelude.{ℕ, ◌*◌, Bool, ◌&&◌, nat_le, nat_abs, List, ◌++◌, map, codes, if◌then◌else◌}
use Rattle.std.specs.Fmt.{decimal}
use Rattle.spiel_frac.specs.Fraction.{frac_text, lowest_terms, most}
use Rattle.spiel_io.specs.Plan.{Plan, Give, Refuse, ◌>>=◌}
use Rattle.spiel_response.specs.Values.{Judged, denominator_of, size_below, value_of}
use Rattle.spiel_response.specs.declared.fault.JudgeFault.TheVariants.{Overflow}
use Rattle.spiel_play.specs.Block.{below, ended, lines_text}
use Rattle.spiel_play.specs.Facts.{title_line}
use Rattle.spiel_cli.specs.Case.{Case, case_plan}
use Rattle.spiel_cli.specs.declared.refusal.Refusal.{Refusal}
use Rattle.spiel_cli.specs.declared.refusal.Refusal.TheVariants.{Judging}

-- what a player gets on average, in lowest terms
abbrev pub value_text : Judged → ℕ → List ℕ
value_text j p = frac_text (lowest_terms (value_of j p) (denominator_of j))

abbrev pub value_line : Judged → ℕ → List ℕ
value_line j p = codes "value " ++ decimal p ++ codes " " ++ value_text j p

-- a line for each player
abbrev pub value_lines : Judged → List (List ℕ)
value_lines j = map (value_line j) (below j.tree.players)

-- twice the denominator, and the sizes of all parts together, are at most 2^127 - 1
abbrev pub numbers_fit : Judged → Bool
numbers_fit j = nat_le (2 * nat_abs (denominator_of j)) most && nat_le (size_below j j.tree.players) most

-- a line with the name of the game, and the values
abbrev pub values_text : Case → List ℕ
values_text case = ended (title_line case.text) ++ lines_text (value_lines case.judged)

-- the values, where the numbers fit
abbrev pub case_values : Case → Plan (List ℕ) Refusal
case_values case = if numbers_fit case.judged then Give (values_text case) else Refuse (Judging Overflow)

-- `value GAME POLICY`
abbrev pub value_plan : List ℕ → List ℕ → Plan (List ℕ) Refusal
value_plan game policy = case_plan game policy >>= case_values
