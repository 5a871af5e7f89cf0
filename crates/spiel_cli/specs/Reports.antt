-- The report on a policy: what each player gets, what the best response would get, how far the policy is
-- from an equilibrium, and the response.
use Rattle.std.specs.Prelude.{ℕ, Bool, List, [], ◌++◌, length, map, slice_index, codes, pos, ◌*ℤ◌, if◌then◌else◌}
use Rattle.std.specs.Fmt.{decimal}
use Rattle.spiel_frac.specs.Fraction.{frac_text, lowest_terms}
use Rattle.spiel_io.specs.Plan.{Plan, Give, Refuse, ◌>>=◌}
use Rattle.spiel_tree.specs.States.{numbers_of, state_at, states_below}
use Rattle.spiel_tree.specs.Trees.{Whole}
use Rattle.spiel_response.specs.BestResponses.{best_value, has_constant_sum, nash_conv_of, response}
use Rattle.spiel_response.specs.Values.{Judged, denominator_of}
use Rattle.spiel_response.specs.declared.fault.JudgeFault.TheVariants.{Overflow}
use Rattle.spiel_play.specs.Block.{below, ended, lines_text}
use Rattle.spiel_play.specs.Facts.{title_line}
use Rattle.spiel_cli.specs.Case.{Case, case_plan}
use Rattle.spiel_cli.specs.Value.{numbers_fit, value_lines}
use Rattle.spiel_cli.specs.declared.refusal.Refusal.{Refusal}
use Rattle.spiel_cli.specs.declared.refusal.Refusal.TheVariants.{Judging}

abbrev pub histories_line : Whole → List ℕ
histories_line tree = codes "histories " ++ decimal (length tree.rows)

abbrev pub states_line : Whole → List ℕ
states_line tree = codes "states " ++ decimal (length (states_below tree.players tree.rows))

-- what a player's best response gets on average, in lowest terms
abbrev pub best_line : Judged → ℕ → List ℕ
best_line j p = codes "best " ++ decimal p ++ codes " " ++ frac_text (lowest_terms (best_value j p) (denominator_of j))

abbrev pub best_lines : Judged → List (List ℕ)
best_lines j = map (best_line j) (below j.tree.players)

-- what the players gain in all, if each alone goes over to the best response
abbrev pub nash_conv_line : Judged → List ℕ
nash_conv_line j = codes "nash_conv " ++ frac_text (lowest_terms (nash_conv_of j) (denominator_of j))

-- half of that, where there are two players and their returns sum to one number at all ends
abbrev pub exploitability_text : Judged → List ℕ
exploitability_text j = if has_constant_sum j.tree then frac_text (lowest_terms (nash_conv_of j) (pos 2 *ℤ denominator_of j)) else codes "none"

abbrev pub exploitability_line : Judged → List ℕ
exploitability_line j = codes "exploitability " ++ exploitability_text j

-- the number that the best response takes at an information state
abbrev pub answer_number : Judged → ℕ → ℕ
answer_number j s = slice_index (numbers_of j.tree.players j.tree.rows s) (response j (state_at j.tree.players j.tree.rows s).player s)

-- the player of an information state, that number, and what the player sees
abbrev pub answer_line : Judged → ℕ → List ℕ
answer_line j s =
    codes "answer " ++ decimal (state_at j.tree.players j.tree.rows s).player ++ codes " " ++ decimal (answer_number j s)
    ++ codes " " ++ (state_at j.tree.players j.tree.rows s).text

-- a line for each information state, by player and within a player by its first history
abbrev pub answer_lines : Judged → List (List ℕ)
answer_lines j = map (answer_line j) (below (length (states_below j.tree.players j.tree.rows)))

-- the lines of the sizes, and of the values with and without the best responses
abbrev pub value_report : Judged → List ℕ
value_report j =
    ended (histories_line j.tree) ++ ended (states_line j.tree) ++ lines_text (value_lines j) ++ lines_text (best_lines j)
    ++ ended (nash_conv_line j) ++ ended (exploitability_line j)

-- the lines of the best responses, unless the report is brief
abbrev pub response_report : Bool → Judged → List ℕ
response_report brief j = if brief then [] else lines_text (answer_lines j)

-- the whole report
unfoldable pub report_text : Bool → Case → List ℕ
report_text brief case = ended (title_line case.text) ++ value_report case.judged ++ response_report brief case.judged

-- the report, where the numbers fit
abbrev pub case_report : Bool → Case → Plan (List ℕ) Refusal
case_report brief case = if numbers_fit case.judged then Give (report_text brief case) else Refuse (Judging Overflow)

-- `judge GAME POLICY [--brief]`
abbrev pub judge_plan : List ℕ → List ℕ → Bool → Plan (List ℕ) Refusal
judge_plan game policy brief = case_plan game policy >>= case_report brief
