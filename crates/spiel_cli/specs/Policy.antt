-- What writing a policy as a file decides.
use Rattle.std.specs.Prelude.{ℕ, List}
use Rattle.spiel_io.specs.Plan.{Plan, Give, ◌>>=◌}
use Rattle.spiel_policy.specs.Writing.{policy_text}
use Rattle.spiel_cli.specs.Case.{Case, case_plan}
use Rattle.spiel_cli.specs.declared.refusal.Refusal.{Refusal}

-- the file of the policy
abbrev pub case_file : Case → Plan (List ℕ) Refusal
case_file case = Give (policy_text case.judged.tree case.judged.profile)

-- `policy GAME POLICY`
abbrev pub policy_plan : List ℕ → List ℕ → Plan (List ℕ) Refusal
policy_plan game policy = case_plan game policy >>= case_file
