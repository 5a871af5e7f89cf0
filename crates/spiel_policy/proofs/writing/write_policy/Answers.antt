use Rattle.std.proofs.Common.{◌≡◌, ap, ◌∙◌, subst, Option, Ok, Err}
use Rattle.std.specs.Prelude.{IsUtf8, OnOk}
use Rattle.std.specs.Option.{ok_or}
use Rattle.serde_json.specs.Data.{Data}
use Rattle.spiel_policy.specs.Reading.{go_on, policy_of, profile_of_data}
use Rattle.spiel_policy.specs.Writing.{HasShortWeights, policy_text}
use Rattle.spiel_policy.specs.declared.fault.PolicyFault.TheVariants.{Json}
use Rattle.spiel_policy.proofs.FileRead.{file_read}
use Rattle.spiel_policy.proofs.FileText.{file_text_read}
use Rattle.spiel_policy.proofs.writing.write_policy.Goals as goal

pub returns-clause-reads_back : goal.returns-clause-reads_back
unfolding policy_of
returns-clause-reads_back c =
    let tree = c.args.tree.now in
    let policy = c.args.policy.now in
    let done = c.in_ok-text.ensures in
    let back : HasShortWeights policy → policy_of tree (policy_text tree policy) ≡ Ok policy = λ short.
    ap (λ (o : Option Data). go_on (profile_of_data tree) (ok_or o Json)) (file_text_read tree policy done.game (subst IsUtf8 done.text done.utf8))
    ∙ file_read tree policy done.game c.requires short in
    elim c.append.result as (λ r. OnOk r (HasShortWeights policy → policy_of tree (policy_text tree policy) ≡ Ok policy)) [ Ok done ↦ back | Err error ↦ tt ]
