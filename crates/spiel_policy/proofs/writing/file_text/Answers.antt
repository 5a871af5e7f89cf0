use Rattle.std.proofs.Common.{◌≡◌, ◌++◌, ◌∷◌, [], List, ℕ, refl, sym, ap, ◌∙◌, subst}
use Rattle.std.specs.Prelude.{IsUtf8}
use Rattle.std.proofs.lemmas.Str.{IsUtf8-append}
use Rattle.json.proofs.Printed.Utf8.{IsUtf8-are_ascii}
use Rattle.spiel_policy.proofs.FileText.{file_head, whole_text}
use Rattle.spiel_policy.proofs.writing.file_text.Goals as goal

pub returns-clause-text : goal.returns-clause-text
returns-clause-text c =
    let head : c.push.new.self ≡ file_head = c.in_ok-push.ensures.ok ∙ ap (λ (l : List ℕ). l ++ file_head) c.new-out.ensures in
    whole_text c.args.tree.now c.args.policy.now c.push.new.self c.push_entries.new.out c.push-2.new.self head c.in_ok-push_entries.ensures.text c.in_ok-push-2.ensures.ok

pub returns-clause-utf8 : goal.returns-clause-utf8
returns-clause-utf8 c =
    let head : c.push.new.self ≡ file_head = c.in_ok-push.ensures.ok ∙ ap (λ (l : List ℕ). l ++ file_head) c.new-out.ensures in
    let entries = c.in_ok-push_entries.ensures.utf8 (subst IsUtf8 (sym head) (IsUtf8-are_ascii file_head refl)) in
    subst IsUtf8 (sym c.in_ok-push-2.ensures.ok) (IsUtf8-append c.push_entries.new.out (93 ∷ 125 ∷ 10 ∷ []) entries (IsUtf8-are_ascii (93 ∷ 125 ∷ 10 ∷ []) refl))
