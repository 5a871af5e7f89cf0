use Rattle.std.proofs.Common.{◌≡◌, ◌∙◌, sym, ap, nat_eq, Some}
use Rattle.std.specs.Prelude.{option_map}
use Rattle.serde_json.specs.Find.{as_object}
use Rattle.serde_json.specs.View.{view, members_view}
use Rattle.spiel_policy.proofs.Shapes.{count-members_view, has_members-is}
use Rattle.spiel_policy.proofs.entries.has_members.Goals as goal

pub returns-in-Some : goal.returns-in-Some
returns-in-Some c =
    let members = c.in-Some.members.now.entries in
    let found : as_object (view c.args.value.now) ≡ Some (members_view members) = sym c.as_object.ensures ∙ ap (option_map (λ m. members_view m.now.entries)) c.in-Some.is in
    ap (λ n. nat_eq n c.args.count) (c.len.ensures.len ∙ sym (count-members_view members)) ∙ sym (has_members-is c.args.count (view c.args.value.now) (members_view members) found)
