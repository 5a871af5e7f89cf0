use Rattle.std.proofs.Common.{◌≡◌, ◌++◌, [], List, ℕ, sym, ap, ap₂, ◌∙◌, subst}
use Rattle.std.specs.Prelude.{IsUtf8}
use Rattle.json.specs.Print.{print}
use Rattle.json.specs.Token.{Token}
use Rattle.serde_json.proofs.Texts.{print-outline}
use Rattle.spiel_policy.specs.Writing.{data_tokens, entry_data_at}
use Rattle.spiel_policy.proofs.writing.entry_bytes.Goals as goal

pub returns-clause-text : goal.returns-clause-text
returns-clause-text c =
    let d = entry_data_at c.args.tree.now c.args.policy.now c.args.state in
    let empty : c.write_entry.new.writer.before ≡ [] = c.in_ok-write_entry.ensures.before ∙ c.new-writer.ensures.before ∙ c.in_ok-with_capacity.ensures.items in
    let written : c.write_entry.new.writer.tokens ≡ data_tokens d = c.in_ok-write_entry.ensures.tokens ∙ ap (λ (ts : List Token). ts ++ data_tokens d) c.new-writer.ensures.tokens in
    c.into_inner.ensures.items ∙ ap₂ (λ (bs : List ℕ) (ts : List Token). bs ++ print ts) empty written ∙ print-outline d

pub returns-clause-utf8 : goal.returns-clause-utf8
returns-clause-utf8 c =
    let empty : c.write_entry.new.writer.before ≡ [] = c.in_ok-write_entry.ensures.before ∙ c.new-writer.ensures.before ∙ c.in_ok-with_capacity.ensures.items in
    subst IsUtf8 (sym (c.into_inner.ensures.items ∙ ap (λ (bs : List ℕ). bs ++ print c.write_entry.new.writer.tokens) empty)) c.into_inner.ensures.utf8
