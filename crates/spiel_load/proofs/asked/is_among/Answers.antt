use Rattle.std.proofs.Common.{Bor, List, ℕ, ◌∙◌}
use Rattle.std.specs.Str.{bytes_eq}
use Rattle.spiel_load.proofs.Finding.{any_map}
use Rattle.spiel_load.proofs.asked.is_among.Goals as goal

pub returns : goal.returns
returns c = c.has_text.ensures ∙ any_map (λ (key : Bor (List ℕ)). key.now) (λ key. bytes_eq key c.args.text.now) c.args.keys.now
