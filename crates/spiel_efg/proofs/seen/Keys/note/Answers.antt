use Rattle.std.proofs.Common.{◌∙◌, ap, not, rules}
use Rattle.std.specs.List.{list_any}
use Rattle.spiel_efg.specs.Sets.{is_same_key}
use Rattle.spiel_efg.proofs.Keys.{any_pair}
use Rattle.spiel_efg.proofs.seen.Keys.note.Goals as goal
use Rattle.spiel_efg.proofs.seen.Keys.note.Goals.{in-Ok, in-Err}

pub returns-clause-is_new : goal.returns-clause-is_new
returns-clause-is_new c = elim c.match-insert_full.branch [
  | in-Ok w ↦ rw w.result-is (w.in-Ok.ensures.added
      ∙ ap not (any_pair (record { player = c.args.player; number = c.args.number }) c.self.inside.keys.keys)
      ∙ ap (λ keys. not (list_any (is_same_key (c.args.player, c.args.number)) keys)) c.self.view_is)
  | in-Err w ↦ search rules
]
