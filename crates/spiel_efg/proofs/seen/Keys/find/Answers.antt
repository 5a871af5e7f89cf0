use Rattle.std.proofs.Common.{ap, ◌∙◌, List}
use Rattle.std.specs.Prelude.{position}
use Rattle.spiel_efg.specs.Sets.{Key, is_same_key}
use Rattle.spiel_efg.proofs.ReadingMentions.{key_place}
use Rattle.spiel_efg.proofs.seen.Keys.find.Goals as goal

pub returns-clause-place : goal.returns-clause-place
returns-clause-place c =
    c.get_index_of.ensures.index
    ∙ key_place (record { player = c.args.player; number = c.args.number }) c.self.inside.keys.keys
    ∙ ap (λ (keys : List Key). position (is_same_key (c.args.player, c.args.number)) keys) c.self.view_is
