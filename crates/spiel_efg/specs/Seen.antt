-- By what sets were seen.
use Rattle.std.specs.Prelude.{List, map}
use Rattle.spiel_efg.specs.declared.seen.SetKey.{SetKey}
use Rattle.spiel_efg.specs.Sets.{Key}

abbrev pub pair : SetKey → Key
pair key = (key.player, key.number)

abbrev pub pairs : List SetKey → List Key
pairs keys = map pair keys
