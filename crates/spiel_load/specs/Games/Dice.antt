-- Liar's dice, by its parameters.
use Rattle.std.specs.Prelude.{[], ◌∷◌, codes, Ok}
use Rattle.spiel_api.specs.Rules.{Rules}
use Rattle.spiel_dice.specs.LiarsDice.{liars_dice_rules}
use Rattle.spiel_load.specs.Given.{Asked, Read, ◌>>=◌, only_keys}
use Rattle.spiel_load.specs.Params.{number_at}

unfoldable pub liars_dice : Asked → Read Rules
liars_dice asked =
    only_keys asked (codes "dice_sides" ∷ codes "numdice" ∷ codes "players" ∷ []) >>= λ fine.
    number_at asked (codes "dice_sides") 2 20 6 >>= λ sides.
    number_at asked (codes "numdice") 1 5 1 >>= λ dice.
    number_at asked (codes "players") 2 2 2 >>= λ players.
    Ok (liars_dice_rules dice sides)
