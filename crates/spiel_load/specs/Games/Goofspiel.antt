-- Goofspiel, by its parameters.
use Rattle.std.specs.Prelude.{ℕ, false, List, [], ◌∷◌, codes, Ok}
use Rattle.spiel_api.specs.Rules.{Rules}
use Rattle.spiel_goof.specs.Goofspiel.{goofspiel_rules}
use Rattle.spiel_goof.specs.declared.goofspiel.PointOrder.{PointOrder}
use Rattle.spiel_goof.specs.declared.goofspiel.PointOrder.TheVariants.{Random, Ascending, Descending}
use Rattle.spiel_goof.specs.declared.goofspiel.ReturnKind.{ReturnKind}
use Rattle.spiel_goof.specs.declared.goofspiel.ReturnKind.TheVariants.{WinLoss, PointDifference, TotalPoints}
use Rattle.spiel_load.specs.Given.{Asked, Read, ◌>>=◌, only_keys}
use Rattle.spiel_load.specs.Params.{choice_at, flag_at, number_at}

abbrev pub orders : List (List ℕ × PointOrder)
orders = (codes "random", Random) ∷ (codes "ascending", Ascending) ∷ (codes "descending", Descending) ∷ []

abbrev pub return_kinds : List (List ℕ × ReturnKind)
return_kinds = (codes "win_loss", WinLoss) ∷ (codes "point_difference", PointDifference) ∷ (codes "total_points", TotalPoints) ∷ []

unfoldable pub goofspiel : Asked → Read Rules
goofspiel asked =
    only_keys asked (codes "imp_info" ∷ codes "num_cards" ∷ codes "players" ∷ codes "points_order" ∷ codes "returns_type" ∷ []) >>= λ fine.
    flag_at asked (codes "imp_info") false >>= λ hidden.
    number_at asked (codes "num_cards") 1 20 13 >>= λ cards.
    number_at asked (codes "players") 2 2 2 >>= λ players.
    choice_at asked (codes "points_order") orders Random >>= λ order.
    choice_at asked (codes "returns_type") return_kinds WinLoss >>= λ returns.
    Ok (goofspiel_rules cards order returns hidden)
