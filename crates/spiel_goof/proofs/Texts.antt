-- The pieces in which the text of a turn is added.
use Rattle.std.proofs.Common.{◌≡◌, ℕ, ◌+◌, ◌-◌, Bool, List, ◌++◌, codes, ap, ◌∙◌, append_assoc}
use Rattle.std.specs.Fmt.{decimal}
use Rattle.spiel_goof.specs.declared.turns.Turn.{Turn}
use Rattle.spiel_goof.specs.Goofspiel.{bid_of, other_text, turn_text}

-- a complete turn is the point card, the own bid, and the other's bid
abbrev pub card_piece : ℕ → List ℕ
card_piece card = decimal (card + 1) ++ codes "/"

abbrev pub other_piece : Bool → ℕ → Turn → List ℕ
other_piece hidden p turn = other_text hidden (bid_of p turn) (bid_of (1 - p) turn) ++ codes " "

pub turn_pieces : (hidden : Bool) (p : ℕ) (turn : Turn) → turn_text hidden p turn ≡ card_piece turn.point ++ card_piece (bid_of p turn) ++ other_piece hidden p turn
turn_pieces hidden p turn =
    let point = card_piece turn.point in
    let own = decimal (bid_of p turn + 1) in
    let other = other_text hidden (bid_of p turn) (bid_of (1 - p) turn) in
    append_assoc (point ++ own ++ codes "/") other (codes " ") ∙ ap (λ (text : List ℕ). text ++ (other ++ codes " ")) (append_assoc point own (codes "/"))
