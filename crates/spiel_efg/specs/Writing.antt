-- The canonical text of an extensive game: its head, and a line for each node. Every mention of a set
-- or an outcome is in full.
use Rattle.std.specs.Prelude.{ℕ, zero, suc, List, [], ◌∷◌, ◌++◌, map, flat_map, codes, Option, Some, None, slice_get, All}
use Rattle.std.specs.Fmt.{decimal}
use Rattle.spiel_frac.specs.Fraction.{Fraction, IsLowest, frac_text}
use Rattle.spiel_frac.specs.Reading.{HasShortParts}
use Rattle.spiel_string.specs.Quoting.{quoted}
use Rattle.spiel_efg.specs.declared.parts.EfgAction.{EfgAction}
use Rattle.spiel_efg.specs.declared.parts.EfgSet.{EfgSet}
use Rattle.spiel_efg.specs.declared.parts.EfgNode.{EfgNode}
use Rattle.spiel_efg.specs.declared.parts.EfgOutcome.{EfgOutcome}
use Rattle.spiel_efg.specs.declared.parts.EfgParts.{EfgParts}
use Rattle.spiel_efg.specs.declared.parts.NodeKind.{NodeKind}
use Rattle.spiel_efg.specs.declared.parts.NodeKind.TheVariants.{Chance, Personal, Terminal}
use Rattle.spiel_efg.specs.Mentions.{place_of}

-- ---- pieces, each with a space before it
abbrev pub spaced : List ℕ → List ℕ
spaced piece = 32 ∷ piece

abbrev pub text_piece : List ℕ → List ℕ
text_piece text = spaced (quoted text)

abbrev pub number_piece : ℕ → List ℕ
number_piece number = spaced (decimal number)

abbrev pub frac_piece : Fraction → List ℕ
frac_piece value = spaced (frac_text value)

-- these pieces between braces
abbrev pub in_braces : List ℕ → List ℕ
in_braces pieces = codes " {" ++ pieces ++ codes " }"

-- ---- sets
-- an action of chance has its probability behind its name
abbrev pub action_pieces : Option ℕ → EfgAction → List ℕ
action_pieces None action = text_piece action.name ++ frac_piece action.weight
action_pieces (Some player) action = text_piece action.name

-- a player is counted from 1
abbrev pub player_piece : Option ℕ → List ℕ
player_piece None = []
player_piece (Some player) = number_piece (suc player)

abbrev pub set_pieces : EfgSet → List ℕ
set_pieces one =
    player_piece one.player ++ (number_piece one.number ++ (text_piece one.name ++ in_braces (flat_map (action_pieces one.player) one.actions)))

-- the set of a node; there is none where the game is over
abbrev pub set_at_node : List EfgSet → NodeKind → Option EfgSet
set_at_node sets (Chance place) = slice_get sets place
set_at_node sets (Personal place) = slice_get sets place
set_at_node sets Terminal = None

abbrev pub mention_pieces : Option EfgSet → List ℕ
mention_pieces None = []
mention_pieces (Some one) = set_pieces one

-- ---- outcomes
-- payoffs with commas between them
abbrev pub pay_pieces : List Fraction → List ℕ
pay_pieces [] = []
pay_pieces (pay ∷ pays) = frac_piece pay ++ flat_map (λ next. 44 ∷ frac_piece next) pays

-- the outcome in a row, where row 0 is that of no outcome
abbrev pub outcome_in_row : List EfgOutcome → ℕ → Option EfgOutcome
outcome_in_row outcomes zero = None
outcome_in_row outcomes (suc k) = slice_get outcomes k

-- the row of the outcome with a number
abbrev pub row_of : List EfgOutcome → ℕ → ℕ
row_of outcomes number = place_of (0 ∷ map (λ outcome. outcome.number) outcomes) number

abbrev pub outcome_pieces : Option EfgOutcome → List ℕ
outcome_pieces None = codes " 0"
outcome_pieces (Some one) = number_piece one.number ++ (text_piece one.name ++ in_braces (pay_pieces one.pays))

-- ---- lines
abbrev pub kind_word : NodeKind → List ℕ
kind_word (Chance place) = codes "c"
kind_word (Personal place) = codes "p"
kind_word Terminal = codes "t"

-- the line of a node whose outcome stands in a row
abbrev pub line_in_row : EfgParts → EfgNode → ℕ → List ℕ
line_in_row parts node row =
    kind_word node.kind ++ (text_piece node.name ++ (mention_pieces (set_at_node parts.sets node.kind) ++ (outcome_pieces (outcome_in_row parts.outcomes row) ++ 10 ∷ [])))

abbrev pub node_line : EfgParts → EfgNode → List ℕ
node_line parts node = line_in_row parts node (row_of parts.outcomes node.outcome)

-- the title and the players, and the comment on a line of its own
abbrev pub head_lines : EfgParts → List ℕ
head_lines parts =
    codes "EFG 2 R" ++ (text_piece parts.title ++ (in_braces (flat_map text_piece parts.players) ++ 10 ∷ (quoted parts.comment ++ 10 ∷ [])))

unfoldable pub efg_text : EfgParts → List ℕ
efg_text parts = head_lines parts ++ flat_map (node_line parts) parts.nodes

-- ---- which games are read back
-- a fraction in lowest terms with parts of at most 18 digits
pub record IsShort (f : Fraction) : Type 0 where
  pub lowest : IsLowest f
  pub parts : HasShortParts f

-- each probability and each payoff is such a fraction
pub record AreShort (parts : EfgParts) : Type 0 where
  pub weights : All (λ one. All (λ action. IsShort action.weight) one.actions) parts.sets
  pub pays : All (λ outcome. All IsShort outcome.pays) parts.outcomes
