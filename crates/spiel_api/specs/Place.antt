-- What a place tells.
use Rattle.std.specs.Prelude.{◌≡◌, ℕ, ◌<◌, ◌≤◌, ⊤}
use Rattle.spiel_api.specs.declared.place.Place.{Place}
use Rattle.spiel_api.specs.declared.place.Place.TheVariants.{End, Chance, Move, Joint}

-- somebody's number is next: it is not the end
abbrev pub IsOpen : Place → Type 0
IsOpen End = ⊥
IsOpen Chance = ⊤
IsOpen (Move p) = ⊤
IsOpen (Joint p) = ⊤

-- no player of a joint step has chosen while others have not
abbrev pub IsOutside : Place → Type 0
IsOutside End = ⊤
IsOutside Chance = ⊤
IsOutside (Move p) = ⊤
IsOutside (Joint p) = p ≡ 0

-- whoever moves is one of n players
abbrev pub IsAmongPlayers : ℕ → Place → Type 0
IsAmongPlayers n End = ⊤
IsAmongPlayers n Chance = ⊤
IsAmongPlayers n (Move p) = p < n
IsAmongPlayers n (Joint p) = p < n

-- player p has an information text here: p moves, or has yet to choose in a joint step
abbrev pub HasInfo : Place → ℕ → Type 0
HasInfo End p = ⊥
HasInfo Chance p = ⊥
HasInfo (Move q) p = p ≡ q
HasInfo (Joint q) p = q ≤ p
