-- A turn-based game: the players of a joint step move one after another, in player order, without seeing the
-- choices of the same step (the transform of simultaneous games of OpenSpiel, Lanctot et al. 2019).
use Rattle.std.specs.Prelude.{ℕ, false, List, [], if◌then◌else◌, ◌==◌}
use Rattle.spiel_api.specs.declared.place.Place.{Place}
use Rattle.spiel_api.specs.declared.place.Place.TheVariants.{End, Chance, Move, Joint}
use Rattle.spiel_api.specs.Rules.{Rules}

-- a choice in a joint step is a move
abbrev pub turn_place : Place → Place
turn_place End = End
turn_place Chance = Chance
turn_place (Move p) = Move p
turn_place (Joint p) = Move p

-- who chooses in the joint step has the inner numbers, and the others have none; elsewhere all is as it was
abbrev pub turn_legal : Place → (ℕ → List ℕ) → ℕ → List ℕ
turn_legal End legal p = legal p
turn_legal Chance legal p = legal p
turn_legal (Move q) legal p = legal p
turn_legal (Joint q) legal p = if p == q then legal p else []

-- all else is as it was, but for the joint step that a one-shot game was
abbrev pub turn_based_rules : Rules → Rules
turn_based_rules inner = record inner {
  one_shot = false;
  place = λ h. turn_place (inner.place h);
  legal = λ h p. turn_legal (inner.place h) (inner.legal h) p;
}
