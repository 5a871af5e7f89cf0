-- A game in which players move one at a time keeps the laws, by few facts of its rules.
use Rattle.std.specs.Prelude.{◌≡◌, ℕ, ◌<◌, ◌≤◌, Bool, true, false, List, [], length, nat_abs, ◌==◌}
use Rattle.std.specs.List.{Contains}
use Rattle.std.proofs.Common.{◌⊎◌, inl, inr, refl, sym, ap, arith, ⊎_elim}
use Rattle.std.proofs.lemmas.Bool.{false≢true, ne_eqb, eq-eqb, cond_both}
use Rattle.std.proofs.lemmas.List.FromFn.{get_or-range_with_len, length-range_with_len}
use Rattle.std.proofs.lemmas.Nat.{mod_below}
use Rattle.spiel_api.specs.declared.place.Place.{Place}
use Rattle.spiel_api.specs.declared.place.Place.TheVariants.{End, Chance, Move, Joint}
use Rattle.spiel_api.specs.Rules.{next_at}
use Rattle.spiel_api.specs.Plays.{IsPlay}
use Rattle.spiel_api.specs.Place.{IsOutside, HasInfo}
use Rattle.spiel_api.specs.Laws.{IsLawful, IsPrintable}
use Rattle.spiel_api.specs.Turns.{Turns, numbers_for, turn_rules, turn_of}
use Rattle.spiel_api.proofs.PlayLemmas.{IsPlay-nil}
use Rattle.spiel_api.proofs.LawLemmas.{has_size, within_limits, without_joint_steps}
use Rattle.spiel_api.proofs.NodeLaws.{AreChoices, AreWeights, IsNode, legal_numbers, chance_weights}

-- what is so of the numbers and the weights of whoever is next
abbrev pub IsTurn : ℕ → Place → List ℕ → List ℕ → Type 0
IsTurn n End numbers weights = Unit {0}
IsTurn n Chance numbers weights = AreChoices numbers × AreWeights (length numbers) weights
IsTurn n (Move q) numbers weights = (q < n) × AreChoices numbers
IsTurn n (Joint q) numbers weights = ⊥

-- what is to be shown of a game in which players move one at a time
pub record HasTurns (t : Turns) : Type 0 where
  -- there are 1 to 64 players, and the unit and the cap are 1 to 2^62: `refl` shows it of numbers
  pub size : has_size t.players t.unit t.cap ≡ true
  -- a play has at most 4,096 numbers
  pub short : (h : List ℕ) → IsPlay (turn_rules t) h → length h ≤ 4096
  -- whoever is next can choose
  pub turns : (h : List ℕ) → IsPlay (turn_rules t) h → IsTurn t.players (t.place h) (t.numbers h) (t.weights h)
  -- texts can be printed
  pub infos : (h : List ℕ) (p : ℕ) → IsPlay (turn_rules t) h → t.place h ≡ Move p → IsPrintable 32768 (t.info h p)
  pub names : (h : List ℕ) (p a : ℕ) → IsPlay (turn_rules t) h → Contains (t.numbers h) a → IsPrintable 128 (t.name h p a)
  -- no return is larger in size than the cap
  pub capped : (h : List ℕ) (p : ℕ) → IsPlay (turn_rules t) h → t.place h ≡ End → p < t.players → nat_abs (t.pay h p) ≤ t.cap

node_of : (n : ℕ) (place : Place) (numbers weights : List ℕ) → IsTurn n place numbers weights → IsNode n place (numbers_for place numbers) weights
node_of n End numbers weights turn = λ p. refl
node_of n Chance numbers weights turn = (λ p q. refl, turn.0, turn.1)
node_of n (Move q) numbers weights turn = (turn.0, rw (eq-eqb q q refl) turn.1, λ p other. rw (ne_eqb p q other) refl)
node_of n (Joint q) numbers weights turn = absurd turn

alone_at : (n : ℕ) (place : Place) (numbers weights : List ℕ) → IsTurn n place numbers weights → (p : ℕ) → place ≡ Joint p → ⊥
alone_at n End numbers weights turn p e = cc
alone_at n Chance numbers weights turn p e = cc
alone_at n (Move q) numbers weights turn p e = cc
alone_at n (Joint q) numbers weights turn p e = turn

outside_at : (n : ℕ) (place : Place) (numbers weights : List ℕ) → IsTurn n place numbers weights → IsOutside place
outside_at n End numbers weights turn = tt
outside_at n Chance numbers weights turn = tt
outside_at n (Move q) numbers weights turn = tt
outside_at n (Joint q) numbers weights turn = absurd turn

moves_at : (place : Place) (p : ℕ) → (HasInfo place p) → (place ≡ Move p) ⊎ ((q : ℕ) × (place ≡ Joint q))
moves_at End p has = absurd has
moves_at Chance p has = absurd has
moves_at (Move q) p has = inl (ap Move (sym has))
moves_at (Joint q) p has = inr (q, refl)

-- a number of whoever is next, or of some player, is one of these numbers
pub next_numbers : (place : Place) (numbers : List ℕ) (a : ℕ) → Contains (next_at place (numbers_for place numbers)) a → Contains numbers a
next_numbers End numbers a c = absurd (omega (arith, c.1))
next_numbers Chance numbers a c = c
next_numbers (Move q) numbers a c = rw (eq-eqb q q refl) at c
next_numbers (Joint q) numbers a c = absurd (omega (arith, c.1))

pub for_numbers : (place : Place) (numbers : List ℕ) (p a : ℕ) → Contains (numbers_for place numbers p) a → Contains numbers a
for_numbers End numbers p a c = absurd (omega (arith, c.1))
for_numbers Chance numbers p a c = c
for_numbers (Move q) numbers p a c = cond_both (p == q) numbers [] (λ xs. Contains xs a → Contains numbers a) (λ e c. c) (λ e c. absurd (omega (arith, c.1))) c
for_numbers (Joint q) numbers p a c = absurd (omega (arith, c.1))

-- at a chance node everybody has all of them, and else whoever moves
pub drawn_numbers : (place : Place) (numbers : List ℕ) (p : ℕ) → Chance ≡ place → numbers_for place numbers p ≡ numbers
drawn_numbers place numbers p e = rw (sym e) refl

pub mover_numbers : (place : Place) (numbers : List ℕ) (p : ℕ) → Move p ≡ place → numbers_for place numbers p ≡ numbers
mover_numbers place numbers p e = rw (sym e, eq-eqb p p refl) refl

-- whoever has a number has all of them
pub some_numbers : (place : Place) (numbers : List ℕ) (p : ℕ) → 0 < length (numbers_for place numbers p) → numbers_for place numbers p ≡ numbers
some_numbers End numbers p l = absurd (omega arith)
some_numbers Chance numbers p l = refl
some_numbers (Move q) numbers p l = cond_both (p == q) numbers [] (λ xs. 0 < length xs → xs ≡ numbers) (λ e m. refl) (λ e m. absurd (omega arith)) l
some_numbers (Joint q) numbers p l = absurd (omega arith)

-- what `legal_count` and `legal_at` need, by `using` before them: the numbers of whoever is next, and numbers from one on
pub ruleset turn_steps = (drawn_numbers, mover_numbers, some_numbers, length-range_with_len, get_or-range_with_len)

-- a turn of one of n players who move in turn
pub in_turn : (n : ℕ) (over : Bool) (h numbers weights : List ℕ) → 0 < n → (over ≡ false → AreChoices numbers) → IsTurn n (turn_of n over h) numbers weights
in_turn n true h numbers weights some choices = tt
in_turn n false h numbers weights some choices = (mod_below (length h) n some, choices refl)

pub turns_lawful : (t : Turns) → HasTurns t → IsLawful (turn_rules t)
turns_lawful t has = record {
  limits = within_limits (turn_rules t) has.size has.short;
  numbers = legal_numbers (turn_rules t) nodes;
  chance = chance_weights (turn_rules t) nodes;
  joint = without_joint_steps (turn_rules t) (outside_at t.players (t.place []) (t.numbers []) (t.weights []) (has.turns [] (IsPlay-nil (turn_rules t)))) alone;
  texts = record {
    infos = λ h p play some l. ⊎_elim (has.infos h p play) (λ joint. absurd (alone h joint.0 play joint.1)) (moves_at (t.place h) p some);
    names = λ h p a play c. has.names h p a play (for_numbers (t.place h) (t.numbers h) p a c);
  };
  capped = has.capped;
  one_shot = λ o. absurd (false≢true o);
}
  where
    nodes : (h : List ℕ) → IsPlay (turn_rules t) h → IsNode t.players (t.place h) (numbers_for (t.place h) (t.numbers h)) (t.weights h)
    nodes h play = node_of t.players (t.place h) (t.numbers h) (t.weights h) (has.turns h play)

    alone : (h : List ℕ) (p : ℕ) → IsPlay (turn_rules t) h → t.place h ≡ Joint p → ⊥
    alone h p play = alone_at t.players (t.place h) (t.numbers h) (t.weights h) (has.turns h play) p
