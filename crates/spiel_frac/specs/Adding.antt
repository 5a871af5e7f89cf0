-- What a call leaves that adds to a text.
use Rattle.std.specs.Prelude.{◌≡◌, ℕ, List, ◌++◌, Result, Ok, Err}
use Rattle.spiel_frac.specs.declared.memory.NoMemory.{NoMemory}

-- some front of the text was added
pub record AddsPart (old new text : List ℕ) : Type 0 where
  pub part : List ℕ
  pub rest : List ℕ
  pub whole : text ≡ part ++ rest
  pub added : new ≡ old ++ part

-- the text was added, or for want of memory a front of it
abbrev pub Adds : Result (Unit {0}) NoMemory → List ℕ → List ℕ → List ℕ → Type 0
Adds (Ok done) old new text = new ≡ old ++ text
Adds (Err error) old new text = AddsPart old new text
