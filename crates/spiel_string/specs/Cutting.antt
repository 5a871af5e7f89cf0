-- How far a file is cut into tokens.
use Rattle.std.specs.Prelude.{◌≡◌, ◌<◌, ◌≤◌, ℕ, Bool, true, false, List, [], ◌∷◌, ◌++◌, length, drop, Some, ⊤}
use Rattle.spiel_string.specs.Tokens.{Found, kind, tokens_from, text_from, behind_backslash}
use Rattle.spiel_string.specs.declared.token.Kind.{Kind}
use Rattle.spiel_string.specs.declared.token.Kind.TheVariants.{Space}
use Rattle.spiel_string.specs.declared.token.Token.{Token}
use Rattle.spiel_string.specs.declared.token.TokenFault.{TokenFault}
use Rattle.spiel_string.specs.declared.token.TokenFault.TheVariants.{Unclosed, NoMemory}

abbrev pub is_of_space : Kind → Bool
is_of_space Space = true
is_of_space other = false

-- white space stands first
abbrev pub begins_space : List ℕ → Bool
begins_space [] = false
begins_space (byte ∷ bytes) = is_of_space (kind byte)

-- tokens, and then what was found
abbrev pub after : List Token → Found → Found
after tokens found = record { tokens = tokens ++ found.tokens; unclosed = found.unclosed }

-- the tokens up to the next place were added
pub record Steps (bytes : List ℕ) (at : ℕ) (old new : List Token) (next : ℕ) : Type 0 where
  pub later : at < next
  pub within : next ≤ length bytes
  pub same : after old (tokens_from at (drop at bytes)) ≡ after new (tokens_from next (drop next bytes))

-- a fault tells the text that was found unclosed, or is want of memory
abbrev pub IsFaultOf : Found → TokenFault → Type 0
IsFaultOf found (Unclosed opened) = found.unclosed ≡ Some opened
IsFaultOf found NoMemory = ⊤

-- what is found inside of a text, behind a backslash or not
abbrev pub inside : Bool → ℕ → ℕ → List ℕ → Found
inside true opened at bytes = behind_backslash opened at bytes
inside false opened at bytes = text_from opened at bytes
