-- What a quoted text says, and how a text is quoted.
use Rattle.std.specs.Prelude.{◌≡◌, ℕ, ◌==◌, ◌||◌, Bool, true, false, List, [], ◌∷◌, ◌++◌, drop, if◌then◌else◌, flat_map}

-- a quote or a backslash, which a backslash before it makes a byte like others
abbrev pub is_escaped : ℕ → Bool
is_escaped byte = (byte == 34) || (byte == 92)

-- what a backslash before this byte says beside it: nothing, or itself
abbrev pub backslash_kept : ℕ → List ℕ
backslash_kept byte = if is_escaped byte then [] else 92 ∷ []

-- what the bytes between two quotes say
unfoldable mutual
  pub unescaped : List ℕ → List ℕ
  unescaped [] = []
  unescaped (byte ∷ bytes) = elim (byte == 92) [ true ↦ unescaped_behind bytes | false ↦ byte ∷ unescaped bytes ]

  -- the same behind a backslash
  pub unescaped_behind : List ℕ → List ℕ
  unescaped_behind [] = 92 ∷ []
  unescaped_behind (byte ∷ bytes) = backslash_kept byte ++ byte ∷ unescaped bytes

-- a byte as it stands between two quotes
abbrev pub escaped_byte : ℕ → List ℕ
escaped_byte byte = if is_escaped byte then 92 ∷ byte ∷ [] else byte ∷ []

-- the bytes that say a text between two quotes
abbrev pub escaped : List ℕ → List ℕ
escaped = flat_map escaped_byte

abbrev pub quoted : List ℕ → List ℕ
quoted text = 34 ∷ (escaped text ++ 34 ∷ [])

-- what a byte adds to what was said before it, where a backslash stands right before it or doesn't: one
-- that may belong to the next byte waits
abbrev pub said_by : Bool → ℕ → List ℕ
said_by true byte = backslash_kept byte ++ byte ∷ []
said_by false byte = if byte == 92 then [] else byte ∷ []

-- what bytes say, behind a backslash or not
abbrev pub unescaped_in : Bool → List ℕ → List ℕ
unescaped_in true bytes = unescaped_behind bytes
unescaped_in false bytes = unescaped bytes

-- what the bytes before a place say was added
pub record Unescapes (bytes : List ℕ) (at : ℕ) (behind : Bool) (old new : List ℕ) : Type 0 where
  pub said : List ℕ
  pub added : new ≡ old ++ said
  pub whole : unescaped bytes ≡ said ++ unescaped_in behind (drop at bytes)
