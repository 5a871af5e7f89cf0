-- The laws of a game: how large it may be, and what holds of every play of it.
use Rattle.std.specs.Prelude.{◌≡◌, ◌≢◌, ℕ, ◌+◌, ◌-◌, ◌^◌, ◌<◌, ◌≤◌, nat_abs, List, [], ◌∷◌, ◌++◌, length, IsTrue, sum}
use Rattle.std.specs.List.{All, Contains}
use Rattle.std.specs.List.Sorted.{IsStrictlyIncreasing}
use Rattle.spiel_api.specs.declared.place.Place.TheVariants.{End, Chance, Move, Joint}
use Rattle.spiel_api.specs.Rules.{Rules, next_of}
use Rattle.spiel_api.specs.Plays.{IsPlay}
use Rattle.spiel_api.specs.Place.{IsOpen, IsOutside, IsAmongPlayers, HasInfo}

-- a printable ASCII character
abbrev pub IsPrinted : ℕ → Type 0
IsPrinted b = (32 ≤ b) × (b ≤ 126)

-- a text of printable ASCII characters, with at most so many bytes
pub record IsPrintable (most : ℕ) (text : List ℕ) : Type 0 where
  pub short : length text ≤ most
  pub ascii : All IsPrinted text

-- how large a game may be
pub record IsWithinLimits (rules : Rules) : Type 0 where
  -- there are 1 to 64 players
  pub players_low : 1 ≤ rules.players
  pub players_high : rules.players ≤ 64
  -- a whole has 1 to 2^62 parts
  pub unit_low : 1 ≤ rules.unit
  pub unit_high : rules.unit ≤ 2 ^ 62
  -- the cap is 1 to 2^62 parts
  pub cap_low : 1 ≤ rules.cap
  pub cap_high : rules.cap ≤ 2 ^ 62
  -- a play has at most 4,096 numbers
  pub short : (h : List ℕ) → IsPlay rules h → length h ≤ 4096

-- who moves, and with which numbers
pub record HasLegalNumbers (rules : Rules) : Type 0 where
  -- whoever moves is a player
  pub mover : (h : List ℕ) → IsPlay rules h → IsAmongPlayers rules.players (rules.place h)
  -- the numbers of a player strictly rise
  pub rises : (h : List ℕ) (p : ℕ) → IsPlay rules h → p < rules.players → IsStrictlyIncreasing (rules.legal h p)
  -- each number is below 2^32 - 1
  pub small : (h : List ℕ) (p : ℕ) → IsPlay rules h → p < rules.players → All (λ a. a < 2 ^ 32 - 1) (rules.legal h p)
  -- whoever is next has a number
  pub goes_on : (h : List ℕ) → IsPlay rules h → IsOpen (rules.place h) → 0 < length (next_of rules h)
  -- at the end nobody has one
  pub stops : (h : List ℕ) (p : ℕ) → IsPlay rules h → p < rules.players → rules.place h ≡ End → rules.legal h p ≡ []
  -- where one player moves, the others have none
  pub waits : (h : List ℕ) (p q : ℕ) → IsPlay rules h → p < rules.players → rules.place h ≡ Move q → p ≢ q → rules.legal h p ≡ []
  -- at a chance node the outcomes are the same for every player
  pub shared : (h : List ℕ) (p q : ℕ) → IsPlay rules h → p < rules.players → q < rules.players → rules.place h ≡ Chance → rules.legal h p ≡ rules.legal h q

-- what chance weighs
pub record HasChanceWeights (rules : Rules) : Type 0 where
  -- there is one weight for each outcome
  pub weighed : (h : List ℕ) → IsPlay rules h → rules.place h ≡ Chance → length (rules.weights h) ≡ length (next_of rules h)
  -- the weights of a chance node sum to 1 to 2^62
  pub weight_low : (h : List ℕ) → IsPlay rules h → rules.place h ≡ Chance → 1 ≤ sum (rules.weights h)
  pub weight_high : (h : List ℕ) → IsPlay rules h → rules.place h ≡ Chance → sum (rules.weights h) ≤ 2 ^ 62

-- a joint step begins with player 0 and runs through all players
pub record HasWholeJointSteps (rules : Rules) : Type 0 where
  -- the root is not inside a joint step
  pub begins : IsOutside (rules.place [])
  -- a later player chooses only where the player before has just chosen
  pub enters : (h : List ℕ) (a p : ℕ) → IsPlay rules (h ++ a ∷ []) → rules.place (h ++ a ∷ []) ≡ Joint (p + 1) → rules.place h ≡ Joint p
  -- the next player chooses where a player has just chosen
  pub runs : (h : List ℕ) (a p : ℕ) → IsPlay rules (h ++ a ∷ []) → rules.place h ≡ Joint p → p + 1 < rules.players → rules.place (h ++ a ∷ []) ≡ Joint (p + 1)
  -- a choice inside the step leaves everybody's numbers as they are
  pub same_legal : (h : List ℕ) (a p q : ℕ) → IsPlay rules (h ++ a ∷ []) → rules.place h ≡ Joint p → p + 1 < rules.players → rules.legal (h ++ a ∷ []) q ≡ rules.legal h q
  -- it leaves the information texts of those who have yet to choose as they are
  pub same_info : (h : List ℕ) (a p q : ℕ) → IsPlay rules (h ++ a ∷ []) → rules.place h ≡ Joint p → p < q → q < rules.players → rules.info (h ++ a ∷ []) q ≡ rules.info h q

-- texts that can be printed
pub record HasPrintableTexts (rules : Rules) : Type 0 where
  -- an information text has at most 32,768 bytes
  pub infos : (h : List ℕ) (p : ℕ) → IsPlay rules h → HasInfo (rules.place h) p → p < rules.players → IsPrintable 32768 (rules.info h p)
  -- the name of a number has at most 128 bytes
  pub names : (h : List ℕ) (p a : ℕ) → IsPlay rules h → Contains (rules.legal h p) a → IsPrintable 128 (rules.name h p a)

-- what it means to be one-shot
pub record IsOneShot (rules : Rules) : Type 0 where
  -- a joint step stands at the root
  pub joint_root : rules.place [] ≡ Joint 0
  -- the game is over after it
  pub one_step : (h : List ℕ) → IsPlay rules h → length h ≡ rules.players → rules.place h ≡ End
  -- an information text has at most 16,384 bytes
  pub short_infos : (h : List ℕ) (p : ℕ) → IsPlay rules h → HasInfo (rules.place h) p → p < rules.players → length (rules.info h p) ≤ 16384

-- all laws
pub record IsLawful (rules : Rules) : Type 0 where
  pub limits : IsWithinLimits rules
  pub numbers : HasLegalNumbers rules
  pub chance : HasChanceWeights rules
  pub joint : HasWholeJointSteps rules
  pub texts : HasPrintableTexts rules
  -- no return is larger in size than the cap
  pub capped : (h : List ℕ) (p : ℕ) → IsPlay rules h → rules.place h ≡ End → p < rules.players → nat_abs (rules.pay h p) ≤ rules.cap
  pub one_shot : IsTrue rules.one_shot → IsOneShot rules
