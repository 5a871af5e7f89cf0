-- What stands at the front of the tokens of a JSON text.
use Rattle.std.specs.Prelude.{◌≡◌, ◌≤◌, ℕ, List, ◌++◌, Some, Ok}
use Rattle.json.specs.Token.{Token}
use Rattle.json.specs.Json as json
use Rattle.json.specs.Tree as tree
use Rattle.serde_json.specs.Data.{Data, Items}
use Rattle.serde_json.specs.Read.{of_items, of_json}
use Rattle.spiel_frac.specs.Fraction.{Fraction}
use Rattle.spiel_tree.specs.Trees.{Whole}
use Rattle.spiel_policy.specs.Entries.{entry_of, pair_of, pairs_in, weight_of}
use Rattle.spiel_policy.specs.Heads.{entries_of}
use Rattle.spiel_policy.specs.Reading.{Partial, none_given, with_entries}
use Rattle.spiel_policy.specs.declared.entries.Entry.{Entry}
use Rattle.spiel_policy.specs.declared.entries.Pair.{Pair}

-- a value, nested at most so deep, and behind it the tokens that are left
pub record IsNext (depth : ℕ) (d : Data) (old left : List Token) : Type 0 where
  pub value : json.Json
  pub tokens_are : old ≡ tree.json_tokens value ++ left
  pub reads : of_json value ≡ Some d
  pub shallow : tree.depth value ≤ depth

-- items up to the bracket that closes their array
pub record AreNext (depth : ℕ) (ds : Items) (old left : List Token) : Type 0 where
  pub values : json.Items
  pub tokens_are : old ≡ tree.items_tokens values ++ left
  pub reads : of_items values ≡ Some ds
  pub shallow : tree.items_depth values ≤ depth

-- the parts of a policy file, each with what is read of it
pub record IsWeightNext (weight : Fraction) (old left : List Token) : Type 0 where
  pub datum : Data
  pub next : IsNext 0 datum old left
  pub weight_is : weight_of datum ≡ Some weight

pub record IsPairNext (pair : Pair) (old left : List Token) : Type 0 where
  pub datum : Data
  pub next : IsNext 1 datum old left
  pub pair_is : pair_of datum ≡ Some pair

pub record ArePairsNext (pairs : List Pair) (old left : List Token) : Type 0 where
  pub items : Items
  pub next : AreNext 1 items old left
  pub pairs_are : pairs_in items ≡ Some pairs

pub record IsEntryNext (entry : Entry) (old left : List Token) : Type 0 where
  pub datum : Data
  pub next : IsNext 3 datum old left
  pub entry_is : entry_of datum ≡ Some entry

pub record AreEntriesNext (whole : Whole) (before : Partial) (number : ℕ) (given : Partial) (old left : List Token) : Type 0 where
  pub items : Items
  pub next : AreNext 3 items old left
  pub given_is : with_entries whole before number items ≡ Ok given

pub record IsFileNext (whole : Whole) (given : Partial) (old left : List Token) : Type 0 where
  pub datum : Data
  pub next : IsNext 5 datum old left
  pub items : Items
  pub items_are : entries_of datum ≡ Some items
  pub given_is : with_entries whole (none_given whole) 0 items ≡ Ok given
