-- What is kept of an extensive game beside its parts.
use Rattle.std.specs.Prelude.{◌≡◌, map}
use Rattle.spiel_efg.specs.declared.form.Form.{Form}
use Rattle.spiel_efg.specs.declared.parts.EfgParts.{EfgParts}
use Rattle.spiel_efg.specs.declared.pays.PayTable.{PayTable}
use Rattle.spiel_efg.specs.declared.pays.Paid.{Paid}
use Rattle.spiel_efg.specs.EfgPays.{efg_cap, efg_unit, outcome_rows, pay_lists}
use Rattle.spiel_efg.specs.Sets.{kept_weights}
use Rattle.spiel_efg.specs.Tree.{counts_of}

-- what each node pays
pub record IsPayTable (parts : EfgParts) (table : PayTable) : Type 0 where
  pub rows : table.rows ≡ outcome_rows parts
  pub lists : table.lists ≡ pay_lists (efg_unit parts) parts.outcomes

pub record IsPaid (parts : EfgParts) (paid : Paid) : Type 0 where
  pub unit : paid.unit ≡ efg_unit parts
  pub cap : paid.cap ≡ efg_cap parts
  pub table : IsPayTable parts paid.table

-- weights, counts and rows
pub record IsForm (parts : EfgParts) (form : Form) : Type 0 where
  pub weights : form.weights ≡ map kept_weights parts.sets
  pub counts : form.counts ≡ counts_of parts.sets parts.nodes
  pub rows : form.rows ≡ outcome_rows parts
