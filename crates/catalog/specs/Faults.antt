-- Number, place, layer and rounds of each refusal of a catalog.
-- Assumes nothing.
use Rattle.std.specs.Prelude.{ℕ, ◌-◌, List, ◌++◌, codes, decimal}
use Rattle.catalog.specs.declared.faults.CatalogFault.{CatalogFault}
use Rattle.catalog.specs.declared.faults.CatalogFault.TheVariants.{NoAllowance, BreaksLimit, Contradicts, Full}
use Rattle.catalog.specs.declared.faults.HeldIn.{HeldIn}
use Rattle.catalog.specs.declared.faults.HeldIn.TheVariants.{Rows, Names, Parts, Columns}
use Rattle.catalog.specs.declared.faults.Layer.{Layer}
use Rattle.catalog.specs.declared.faults.Layer.TheVariants as layer
use Rattle.catalog.specs.declared.faults.Told.{Told}

abbrev pub position_of : HeldIn → ℕ
position_of Rows = 0
position_of Names = 1
position_of Parts = 2
position_of Columns = 3

-- of an addition, which opens no round
abbrev pub addition_told : ℕ → ℕ → Told
addition_told number place = record { number = number; place = place; layer = layer.Catalog; rounds = 0 }

abbrev pub fault_told : CatalogFault → Told
fault_told (NoAllowance round) = record { number = 5; place = round; layer = layer.Catalog; rounds = round - 1 }
fault_told (BreaksLimit of) = addition_told 11 of.0
fault_told (Contradicts of) = addition_told 12 of.0
fault_told (Full table) = addition_told 13 (position_of table)

-- how a layer, a table and a fault are told
abbrev pub layer_text : Layer → List ℕ
layer_text layer.Call = codes "call"
layer_text layer.Fill = codes "fill"
layer_text layer.Catalog = codes "catalog"
layer_text layer.Columns = codes "columns"

abbrev pub table_text : HeldIn → List ℕ
table_text Rows = codes "rows"
table_text Names = codes "names"
table_text Parts = codes "parts"
table_text Columns = codes "columns"

abbrev pub fault_text : CatalogFault → List ℕ
fault_text (NoAllowance round) = codes "no allowance for round " ++ decimal round
fault_text (BreaksLimit of) = decimal of.0 ++ codes " breaks a limit"
fault_text (Contradicts of) = decimal of.0 ++ codes " contradicts what is held"
fault_text (Full table) = codes "no room among the " ++ table_text table
