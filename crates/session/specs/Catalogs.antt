-- The catalogs that a script works on.
-- Assumes nothing.
use Rattle.std.specs.Prelude.{ℕ}
use Rattle.row_table.specs.Held as table
use Rattle.row_table.specs.Table.{held_of}
use Rattle.session.specs.declared.catalogs.Catalogs.{Catalogs}
use Rattle.transcript.specs.declared.answers.InUse.{InUse}
use Rattle.transcript.specs.declared.answers.InUse.TheVariants.{Rows, Shelf}

-- what the row table holds, the allowance of the shelf, and which of the two is in use
pub record Held : Type 0 where
  pub rows : table.Held
  pub shelf : ℕ
  pub in_use : InUse

abbrev pub at_start : Held
at_start = record { rows = table.nothing_held 64; shelf = 64; in_use = Rows }

abbrev pub using : Held → InUse → Held
using c catalog = record c { in_use = catalog }

abbrev pub allowing : Held → ℕ → InUse → Held
allowing c n Rows = record c { rows = table.at_allowance c.rows n }
allowing c n Shelf = record c { shelf = n }

-- the catalog in use may spend n
abbrev pub at_allowance : Held → ℕ → Held
at_allowance c n = allowing c n c.in_use

-- what the catalog in use may spend
abbrev pub spendable : Held → InUse → ℕ
spendable c Rows = c.rows.allowance
spendable c Shelf = c.shelf

abbrev pub allowance_in_use : Held → ℕ
allowance_in_use c = spendable c c.in_use

-- what the catalogs of the code hold
abbrev pub held_by : Catalogs → Held
held_by c = record { rows = held_of c.rows; shelf = c.shelf; in_use = c.in_use }
