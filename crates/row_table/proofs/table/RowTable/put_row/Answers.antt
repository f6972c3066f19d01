use Rattle.std.proofs.Common.{◌≡◌, ◌+◌, arith}
use Rattle.std.proofs.lemmas.List.{length-map}
use Rattle.catalog.specs.Few.{standing}
use Rattle.catalog.specs.Meaning.{attribute_meaning, row_meaning, text_of}
use Rattle.row_table.specs.Additions.{parts, with_row}
use Rattle.row_table.specs.Table.{held_of}
use Rattle.row_table.proofs.Put.{Holds, row_put}
use Rattle.row_table.proofs.table.RowTable.put_row.Goals as goal
use Rattle.row_table.proofs.table.RowTable.put_row.Goals.{After-len-2}

put : (c : After-len-2) → Holds (with_row (held_of c.args.self.now) c.args.oid (row_meaning c.args.row)) c.intern-2.new.self c.intern.new.self (c.args.self.now.part_count + (c.len.result + c.len-2.result)) c.args.self.now.relations c.args.self.now.columns c.args.self.now.allowance
put c =
    let row = c.args.row in
    let counted : c.args.self.now.part_count + (c.len.result + c.len-2.result) ≡ c.args.self.now.part_count + parts (row_meaning row) =
    omega (arith, c.len.ensures, c.len-2.ensures, length-map (standing row.labels) text_of, length-map (standing row.attributes) attribute_meaning) in
    row_put c.args.self.now c.args.oid row c.requires.some c.requires.new
    c.intern.new.self c.intern.result (rw c.get.ensures at c.intern.ensures)
    c.intern-2.new.self c.intern-2.result c.intern-2.ensures _ counted

pub invariant_of-self : goal.invariant_of-self
invariant_of-self c = record { roomy = (put c).roomy; consistent = (put c).consistent }

pub returns : goal.returns
returns c = (put (goal.at.returns c).After-len-2).held
