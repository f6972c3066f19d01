use Rattle.std.proofs.Common.{rules}
use Rattle.offers.specs.Offered.{offered_column}
use Rattle.row_table.specs.Table.{held_of}
use Rattle.row_table.proofs.Grown.{column_grows}
use Rattle.row_table.proofs.Told.{column_outcome}
use Rattle.row_table.proofs.table.RowTable.add_column.Goals as goal

pub returns-clause-outcome : goal.returns-clause-outcome
returns-clause-outcome c =
    let t = c.args.self.now in
    column_outcome (held_of t) t.consistent c.args.at (offered_column c.args.host.now c.args.table c.args.name) (held_of c.hold_column.new.self) c.hold_column.result (search rules) (search rules)

pub returns-clause-grows : goal.returns-clause-grows
returns-clause-grows c =
    let t = c.args.self.now in
    column_grows (held_of t) t.consistent c.args.at (offered_column c.args.host.now c.args.table c.args.name) (held_of c.hold_column.new.self) (search rules)
