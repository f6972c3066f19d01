use Rattle.std.proofs.Common.{rules}
use Rattle.offers.specs.Offered.{offer_of, offered_row}
use Rattle.row_table.specs.Table.{held_of}
use Rattle.row_table.proofs.Grown.{row_grows}
use Rattle.row_table.proofs.Told.{row_outcome}
use Rattle.row_table.proofs.table.RowTable.add_row.Goals as goal

pub returns-clause-outcome : goal.returns-clause-outcome
returns-clause-outcome c =
    let t = c.args.self.now in
    row_outcome (held_of t) t.consistent c.args.offered.oid (offered_row c.args.host.now (offer_of c.args.offered)) (held_of c.hold_row.new.self) c.hold_row.result (search rules) (search rules)

pub returns-clause-grows : goal.returns-clause-grows
returns-clause-grows c =
    let t = c.args.self.now in
    row_grows (held_of t) c.args.offered.oid (offered_row c.args.host.now (offer_of c.args.offered)) (held_of c.hold_row.new.self) (search rules)
