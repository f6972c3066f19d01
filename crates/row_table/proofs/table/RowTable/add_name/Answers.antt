use Rattle.std.proofs.Common.{rules}
use Rattle.offers.specs.Offered.{offered_name}
use Rattle.row_table.specs.Table.{held_of}
use Rattle.row_table.proofs.Grown.{name_grows}
use Rattle.row_table.proofs.Told.{name_outcome}
use Rattle.row_table.proofs.table.RowTable.add_name.Goals as goal

pub returns-clause-outcome : goal.returns-clause-outcome
returns-clause-outcome c =
    let t = c.args.self.now in
    name_outcome (held_of t) t.consistent c.args.oid (offered_name c.args.host.now c.args.name) (held_of c.hold_name.new.self) c.hold_name.result (search rules) (search rules)

pub returns-clause-grows : goal.returns-clause-grows
returns-clause-grows c =
    let t = c.args.self.now in
    name_grows (held_of t) c.args.oid (offered_name c.args.host.now c.args.name) (held_of c.hold_name.new.self) (search rules)
