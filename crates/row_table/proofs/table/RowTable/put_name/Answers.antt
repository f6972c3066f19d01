use Rattle.row_table.proofs.Put.{name_put}
use Rattle.row_table.proofs.table.RowTable.put_name.Goals as goal

pub invariant_of-self : goal.invariant_of-self
invariant_of-self c =
    let put = name_put c.args.self.now c.args.oid c.args.name.now c.requires.sized c.requires.new c.intern.new.self c.intern.result c.intern.ensures in
    record { roomy = put.roomy; consistent = put.consistent }
