use Rattle.std.proofs.Common.{◌<◌, length, arith}
use Rattle.finds.proofs.Put.{row_put, row_read_on}
use Rattle.finds.proofs.tables.Finds.read.Goals as goal
use Rattle.finds.proofs.tables.Finds.read.Goals.{After-push}

waiting : (c : After-push) → length c.args.self.now.rows.items < length c.args.self.now.queue.items
waiting c = omega (arith, c.len.ensures, c.len-2.ensures, c.if-len.false)

pub invariant_of-self : goal.invariant_of-self
invariant_of-self c =
    let k = row_put c.args.self.now (waiting c) c.args.row c.push.new.self c.push.result c.push.ensures in
    record { lent = k.lent; queued = k.queued; ordered = k.ordered }

pub returns-clause-from : goal.returns-clause-from
returns-clause-from c =
    row_read_on c.args.self.now (waiting (goal.at.returns-clause-from c).After-push) c.args.row c.push.new.self c.push.result c.push.ensures
