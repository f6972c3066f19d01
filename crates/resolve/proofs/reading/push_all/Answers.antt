use Rattle.std.proofs.Common.{◌+◌, drop, get_or}
use Rattle.std.proofs.lemmas.List.{drop_all, drop_more}
use Rattle.resolve.specs.Walks.{known_to}
use Rattle.resolve.proofs.Pushing.{pushing_done, pushing_more}
use Rattle.resolve.proofs.reading.push_all.Goals as goal

pub loop-oid-preserved : goal.loop-oid-preserved
loop-oid-preserved c =
    let oids = c.args.oids.now in
    let i = c.loop-oid.oid-index in
    pushing_more (known_to c.args.book.now) oids c.args.finds.now (drop i oids) (get_or oids i 0) (drop (i + 1) oids) c.loop-oid.finds c.push.new.self
    (drop_more oids i 0 c.loop-oid-test.true)
    c.loop-oid.invariant c.push.ensures.queue c.push.ensures.rows c.push.ensures.order c.push.ensures.reads

pub returns-clause-queue : goal.returns-clause-queue
returns-clause-queue c =
    pushing_done (known_to c.args.book.now) c.args.oids.now c.args.finds.now (drop c.loop-oid.oid-index c.args.oids.now) c.loop-oid.finds
    (drop_all c.loop-oid.oid-index c.args.oids.now c.loop-oid-test.false)
    c.loop-oid.invariant
