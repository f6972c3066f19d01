use Rattle.std.proofs.Common.{◌+◌, ap, drop, get_or, map}
use Rattle.std.proofs.lemmas.List.{drop_all, drop_more}
use Rattle.keys.specs.Senses.{oid_of}
use Rattle.type_info.specs.declared.oid.Oid.{Oid}
use Rattle.resolve.specs.Walks.{known_to}
use Rattle.resolve.proofs.Pushing.{pushing_done, pushing_more}
use Rattle.resolve.proofs.reading.push_links.Goals as goal

pub loop-oid-preserved : goal.loop-oid-preserved
loop-oid-preserved c =
    let links = c.args.links.now in
    let i = c.loop-oid.oid-index in
    let none : Oid = record { 0 = 0 } in
    pushing_more (known_to c.args.book.now) (map oid_of links) c.args.finds.now (map oid_of (drop i links)) (oid_of (get_or links i none)) (map oid_of (drop (i + 1) links)) c.loop-oid.finds c.push.new.self
    (ap (map oid_of) (drop_more links i none c.loop-oid-test.true))
    c.loop-oid.invariant c.push.ensures.queue c.push.ensures.rows c.push.ensures.order c.push.ensures.reads

pub returns-clause-queue : goal.returns-clause-queue
returns-clause-queue c =
    pushing_done (known_to c.args.book.now) (map oid_of c.args.links.now) c.args.finds.now (map oid_of (drop c.loop-oid.oid-index c.args.links.now)) c.loop-oid.finds
    (ap (map oid_of) (drop_all c.loop-oid.oid-index c.args.links.now c.loop-oid-test.false))
    c.loop-oid.invariant
