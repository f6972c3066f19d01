use Rattle.std.proofs.Common.{◌≡◌, ◌∙◌, ap, is_some, sym, arith}
use Rattle.book.specs.Book.{held_of}
use Rattle.book.specs.Held.{book_held}
use Rattle.life.proofs.Known.{unanswered}
use Rattle.finds.specs.Finds.{order_of}
use Rattle.finds.specs.Tables.{turns}
use Rattle.finds.proofs.Put.{Keeps, few_oids, oid_put}
use Rattle.finds.proofs.tables.Finds.push.Goals as goal
use Rattle.finds.proofs.tables.Finds.push.Goals.{After-intern}

put : (c : After-intern) → let f = c.args.self.now in Keeps c.push.new.self c.intern.new.self f.rows f.order f.settled × (turns c.push.new.self f.order ≡ order_of f)
put c =
    let f = c.args.self.now in
    let oid = c.args.oid in
    oid_put f oid c.len-place.result c.len-place.ensures
    (omega (arith, few_oids f, c.len-place.ensures, c.if-place-eq-MOST_OIDS.false))
    (unanswered (book_held (held_of c.args.book.now)).descriptors oid.0 (sym c.knows.ensures ∙ c.if-knows.false)).0
    (sym (c.is_some.ensures ∙ ap is_some c.find.ensures) ∙ c.if-is_some.false)
    c.push.new.self c.push.result c.push.ensures c.intern.new.self c.intern.result c.intern.ensures

pub invariant_of-self : goal.invariant_of-self
invariant_of-self c = let k = (put c).0 in record { lent = k.lent; queued = k.queued; ordered = k.ordered }

pub returns-clause-order : goal.returns-clause-order
returns-clause-order c = (put (goal.at.returns-clause-order c).After-intern).1
