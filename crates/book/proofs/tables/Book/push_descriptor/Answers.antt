use Rattle.book.specs.Adding.{description_with}
use Rattle.book.specs.Book.{held_of}
use Rattle.book.specs.Held.{with_description}
use Rattle.book.proofs.Put.{Holds, descriptor_put}
use Rattle.book.proofs.tables.Book.push_descriptor.Goals as goal
use Rattle.book.proofs.tables.Book.push_descriptor.Goals.{After-intern}

put : (c : After-intern) → let b = c.args.self.now in Holds (with_description (held_of b) (description_with (held_of b) c.args.oid.0 c.args.name.now c.args.kind)) c.push.new.self c.intern.new.self b.parts c.append.new.self b.arrays b.columns b.relations
put c =
    let q = c.requires in
    let was = c.append.ensures in
    descriptor_put c.args.self.now c.args.oid c.args.name.now c.args.kind c.in-Some.span c.append.new.self c.push.new.self c.intern.new.self q.fits q.new q.inside q.founded was.slots was.knows was.lent c.in-Some.ensures.text c.push.result c.push.ensures c.intern.result (rw c.len-slot.ensures at c.intern.ensures)

pub invariant_of-self : goal.invariant_of-self
invariant_of-self c = record { inside = (put c).inside; sound = (put c).sound }

pub returns-in-Some : goal.returns-in-Some
returns-in-Some c = (put (goal.at.returns-in-Some c).After-intern).held
