use Rattle.book.specs.Book.{held_of}
use Rattle.book.specs.Held.{with_relation}
use Rattle.book.proofs.Put.{Holds, relation_put}
use Rattle.book.proofs.tables.Book.push_relation.Goals as goal
use Rattle.book.proofs.tables.Book.push_relation.Goals.{After-intern}

put : (c : After-intern) → let b = c.args.self.now in Holds (with_relation (held_of b) c.args.relation.0 c.args.table.now) b.descriptors b.index b.parts c.append.new.self b.arrays b.columns c.intern.new.self
put c =
    let was = c.append.ensures in
    relation_put c.args.self.now c.args.relation c.args.table.now c.in-Some.span c.append.new.self c.intern.new.self c.requires.fits c.requires.new was.slots was.knows was.lent c.in-Some.ensures.text c.intern.result c.intern.ensures

pub invariant_of-self : goal.invariant_of-self
invariant_of-self c = record { inside = (put c).inside; sound = (put c).sound }

pub returns-in-Some : goal.returns-in-Some
returns-in-Some c = (put (goal.at.returns-in-Some c).After-intern).held
