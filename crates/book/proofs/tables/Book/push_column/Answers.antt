use Rattle.std.proofs.Common.{◌∙◌, sym}
use Rattle.keys.specs.Senses.{pair_of}
use Rattle.keys.specs.Spans.{span_bytes}
use Rattle.book.specs.Book.{held_of}
use Rattle.book.specs.Held.{with_column_name}
use Rattle.book.proofs.Put.{Holds, column_put}
use Rattle.book.proofs.tables.Book.push_column.Goals as goal
use Rattle.book.proofs.tables.Book.push_column.Goals.{After-intern}

put : (c : After-intern) → let b = c.args.self.now in Holds (with_column_name (held_of b) (pair_of c.args.at) (span_bytes b.names.text.text c.in-Some.table) c.args.name.now) b.descriptors b.index b.parts c.append.new.self b.arrays c.intern.new.self b.relations
put c =
    let was = c.append.ensures in
    column_put c.args.self.now c.args.at c.in-Some.table c.args.name.now c.in-Some-append.span c.append.new.self c.intern.new.self c.requires.fits c.requires.new (sym c.find.ensures ∙ c.in-Some.is) was.slots was.knows was.lent c.in-Some-append.ensures.text c.intern.result c.intern.ensures

pub invariant_of-self : goal.invariant_of-self
invariant_of-self c = record { inside = (put c).inside; sound = (put c).sound }

pub returns-in-Some-append : goal.returns-in-Some-append
returns-in-Some-append c = rw (sym c.find.ensures ∙ c.in-Some.is) (put (goal.at.returns-in-Some-append c).After-intern).held
