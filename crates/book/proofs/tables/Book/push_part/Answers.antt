use Rattle.std.proofs.Common.{[], ◌∷◌}
use Rattle.book.specs.Book.{held_of}
use Rattle.book.specs.Held.{with_members}
use Rattle.book.proofs.Put.{Holds, part_put}
use Rattle.book.proofs.tables.Book.push_part.Goals as goal
use Rattle.book.proofs.tables.Book.push_part.Goals.{After-push}

put : (c : After-push) → let b = c.args.self.now in Holds (with_members (held_of b) (record { called = c.args.name.now; typed = c.args.typed } ∷ [])) b.descriptors b.index c.push.new.self c.append.new.self b.arrays b.columns b.relations
put c =
    let was = c.append.ensures in
    part_put c.args.self.now c.args.name.now c.args.typed c.in-Some.span c.append.new.self c.push.new.self c.requires was.slots was.knows was.lent c.in-Some.ensures.text c.push.result c.push.ensures

pub invariant_of-self : goal.invariant_of-self
invariant_of-self c = record { inside = (put c).inside; sound = (put c).sound }

pub returns-in-Some : goal.returns-in-Some
returns-in-Some c = (put (goal.at.returns-in-Some c).After-push).held
