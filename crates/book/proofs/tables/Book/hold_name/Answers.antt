use Rattle.std.proofs.Common.{◌≡◌, ◌∙◌, None, ap, refl, subst, sym}
use Rattle.catalog.specs.Meaning.{oid_told}
use Rattle.indexes.specs.Known.{known}
use Rattle.life.proofs.Lists.{is_none_if}
use Rattle.book.specs.Book.{held_of}
use Rattle.book.specs.Held.{Held, size_of_name, with_name}
use Rattle.book.specs.Stands.{Stands, one_name}
use Rattle.room.specs.Tables.{extended}
use Rattle.book.proofs.Put.{Holds, name_put}
use Rattle.book.proofs.Room.{room_told}
use Rattle.book.proofs.Stands.{stands_name}
use Rattle.book.proofs.tables.Book.hold_name.Goals as goal
use Rattle.book.proofs.tables.Book.hold_name.Goals.{After-intern}

absent : (c : After-intern) → known c.args.self.now.names c.args.name.now ≡ None
absent c = sym c.find.ensures ∙ is_none_if c.find.result (sym c.is_some.ensures ∙ c.if-is_some.false)

put : (c : After-intern) → let b = c.args.self.now in Holds (with_name (held_of b) c.args.name.now c.args.oid.0) b.descriptors b.index b.parts c.intern.new.self b.arrays b.columns b.relations
put c =
    let h = held_of c.args.self.now in
    name_put c.args.self.now c.args.name.now c.args.oid c.intern.new.self
    (room_told h.capacity h.taken (size_of_name c.args.name.now) _ c.room.result c.is_some-else-is_some.result refl c.room.ensures c.is_some-else-is_some.ensures c.if-is_some-2.false)
    (absent c) c.intern.result c.intern.ensures

pub invariant_of-self : goal.invariant_of-self
invariant_of-self c = record { inside = (put c).inside; sound = (put c).sound }

pub returns-clause-held : goal.returns-clause-held
returns-clause-held c = (put (goal.at.returns-clause-held c).After-intern).held

pub returns-clause-stands : goal.returns-clause-stands
returns-clause-stands c = λ t s.
    let d = (goal.at.returns-clause-stands c).After-intern in
    subst (λ (g : Held). Stands g (extended t (one_name c.args.name.now c.args.oid.0))) (sym (put d).held)
    (stands_name (held_of c.args.self.now) t s c.args.name.now c.args.oid.0 (ap oid_told (absent d)))
