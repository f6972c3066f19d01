use Rattle.std.proofs.Common.{rules, ◌∙◌, ap, subst, sym}
use Rattle.catalog.specs.Meaning.{oid_told}
use Rattle.life.proofs.Lists.{is_none_if}
use Rattle.book.specs.Book.{held_of}
use Rattle.book.specs.Held.{Held}
use Rattle.book.specs.Stands.{Stands, one_array}
use Rattle.room.specs.Tables.{extended}
use Rattle.book.proofs.Stands.{stands_array}
use Rattle.book.proofs.tables.Book.hold_array.Goals as goal

pub returns-clause-stands : goal.returns-clause-stands
returns-clause-stands c = λ t s.
    let h = held_of c.args.self.now in
    subst (λ (g : Held). Stands g (extended t (one_array c.args.element.0 c.args.array.0))) (sym (search rules))
    (stands_array h t s c.args.element.0 c.args.array.0 (ap oid_told (sym c.find.ensures ∙ is_none_if c.find.result (sym c.is_some.ensures ∙ c.if-is_some.false))))
