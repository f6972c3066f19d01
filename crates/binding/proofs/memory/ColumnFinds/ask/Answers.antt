use Rattle.std.proofs.Common.{◌∙◌, ap, is_some, refl, sym}
use Rattle.book.specs.Book.{held_of}
use Rattle.catalog.specs.Meaning.{column_told}
use Rattle.binding.specs.Asked.{source_of}
use Rattle.binding.proofs.Asking.{asked_found, asked_none}
use Rattle.binding.proofs.memory.ColumnFinds.ask.Goals as goal

pub returns-in-Some-column : goal.returns-in-Some-column
returns-in-Some-column g c = λ asked so few.
    asked_found (held_of c.args.book.now) (g.C.TypeCatalog.meaning c.args.catalog.now) asked c.args.self.now so few
    c.in-Some.at (source_of c.args.field.now) c.in-Some.ensures (ap is_some (sym c.find.ensures) ∙ sym c.is_some.ensures ∙ c.if-is_some.false) c.intern.new.self c.intern.result c.intern.ensures
    _ refl c.in-Some-column.column (ap column_told (sym c.in-Some-column.is) ∙ c.column.ensures) c.push.result c.push.ensures

pub returns-in_default-column : goal.returns-in_default-column
returns-in_default-column g c = λ asked so few.
    asked_none (held_of c.args.book.now) (g.C.TypeCatalog.meaning c.args.catalog.now) asked c.args.self.now so few
    c.in-Some.at (source_of c.args.field.now) c.in-Some.ensures (ap is_some (sym c.find.ensures) ∙ sym c.is_some.ensures ∙ c.if-is_some.false) c.intern.new.self c.intern.result c.intern.ensures
    _ refl refl (ap column_told (sym c.in_default-column.is) ∙ c.column.ensures)
