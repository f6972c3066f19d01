use Rattle.std.proofs.Common.{◌≡◌, ℕ, Bool, false, List, ◌∙◌, is_some, None, Option, ap, refl, subst, sym}
use Rattle.std.specs.Option.{option_map}
use Rattle.catalog.specs.Catalog.{CatalogColumn}
use Rattle.keys.specs.Senses.{pair_of}
use Rattle.life.proofs.Lists.{is_none_if}
use Rattle.room.specs.Tables.{extended}
use Rattle.book.specs.declared.descriptor.ColumnNames.{ColumnNames}
use Rattle.book.specs.Book.{held_of}
use Rattle.book.specs.Held.{Held, size_of_column}
use Rattle.book.specs.Stands.{Stands, one_column}
use Rattle.book.specs.Tables.{column_read}
use Rattle.book.proofs.Columns.{column_behind, column_fits, column_fresh, relation_fits}
use Rattle.book.proofs.Room.{room_told}
use Rattle.book.proofs.Stands.{stands_column}
use Rattle.book.proofs.tables.Book.hold_column.Goals as goal

-- a column that is not found is not held
absent : (text : List ℕ) (here found : Option ColumnNames) (t : Bool) → found ≡ here → t ≡ is_some found → t ≡ false → option_map (column_read text) here ≡ None
absent text here found t same told none = ap (option_map (column_read text)) (sym same ∙ is_none_if found (sym told ∙ none))

pub relate-requires : goal.relate-requires
relate-requires c =
    let h = held_of c.args.self.now in
    let k : CatalogColumn = record { table = c.args.table.now; column = c.args.name.now } in
    let table = h.relations c.args.at.relation.0 in
    relation_fits h (pair_of c.args.at) k table
    (room_told h.capacity h.taken (size_of_column table k) _ c.room.result _ c.size_of_column-added.ensures c.room.ensures c.is_some-else-is_some.ensures c.if-is_some-2.false)

pub push_column-requires-clause-fits : goal.push_column-requires-clause-fits
push_column-requires-clause-fits c =
    let h = held_of c.args.self.now in
    let k : CatalogColumn = record { table = c.args.table.now; column = c.args.name.now } in
    let table = h.relations c.args.at.relation.0 in
    column_fits h (pair_of c.args.at) k table
    (room_told h.capacity h.taken (size_of_column table k) _ c.room.result _ c.size_of_column-added.ensures c.room.ensures c.is_some-else-is_some.ensures c.if-is_some-2.false)
    (held_of c.relate.new.self) c.relate.ensures

pub push_column-requires-clause-new : goal.push_column-requires-clause-new
push_column-requires-clause-new c =
    let h = held_of c.args.self.now in
    column_fresh h (pair_of c.args.at) (record { table = c.args.table.now; column = c.args.name.now }) (h.relations c.args.at.relation.0) (held_of c.relate.new.self) c.relate.ensures
    (absent c.args.self.now.names.text.text _ c.find.result c.is_some.result c.find.ensures c.is_some.ensures c.if-is_some.false)

pub returns-clause-held : goal.returns-clause-held
returns-clause-held c =
    let h = held_of c.args.self.now in
    c.push_column.ensures
    ∙ column_behind h (pair_of c.args.at) (record { table = c.args.table.now; column = c.args.name.now }) (h.relations c.args.at.relation.0) refl (held_of c.relate.new.self) c.relate.ensures

pub returns-clause-stands : goal.returns-clause-stands
returns-clause-stands c = λ t s one.
    let h = held_of c.args.self.now in
    let p = pair_of c.args.at in
    let k : CatalogColumn = record { table = c.args.table.now; column = c.args.name.now } in
    subst (λ (g : Held). Stands g (extended t (one_column (h.relations p.0) p k))) (sym (returns-clause-held c))
    (stands_column h t s p k one (absent c.args.self.now.names.text.text _ c.find.result c.is_some.result c.find.ensures c.is_some.ensures c.if-is_some.false))
