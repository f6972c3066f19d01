use Rattle.std.proofs.Common.{◌≡◌, ◌+◌, ◌∷◌, ◌++◌, [], ◌∙◌, ap, if◌then◌else◌, subst, sym, take}
use Rattle.std.proofs.lemmas.List.{take_all}
use Rattle.book.specs.Book.{held_of}
use Rattle.book.specs.Held.{Held, with_column}
use Rattle.book.specs.Stands.{Stands}
use Rattle.catalog.specs.Catalog.{CatalogColumn}
use Rattle.catalog.specs.Meaning.{column_meaning}
use Rattle.catalog.specs.declared.values.Column.{Column}
use Rattle.finds.specs.Columns.{column_kept, columns_told}
use Rattle.finds.specs.Keeping.{each}
use Rattle.keys.specs.Senses.{pair_of}
use Rattle.keys.specs.declared.kinds.Attribute.{Attribute}
use Rattle.room.specs.Added.{with_columns}
use Rattle.finds.proofs.Gathering.{each_capacity}
use Rattle.finds.proofs.Related.{columns_stand, kept_capacity}
use Rattle.finds.proofs.Steps.{next_step, take_next}
use Rattle.finds.proofs.columns.keep_columns.Goals as goal
use Rattle.finds.proofs.columns.keep_columns.Goals.{After-loop-found}

pub loop-found-preserved : goal.loop-found-preserved
loop-found-preserved c =
    let items = c.args.columns.now in
    let i = c.loop-found.found-index in
    let x = c.found-item.result in
    let h = held_of c.loop-found.book in
    let as_read : CatalogColumn = record { table = c.get-table.result.now; column = c.get-name.result.now } in
    let same : as_read ≡ column_meaning x.1 = λ j. record { table = c.get-table.ensures j; column = c.get-name.ensures j } in
    next_step (λ (y : Attribute × Column). (pair_of y.0, column_meaning y.1)) column_kept (take i items) x (take (i + 1) items)
    (take_next items i x c.loop-found-test.true ∙ ap (λ y. take i items ++ y ∷ []) (sym c.found-item.is))
    (held_of c.args.book.now) h (held_of c.hold_column.new.self) c.loop-found.invariant
    (c.hold_column.ensures.held
    ∙ ap (λ v. if v then with_column h (pair_of x.0) as_read else h) c.hold_column.ensures.told
    ∙ ap (λ k. column_kept h (pair_of x.0, k)) same)

ended : (c : After-loop-found) → held_of c.loop-found.book ≡ each column_kept (held_of c.args.book.now) (columns_told c.args.columns.now)
ended c = c.loop-found.invariant ∙ ap (λ xs. each column_kept (held_of c.args.book.now) (columns_told xs)) (take_all c.loop-found.found-index c.args.columns.now c.loop-found-test.false)

pub returns-clause-held : goal.returns-clause-held
returns-clause-held c = ended c

pub returns-clause-capacity : goal.returns-clause-capacity
returns-clause-capacity c =
    ap (λ (h : Held). h.capacity) (ended c)
    ∙ each_capacity column_kept kept_capacity (held_of c.args.book.now) (columns_told c.args.columns.now)

pub returns-clause-kept : goal.returns-clause-kept
returns-clause-kept c = λ k laws related asked same t s room.
    subst (λ (h : Held). Stands h (with_columns k t asked)) (sym (ended c))
    (columns_stand k laws (held_of c.args.book.now) related asked (columns_told c.args.columns.now) same t s room)
