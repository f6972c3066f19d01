use Rattle.std.proofs.Common.{◌+◌, ◌∷◌, ◌++◌, [], ◌∙◌, ap, length, sym, take}
use Rattle.std.proofs.lemmas.List.{map-append}
use Rattle.book.specs.Book.{held_of}
use Rattle.book.specs.Sizes.{sizes_told}
use Rattle.catalog.specs.Meaning.{column_meaning}
use Rattle.catalog.specs.declared.values.Column.{Column}
use Rattle.finds.specs.Columns.{columns_told}
use Rattle.keys.specs.Senses.{pair_of}
use Rattle.keys.specs.declared.kinds.Attribute.{Attribute}
use Rattle.finds.proofs.Counts.{counting_on}
use Rattle.finds.proofs.Steps.{take_next}
use Rattle.finds.proofs.columns.count_columns.Goals as goal

pub loop-found-preserved : goal.loop-found-preserved
loop-found-preserved c =
    let items = c.args.columns.now in
    let i = c.loop-found.found-index in
    let x = c.found-item.result in
    counting_on (held_of c.args.book.now) (length c.args.seen.now) i (columns_told (take i items)) (sizes_told c.loop-found.sizes) c.loop-found.seen c.loop-found.invariant
    (pair_of x.0, column_meaning x.1) (sizes_told c.count_column-more.result) (sizes_told c.plus-sizes.result) c.count_column-more.new.seen
    c.count_column-more.ensures.size c.count_column-more.ensures.seen c.count_column-more.ensures.few c.plus-sizes.ensures
    (columns_told (take (i + 1) items))
    (ap columns_told (take_next items i x c.loop-found-test.true ∙ ap (λ y. take i items ++ y ∷ []) (sym c.found-item.is))
    ∙ map-append (λ (y : Attribute × Column). (pair_of y.0, column_meaning y.1)) (take i items) (x ∷ []))
