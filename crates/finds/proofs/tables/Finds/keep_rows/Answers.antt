use Rattle.std.proofs.Common.{slice_index_or}
use Rattle.book.specs.Book.{held_of}
use Rattle.finds.specs.Keeping.{find_at, row_kept}
use Rattle.finds.proofs.Steps.{next_step, take_next}
use Rattle.finds.proofs.tables.Finds.keep_rows.Goals as goal

pub loop-place-preserved : goal.loop-place-preserved
loop-place-preserved c =
    let items = c.as_slice-place-items.result.now in
    let i = c.loop-place.place-index in
    next_step (find_at c.args.self.now) row_kept _ (slice_index_or items i 0) _ (take_next items i 0 c.loop-place-test.true)
    (held_of c.args.book.now) (held_of c.loop-place.book) (held_of c.keep_row.new.book) c.loop-place.invariant c.keep_row.ensures
