use Rattle.book.specs.Book.{held_of}
use Rattle.finds.specs.Keeping.{array_kept, find_at, places}
use Rattle.finds.proofs.Steps.{next_step, places_next}
use Rattle.finds.proofs.tables.Finds.keep_arrays.Goals as goal

pub loop-place-preserved : goal.loop-place-preserved
loop-place-preserved c =
    next_step (find_at c.args.self.now) array_kept (places c.loop-place.place) c.loop-place.place _ (places_next c.loop-place.place)
    (held_of c.args.book.now) (held_of c.loop-place.book) (held_of c.keep_array.new.book) c.loop-place.invariant c.keep_array.ensures
