use Rattle.std.proofs.Common.{◌≡◌, ◌+◌, ◌*◌, arith, slice_index_or, subst}
use Rattle.book.specs.Book.{held_of}
use Rattle.book.specs.Held.{FewOf}
use Rattle.book.specs.Sizes.{sizes_told}
use Rattle.finds.specs.Keeping.{find_at, settled_size}
use Rattle.finds.proofs.Steps.{few_sum, next_size, take_next}
use Rattle.finds.proofs.tables.Finds.settled_sizes.Goals as goal

pub loop-place-preserved : goal.loop-place-preserved
loop-place-preserved c =
    let items = c.as_slice-place-items.result.now in
    let i = c.loop-place.place-index in
    let s = sizes_told c.loop-place.sizes in
    let more = sizes_told c.settled_size.result in
    let t = sizes_told c.plus-sizes.result in
    let many : 16384 * i + 16384 ≡ 16384 * (i + 1) = omega arith in (
      next_size (find_at c.args.self.now) (settled_size (held_of c.args.book.now)) _ (slice_index_or items i 0) _ (take_next items i 0 c.loop-place-test.true)
          s more t c.loop-place.invariant.0 c.settled_size.ensures.size c.plus-sizes.ensures,
      subst (λ n. FewOf n t) many (few_sum (16384 * i) 16384 s more t c.loop-place.invariant.1 c.settled_size.ensures.few c.plus-sizes.ensures),
    )
