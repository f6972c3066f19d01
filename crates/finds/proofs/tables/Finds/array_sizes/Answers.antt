use Rattle.std.proofs.Common.{◌≡◌, ◌+◌, ◌*◌, arith, subst}
use Rattle.book.specs.Book.{held_of}
use Rattle.book.specs.Held.{FewOf}
use Rattle.book.specs.Sizes.{sizes_told}
use Rattle.finds.specs.Keeping.{array_size, find_at, places}
use Rattle.finds.proofs.Steps.{few_sum, next_size, places_next}
use Rattle.finds.proofs.tables.Finds.array_sizes.Goals as goal

pub loop-place-preserved : goal.loop-place-preserved
loop-place-preserved c =
    let i = c.loop-place.place in
    let s = sizes_told c.loop-place.sizes in
    let more = sizes_told c.array_size.result in
    let t = sizes_told c.plus-sizes.result in
    let many : 16384 * i + 16384 ≡ 16384 * (i + 1) = omega arith in (
      next_size (find_at c.args.self.now) (array_size (held_of c.args.book.now)) (places i) i _ (places_next c.loop-place.place)
          s more t c.loop-place.invariant.0 c.array_size.ensures.size c.plus-sizes.ensures,
      subst (λ n. FewOf n t) many (few_sum (16384 * i) 16384 s more t c.loop-place.invariant.1 c.array_size.ensures.few c.plus-sizes.ensures),
    )
