use Rattle.std.proofs.Common.{◌+◌, take, get_or, None}
use Rattle.std.specs.Prelude.{Option}
use Rattle.book.specs.Book.{held_of}
use Rattle.book.specs.Sizes.{sizes_told}
use Rattle.catalog.specs.Meaning.{oid_told}
use Rattle.finds.specs.Resolving.{apart_size}
use Rattle.type_info.specs.declared.oid.Oid.{Oid}
use Rattle.finds.proofs.Steps.{few_sum, next_size, take_next}
use Rattle.finds.proofs.declared.count_apart.Goals as goal

pub loop-found-preserved : goal.loop-found-preserved
loop-found-preserved c =
    let items = c.args.apart.now in
    let i = c.loop-found.found-index in
    let none : Oid × Option Oid = (record { 0 = 0 }, None) in
    let s = sizes_told c.loop-found.sizes in
    let more = sizes_told c.link_size-more.result in
    let t = sizes_told c.plus-sizes.result in (
      next_size (λ (y : Oid × Option Oid). (y.0.0, oid_told y.1)) (apart_size (held_of c.args.book.now)) (take i items) (get_or items i none) (take (i + 1) items)
          (take_next items i none c.loop-found-test.true) s more t c.loop-found.invariant.0 c.link_size-more.ensures.size c.plus-sizes.ensures,
      few_sum i 1 s more t c.loop-found.invariant.1 c.link_size-more.ensures.few c.plus-sizes.ensures,
    )
