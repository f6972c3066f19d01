use Rattle.std.proofs.Common.{◌+◌, take, get_or, None}
use Rattle.std.specs.Prelude.{Option}
use Rattle.book.specs.Book.{held_of}
use Rattle.catalog.specs.Meaning.{oid_told}
use Rattle.finds.specs.Resolving.{apart_kept}
use Rattle.type_info.specs.declared.oid.Oid.{Oid}
use Rattle.finds.proofs.Steps.{next_step, take_next}
use Rattle.finds.proofs.declared.keep_apart.Goals as goal

pub loop-found-preserved : goal.loop-found-preserved
loop-found-preserved c =
    let items = c.args.apart.now in
    let i = c.loop-found.found-index in
    let none : Oid × Option Oid = (record { 0 = 0 }, None) in
    next_step (λ (y : Oid × Option Oid). (y.0.0, oid_told y.1)) apart_kept (take i items) (get_or items i none) (take (i + 1) items) (take_next items i none c.loop-found-test.true)
    (held_of c.args.book.now) (held_of c.loop-found.book) (held_of c.keep_link.new.book) c.loop-found.invariant c.keep_link.ensures
