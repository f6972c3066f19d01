use Rattle.std.proofs.Common.{◌≡◌, subst, sym}
use Rattle.book.specs.Book.{held_of}
use Rattle.book.specs.Stands.{Stands}
use Rattle.life.specs.Calls.{bind}
use Rattle.life.specs.Steps.{accepted}
use Rattle.room.specs.Room.{limited, tables_left}
use Rattle.binding.specs.Whole.{binding_asked}
use Rattle.binding.proofs.Quiet.{quiet_ends, quiet_left}
use Rattle.binding.proofs.whole.bind_lists.Goals as goal

pub returns-then-queries-clause-left : goal.returns-then-queries-clause-left
returns-then-queries-clause-left g c = λ few many related t s.
    let k = g.C.TypeCatalog.meaning c.args.catalog.now in
    let h = held_of c.args.book.now in
    subst (λ v. Stands (held_of c.bind_queried.new.book) (tables_left h.capacity k t (bind (binding_asked c.args.parameters.now c.args.fields.now v c.args.origins)))) (sym c.if-queries.true)
    (c.bind_queried.ensures.left few many related t s)

pub returns-else-queries-clause-told : goal.returns-else-queries-clause-told
returns-else-queries-clause-told g c = λ few many t s.
    let k = g.C.TypeCatalog.meaning c.args.catalog.now in
    let h = held_of c.args.book.now in
    let ps = c.args.parameters.now in
    let fs = c.args.fields.now in
    subst (λ v. accepted 0 0 ≡ (limited h.capacity k t (bind (binding_asked ps fs v c.args.origins))).ending) (sym c.if-queries.false) (quiet_ends k h t ps fs c.args.origins s c.args.book.now.sound.fits)

pub returns-else-queries-clause-left : goal.returns-else-queries-clause-left
returns-else-queries-clause-left g c = λ few many related t s.
    let k = g.C.TypeCatalog.meaning c.args.catalog.now in
    let h = held_of c.args.book.now in
    let ps = c.args.parameters.now in
    let fs = c.args.fields.now in
    subst (λ v. Stands h (tables_left h.capacity k t (bind (binding_asked ps fs v c.args.origins)))) (sym c.if-queries.false) (quiet_left k h t ps fs c.args.origins s c.args.book.now.sound.fits)
