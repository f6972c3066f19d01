use Rattle.std.proofs.Common.{◌<◌, ◌∙◌, None, Some, ap, false, length, refl, subst, sym, arith}
use Rattle.std.proofs.lemmas.Result.{err_from_is_err_and}
use Rattle.book.specs.Book.{held_of}
use Rattle.book.specs.Held.{Held}
use Rattle.book.specs.Stands.{Stands}
use Rattle.finds.specs.Finds.{reads_of}
use Rattle.life.specs.Calls.{fill}
use Rattle.life.specs.Steps.{refused}
use Rattle.resolve.specs.Walks.{known_to}
use Rattle.resolve.proofs.Filled.{accepted_ends, full_ends, kept_leaves, stopped_ends, stopped_leaves, unresolved_ends, unresolved_in}
use Rattle.resolve.proofs.Left.{first_so}
use Rattle.room.specs.Room.{tables_left}
use Rattle.resolve.proofs.filling.fill.Goals as goal

pub returns-in_err-rounds-clause-told : goal.returns-in_err-rounds-clause-told
returns-in_err-rounds-clause-told g c = λ t s few.
    let p = err_from_is_err_and c.from_residual.result c.from_residual.ensures.1 in
    rw (p.1, p.2) (stopped_ends (g.C.TypeCatalog.meaning c.args.catalog.now) (held_of c.args.book.now) t s c.args.oids.now _ c.in_err-rounds.ensures.outcome)

pub returns-in_err-rounds-clause-left : goal.returns-in_err-rounds-clause-left
returns-in_err-rounds-clause-left g c = λ t s.
    stopped_leaves (g.C.TypeCatalog.meaning c.args.catalog.now) (held_of c.args.book.now) t s c.args.oids.now c.in_err-rounds.field-0.0 c.in_err-rounds.ensures.outcome

pub returns-in_err-keep_finds-clause-told : goal.returns-in_err-keep_finds-clause-told
returns-in_err-keep_finds-clause-told g c = λ t s few.
    let k = g.C.TypeCatalog.meaning c.args.catalog.now in
    let p = err_from_is_err_and c.from_residual-in_err-keep_finds.result c.from_residual-in_err-keep_finds.ensures.1 in
    rw (p.1, p.2)
    (full_ends k (held_of c.args.book.now) t s c.args.oids.now c.in_ok-rounds.rounds (reads_of c.walk.new.finds) c.in_ok-rounds.ensures.outcome c.in_err-keep_finds.field-0.0
    (c.in_err-keep_finds.ensures.kept k (g.C.TypeCatalog.laws c.args.catalog.now) c.in_ok-rounds.ensures.read t s (fill c.args.oids.now) refl)).0

pub returns-in_err-keep_finds-clause-left : goal.returns-in_err-keep_finds-clause-left
returns-in_err-keep_finds-clause-left g c = λ t s.
    let k = g.C.TypeCatalog.meaning c.args.catalog.now in
    subst (λ (h : Held). Stands h (tables_left (held_of c.args.book.now).capacity k t (fill c.args.oids.now))) (sym c.in_err-keep_finds.ensures.unkept.0)
    (full_ends k (held_of c.args.book.now) t s c.args.oids.now c.in_ok-rounds.rounds (reads_of c.walk.new.finds) c.in_ok-rounds.ensures.outcome c.in_err-keep_finds.field-0.0
    (c.in_err-keep_finds.ensures.kept k (g.C.TypeCatalog.laws c.args.catalog.now) c.in_ok-rounds.ensures.read t s (fill c.args.oids.now) refl)).1

pub returns-in-Some-clause-told : goal.returns-in-Some-clause-told
returns-in-Some-clause-told g c = λ t s few.
    let k = g.C.TypeCatalog.meaning c.args.catalog.now in
    let os = c.args.oids.now in
    let h = held_of c.args.book.now in
    let now = held_of c.keep_finds.new.book in
    let reads = reads_of c.walk.new.finds in
    let walked = c.in_ok-rounds.ensures in
    let kept = c.in_ok-keep_finds.ensures in
    let fits = kept.kept k (g.C.TypeCatalog.laws c.args.catalog.now) walked.read t s (fill os) refl in
    let first =
    first_so k c.walk.new.finds c.keep_finds.new.finds kept.queue kept.rows (known_to c.keep_finds.new.book) os (Some c.in-Some.place) walked.read walked.all c.in-Some.ensures in
    let within : c.in-Some.place < length os = unresolved_in k h t s os c.in_ok-rounds.rounds reads walked.outcome fits.0 now fits.1 (Some c.in-Some.place) first c.in-Some.place refl in
    ap (λ place. refused 9 place false c.in_ok-rounds.rounds) (c.told_place.ensures (omega (arith, within, few)))
    ∙ unresolved_ends k h t s os c.in_ok-rounds.rounds reads walked.outcome fits.0 now fits.1 (Some c.in-Some.place) first c.in-Some.place refl

pub returns-in-Some-clause-left : goal.returns-in-Some-clause-left
returns-in-Some-clause-left g c = λ t s.
    let k = g.C.TypeCatalog.meaning c.args.catalog.now in
    let fits = c.in_ok-keep_finds.ensures.kept k (g.C.TypeCatalog.laws c.args.catalog.now) c.in_ok-rounds.ensures.read t s (fill c.args.oids.now) refl in
    kept_leaves k (held_of c.args.book.now) t s c.args.oids.now c.in_ok-rounds.rounds (reads_of c.walk.new.finds) c.in_ok-rounds.ensures.outcome fits.0 (held_of c.keep_finds.new.book) fits.1

pub returns-in-None-clause-told : goal.returns-in-None-clause-told
returns-in-None-clause-told g c = λ t s few.
    let k = g.C.TypeCatalog.meaning c.args.catalog.now in
    let os = c.args.oids.now in
    let walked = c.in_ok-rounds.ensures in
    let kept = c.in_ok-keep_finds.ensures in
    let fits = kept.kept k (g.C.TypeCatalog.laws c.args.catalog.now) walked.read t s (fill os) refl in
    accepted_ends k (held_of c.args.book.now) t s os c.in_ok-rounds.rounds (reads_of c.walk.new.finds) walked.outcome fits.0 (held_of c.keep_finds.new.book) fits.1 None
    (first_so k c.walk.new.finds c.keep_finds.new.finds kept.queue kept.rows (known_to c.keep_finds.new.book) os None walked.read walked.all c.in-None.ensures)
    refl

pub returns-in-None-clause-left : goal.returns-in-None-clause-left
returns-in-None-clause-left g c = λ t s.
    let k = g.C.TypeCatalog.meaning c.args.catalog.now in
    let fits = c.in_ok-keep_finds.ensures.kept k (g.C.TypeCatalog.laws c.args.catalog.now) c.in_ok-rounds.ensures.read t s (fill c.args.oids.now) refl in
    kept_leaves k (held_of c.args.book.now) t s c.args.oids.now c.in_ok-rounds.rounds (reads_of c.walk.new.finds) c.in_ok-rounds.ensures.outcome fits.0 (held_of c.keep_finds.new.book) fits.1
