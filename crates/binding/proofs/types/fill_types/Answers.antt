use Rattle.std.proofs.Common.{◌≡◌, [], None, Some, ap, refl, arith}
use Rattle.std.proofs.lemmas.Result.{err_from_is_err_and}
use Rattle.book.specs.Book.{held_of}
use Rattle.book.specs.Held.{book_held}
use Rattle.finds.specs.Finds.{reads_of}
use Rattle.life.specs.Calls.{bind, fill}
use Rattle.life.specs.Faults.{of_layer_fill}
use Rattle.resolve.specs.Lists.{both_lists}
use Rattle.resolve.specs.Walks.{known_to}
use Rattle.resolve.proofs.Left.{first_so}
use Rattle.binding.proofs.TypesDone.{all_kept, columns_stay, full_refuses, left_in, left_refuses, place_small, relations_stay, rounds_few, stopped_so}
use Rattle.binding.proofs.types.fill_types.Goals as goal

pub returns-in_err-rounds-clause-told : goal.returns-in_err-rounds-clause-told
returns-in_err-rounds-clause-told g c = λ few many t s q so.
    let p = err_from_is_err_and c.from_residual.result c.from_residual.ensures.1 in
    rw (p.1, p.2) (stopped_so (g.C.TypeCatalog.meaning c.args.catalog.now) (held_of c.args.book.now) t s q c.args.parameters.now c.args.fields.now so _ c.in_err-rounds.ensures.outcome)

pub returns-in_err-keep_finds-clause-told : goal.returns-in_err-keep_finds-clause-told
returns-in_err-keep_finds-clause-told g c = λ few many t s q so.
    let k = g.C.TypeCatalog.meaning c.args.catalog.now in
    let walked = c.in_ok-rounds.ensures in
    let p = err_from_is_err_and c.from_residual-in_err-keep_finds.result c.from_residual-in_err-keep_finds.ensures.1 in
    rw (p.1, p.2)
    (full_refuses k (held_of c.args.book.now) t s q c.args.parameters.now c.args.fields.now so c.in_ok-rounds.rounds (reads_of c.walk_lists.new.finds) walked.outcome
    c.in_err-keep_finds.field-0.0 (held_of c.keep_finds.new.book) c.in_err-keep_finds.ensures.unkept.0
    (c.in_err-keep_finds.ensures.kept k (g.C.TypeCatalog.laws c.args.catalog.now) walked.read t s (bind q) refl))

pub returns-in-Some-clause-told : goal.returns-in-Some-clause-told
returns-in-Some-clause-told g c = λ few many t s q so.
    let k = g.C.TypeCatalog.meaning c.args.catalog.now in
    let ps = c.args.parameters.now in
    let fs = c.args.fields.now in
    let h = held_of c.args.book.now in
    let now = held_of c.keep_finds.new.book in
    let reads = reads_of c.walk_lists.new.finds in
    let walked = c.in_ok-rounds.ensures in
    let kept = c.in_ok-keep_finds.ensures in
    let fits = kept.kept k (g.C.TypeCatalog.laws c.args.catalog.now) walked.read t s (bind q) refl in
    let first =
    first_so k c.walk_lists.new.finds c.keep_finds.new.finds kept.queue kept.rows (known_to c.keep_finds.new.book) (both_lists ps fs) (Some c.in-Some.place) walked.read walked.all
    (c.in-Some.ensures (omega (arith, few, many))) in
    let within = left_in k h t s q ps fs so c.in_ok-rounds.rounds reads walked.outcome fits.0 now fits.1 (Some c.in-Some.place) first c.in-Some.place refl in
    let exact : c.told_place.result ≡ c.in-Some.place = c.told_place.ensures (place_small ps fs c.in-Some.place few many within) in
    left_refuses k h t s q ps fs so c.in_ok-rounds.rounds reads walked.outcome fits.0 now fits.1 (Some c.in-Some.place) first c.in-Some.place _ refl
    (ap (λ place. of_layer_fill 9 place c.in_ok-rounds.rounds) exact)

pub returns-in-Some-clause-columns : goal.returns-in-Some-clause-columns
returns-in-Some-clause-columns g c = λ t s.
    let k = g.C.TypeCatalog.meaning c.args.catalog.now in
    columns_stay k (held_of c.args.book.now) (held_of c.keep_finds.new.book) t (fill []) (reads_of c.walk_lists.new.finds) s
    (c.in_ok-keep_finds.ensures.kept k (g.C.TypeCatalog.laws c.args.catalog.now) c.in_ok-rounds.ensures.read t s (fill []) refl).1

pub returns-in-Some-clause-relations : goal.returns-in-Some-clause-relations
returns-in-Some-clause-relations g c = λ t s.
    let k = g.C.TypeCatalog.meaning c.args.catalog.now in
    relations_stay k (held_of c.args.book.now) (held_of c.keep_finds.new.book) t (fill []) (reads_of c.walk_lists.new.finds) s
    (c.in_ok-keep_finds.ensures.kept k (g.C.TypeCatalog.laws c.args.catalog.now) c.in_ok-rounds.ensures.read t s (fill []) refl).1

pub returns-in-None-clause-told : goal.returns-in-None-clause-told
returns-in-None-clause-told g c = λ few many t s q so.
    let k = g.C.TypeCatalog.meaning c.args.catalog.now in
    let ps = c.args.parameters.now in
    let fs = c.args.fields.now in
    let walked = c.in_ok-rounds.ensures in
    let kept = c.in_ok-keep_finds.ensures in
    let fits = kept.kept k (g.C.TypeCatalog.laws c.args.catalog.now) walked.read t s (bind q) refl in
    all_kept k (held_of c.args.book.now) t s q ps fs so c.in_ok-rounds.rounds (reads_of c.walk_lists.new.finds) walked.outcome fits.0 (held_of c.keep_finds.new.book) fits.1 None
    (first_so k c.walk_lists.new.finds c.keep_finds.new.finds kept.queue kept.rows (known_to c.keep_finds.new.book) (both_lists ps fs) None walked.read walked.all
    (c.in-None.ensures (omega (arith, few, many))))
    refl

pub returns-in-None-clause-few : goal.returns-in-None-clause-few
returns-in-None-clause-few g c =
    rounds_few (g.C.TypeCatalog.meaning c.args.catalog.now) (book_held (held_of c.args.book.now)).descriptors (both_lists c.args.parameters.now c.args.fields.now) c.in_ok-rounds.rounds
    (reads_of c.walk_lists.new.finds) c.in_ok-rounds.ensures.outcome

pub returns-in-None-clause-columns : goal.returns-in-None-clause-columns
returns-in-None-clause-columns g c = λ t s.
    let k = g.C.TypeCatalog.meaning c.args.catalog.now in
    columns_stay k (held_of c.args.book.now) (held_of c.keep_finds.new.book) t (fill []) (reads_of c.walk_lists.new.finds) s
    (c.in_ok-keep_finds.ensures.kept k (g.C.TypeCatalog.laws c.args.catalog.now) c.in_ok-rounds.ensures.read t s (fill []) refl).1

pub returns-in-None-clause-relations : goal.returns-in-None-clause-relations
returns-in-None-clause-relations g c = λ t s.
    let k = g.C.TypeCatalog.meaning c.args.catalog.now in
    relations_stay k (held_of c.args.book.now) (held_of c.keep_finds.new.book) t (fill []) (reads_of c.walk_lists.new.finds) s
    (c.in_ok-keep_finds.ensures.kept k (g.C.TypeCatalog.laws c.args.catalog.now) c.in_ok-rounds.ensures.read t s (fill []) refl).1
