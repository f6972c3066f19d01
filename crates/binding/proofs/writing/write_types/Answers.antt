use Rattle.std.proofs.Common.{ap, drop, arith}
use Rattle.std.proofs.lemmas.List.{drop_all}
use Rattle.binding.specs.Writing.{type_told, types_answered}
use Rattle.book.specs.Book.{held_of}
use Rattle.resolve.proofs.Slots.{writing_done}
use Rattle.binding.proofs.writing.write_types.Goals as goal

pub returns-clause-written : goal.returns-clause-written
returns-clause-written c = λ room.
    let h = held_of c.args.book.now in
    writing_done (type_told h) (types_answered h c.args.oids.now) c.args.out.now (types_answered h (drop c.loop-place.place c.args.oids.now)) c.loop-place.out c.loop-place.place
    (ap (types_answered h) (drop_all c.loop-place.place c.args.oids.now c.loop-place-test.false)) (omega (arith, c.loop-place.auto, room)) c.loop-place.invariant
