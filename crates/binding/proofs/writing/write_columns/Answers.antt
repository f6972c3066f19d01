use Rattle.std.proofs.Common.{List, Some, ap, drop, map, arith}
use Rattle.std.proofs.lemmas.List.{drop_all}
use Rattle.binding.specs.Writing.{column_told, columns_answered}
use Rattle.binding.specs.declared.writing.BoundColumn.{BoundColumn}
use Rattle.book.specs.Book.{held_of}
use Rattle.book.specs.Held.{book_held}
use Rattle.life.specs.Written.{bound_columns}
use Rattle.requests.specs.Asked.{fields_of}
use Rattle.requests.specs.declared.asked.FieldAsked.{FieldAsked}
use Rattle.resolve.proofs.Slots.{writing_done}
use Rattle.binding.proofs.writing.write_columns.Goals as goal

pub returns-clause-written : goal.returns-clause-written
returns-clause-written c = λ few sized room.
    let h = held_of c.args.book.now in
    let place = c.loop-place.place in
    writing_done (column_told h) (columns_answered h c.args.fields.now) c.args.out.now
    (map (λ k. Some k) (bound_columns (book_held h) place (fields_of (drop place c.args.fields.now)))) c.loop-place.out place
    (ap (λ (fields : List FieldAsked). map (λ k. Some k) (bound_columns (book_held h) place (fields_of fields))) (drop_all place c.args.fields.now c.loop-place-test.false))
    (omega (arith, c.loop-place.auto, room)) (c.loop-place.invariant.told few sized)

pub returns-clause-names : goal.returns-clause-names
returns-clause-names c = λ room.
    let place = c.loop-place.place in
    writing_done (λ (k : BoundColumn). k.name) (map (λ (f : FieldAsked). f.name) c.args.fields.now) c.args.out.now
    (map (λ (f : FieldAsked). f.name) (drop place c.args.fields.now)) c.loop-place.out place
    (ap (map (λ (f : FieldAsked). f.name)) (drop_all place c.args.fields.now c.loop-place-test.false)) (omega (arith, c.loop-place.auto, room)) c.loop-place.invariant.names
