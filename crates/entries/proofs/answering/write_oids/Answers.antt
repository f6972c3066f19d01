use Rattle.std.proofs.Common.{◌∙◌, ap, arith, sym}
use Rattle.std.proofs.lemmas.List.{map-id}
use Rattle.book.specs.Book.{held_of}
use Rattle.book.specs.Held.{book_held}
use Rattle.life.specs.Buffers.{written_over}
use Rattle.entries.specs.Answers.{all_written, led}
use Rattle.entries.specs.Notes.{leads_told}
use Rattle.resolve.specs.Walks.{known_to}
use Rattle.resolve.proofs.Slots.{writing_done, writing_more}
use Rattle.entries.proofs.Led.{led_more, led_over}
use Rattle.entries.proofs.answering.write_oids.Goals as goal

pub loop-place-preserved : goal.loop-place-preserved
loop-place-preserved c host =
    let all = all_written (book_held (held_of c.args.book.now)).arrays (known_to c.args.book.now) in
    writing_more _ _ _ _ _ _ _ c.loop-place.place _ (ap all (led_more host c.args.entries.now (leads_told c.args.notes.now) _ c.loop-place.place c.loop-place-test.true))
    (c.written_at.ensures host) (omega (arith, c.loop-place-test.true, c.loop-place.auto.out, c.if-entries-out.false)) (c.loop-place.invariant host)

pub returns-clause-written : goal.returns-clause-written
returns-clause-written c host room =
    let all = all_written (book_held (held_of c.args.book.now)).arrays (known_to c.args.book.now) in
    let told = all (led host c.args.entries.now c.args.notes.now) in
    sym (map-id c.loop-place.out)
    ∙ writing_done _ told c.args.out.now _ c.loop-place.out c.loop-place.place
    (ap all (led_over host c.args.entries.now (leads_told c.args.notes.now) c.loop-place.place c.loop-place-test.false)) (omega (arith, c.loop-place.auto.out, c.loop-place.auto.place-end, room))
    (c.loop-place.invariant host)
    ∙ ap (written_over told) (map-id c.args.out.now)
