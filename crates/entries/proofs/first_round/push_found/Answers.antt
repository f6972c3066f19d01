use Rattle.std.proofs.Common.{◌∙◌, ap, length, map, arith}
use Rattle.keys.specs.Senses.{oid_of}
use Rattle.finds.specs.Finds.{queue_of}
use Rattle.resolve.specs.Rounds.{with_all}
use Rattle.resolve.specs.Walks.{known_to}
use Rattle.entries.proofs.InRows.{row_pushed, rows_pushed}
use Rattle.entries.proofs.first_round.push_found.Goals as goal

pub loop-place-preserved : goal.loop-place-preserved
loop-place-preserved c =
    let f = c.loop-place.finds in
    row_pushed (known_to c.args.book.now) c.loop-place.place c.args.finds.now f c.loop-place.invariant
    (omega (arith, c.loop-place-test.true, c.row_count-place-end.ensures, ap length c.loop-place.invariant.rows))
    c.push_links.new.finds
    (c.push_links.ensures.queue ∙ ap (with_all (known_to c.args.book.now) (queue_of f)) (ap (map oid_of) c.as_slice.ensures ∙ c.links_at-links.ensures))
    c.push_links.ensures.rows

pub returns-clause-queue : goal.returns-clause-queue
returns-clause-queue c =
    rows_pushed (known_to c.args.book.now) c.loop-place.place c.args.finds.now c.loop-place.finds c.loop-place.invariant
    (omega (arith, c.loop-place-test.false, c.row_count-place-end.ensures, ap length c.loop-place.invariant.rows))
