use Rattle.std.proofs.Common.{◌<◌, length, arith}
use Rattle.std.proofs.lemmas.Result.{err_from_is_err_and}
use Rattle.finds.specs.Finds.{queue_of, rows_of}
use Rattle.resolve.specs.Walks.{known_to}
use Rattle.resolve.proofs.InRound.{goes_on, round_refused, round_through, row_nearer, row_through}
use Rattle.resolve.proofs.reading.read_rows.Goals as goal

pub read_row-requires-clause-waits : goal.read_row-requires-clause-waits
read_row-requires-clause-waits g c =
    goes_on (g.C.TypeCatalog.meaning c.args.catalog.now) (known_to c.args.book.now) c.args.most c.args.finds.now c.loop-finds.finds c.loop-finds.invariant
    (omega (arith, c.row_count.ensures, c.oid_count-end.ensures, c.loop-finds-test.true))

pub loop-finds-smaller : goal.loop-finds-smaller
loop-finds-smaller g c =
    let more : length (rows_of c.loop-finds.finds) < length (queue_of c.args.finds.now) = omega (arith, c.row_count.ensures, c.oid_count-end.ensures, c.loop-finds-test.true) in
    omega (
      arith,
      c.oid_count-end.ensures,
      row_nearer (g.C.TypeCatalog.meaning c.args.catalog.now) (known_to c.args.book.now) c.args.most c.args.finds.now c.loop-finds.finds c.loop-finds.invariant c.read_row.new.finds more c.in_ok-read_row.ensures,
    )

pub loop-finds-preserved : goal.loop-finds-preserved
loop-finds-preserved g c =
    row_through (g.C.TypeCatalog.meaning c.args.catalog.now) (known_to c.args.book.now) c.args.most c.args.finds.now c.loop-finds.finds c.loop-finds.invariant c.read_row.new.finds
    (omega (arith, c.row_count.ensures, c.oid_count-end.ensures, c.loop-finds-test.true)) c.in_ok-read_row.ensures

pub returns-in_err-read_row : goal.returns-in_err-read_row
returns-in_err-read_row g c =
    let p = err_from_is_err_and c.from_residual.result c.from_residual.ensures.1 in
    rw (p.1, p.2) (round_refused (g.C.TypeCatalog.meaning c.args.catalog.now) (known_to c.args.book.now) c.args.most c.args.finds.now c.loop-finds.finds c.loop-finds.invariant _ c.args.round
    (omega (arith, c.row_count.ensures, c.oid_count-end.ensures, c.loop-finds-test.true)) c.in_err-read_row.ensures)

pub returns : goal.returns
returns g c =
    round_through (g.C.TypeCatalog.meaning c.args.catalog.now) (known_to c.args.book.now) c.args.most c.args.finds.now c.loop-finds.finds c.loop-finds.invariant
    (omega (arith, c.row_count.ensures, c.oid_count-end.ensures, c.loop-finds-test.false))
