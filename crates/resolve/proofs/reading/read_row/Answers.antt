use Rattle.std.proofs.Common.{ap, is_some, map, refl, arith}
use Rattle.catalog.specs.Meaning.{row_meaning, row_told, shape_meaning}
use Rattle.keys.specs.Senses.{oid_of}
use Rattle.resolve.specs.Walks.{known_to}
use Rattle.resolve.proofs.Rows.{read_good, read_ill, read_none}
use Rattle.resolve.proofs.reading.read_row.Goals as goal

pub returns-in_default-row : goal.returns-in_default-row
returns-in_default-row g c =
    read_none (g.C.TypeCatalog.meaning c.args.catalog.now) (known_to c.args.book.now) c.args.most c.args.finds.now c.requires.waits c.requires.most
    (omega (arith, c.row_count.ensures, c.if-row_count-most.false)) c.in-Some.oid.0 c.in-Some.ensures
    c.read.new.self (is_some c.read.result) c.read.ensures.told c.read.ensures.queue (row_told c.row-row.result) c.row-row.ensures c.read.ensures.rows
    (ap row_told c.in_default-row.is)

pub returns-in-Ok : goal.returns-in-Ok
returns-in-Ok g c =
    read_good (g.C.TypeCatalog.meaning c.args.catalog.now) (known_to c.args.book.now) c.args.most c.args.finds.now c.requires.waits c.requires.most
    (omega (arith, c.row_count.ensures, c.if-row_count-most.false)) c.in-Some.oid.0 c.in-Some.ensures
    c.read.new.self (is_some c.read.result) c.read.ensures.told c.read.ensures.queue (row_told c.row-row.result) c.row-row.ensures c.read.ensures.rows
    (row_meaning c.in-Some-row.row) (shape_meaning c.in-Ok.shape) (map oid_of c.as_slice.result.now) c.push_links.new.finds
    (ap row_told c.in-Some-row.is) c.in-Ok.ensures (ap (map oid_of) c.as_slice.ensures) c.push_links.ensures.queue c.push_links.ensures.rows

pub returns-in-Err : goal.returns-in-Err
returns-in-Err g c =
    read_ill (g.C.TypeCatalog.meaning c.args.catalog.now) (known_to c.args.book.now) c.args.most c.args.finds.now c.requires.waits c.requires.most
    (omega (arith, c.row_count.ensures, c.if-row_count-most.false)) c.in-Some.oid.0 c.in-Some.ensures
    (row_meaning c.in-Some-row.row) c.in-Some.oid c.args.round refl c.in-Some-row.ensures c.in-Err.ensures
