use Rattle.std.proofs.lemmas.Result.{err_from_is_err_and}
use Rattle.book.specs.Book.{held_of}
use Rattle.book.specs.Held.{book_held}
use Rattle.requests.specs.Asked.{declared_by}
use Rattle.entries.proofs.FirstRead.{first_halted, first_read}
use Rattle.entries.proofs.first_round.ask_first.Goals as goal

pub returns-in_err-read_entries-clause-read : goal.returns-in_err-read_entries-clause-read
returns-in_err-read_entries-clause-read g c =
    let p = err_from_is_err_and c.from_residual.result c.from_residual.ensures.1 in
    rw (p.1, p.2)
    (first_halted (g.C.TypeCatalog.meaning c.args.catalog.now) (book_held (held_of c.args.book.now)) (declared_by c.args.host.now c.args.entries.now)
    c.args.finds.now c.args.notes.now c.requires.nothing _ c.read_entries.new.finds c.read_entries.new.notes c.in_err-read_entries.ensures.came)

pub returns-clause-read : goal.returns-clause-read
returns-clause-read g c =
    first_read (g.C.TypeCatalog.meaning c.args.catalog.now) (book_held (held_of c.args.book.now)) (declared_by c.args.host.now c.args.entries.now)
    c.args.finds.now c.args.notes.now c.requires.nothing c.read_entries.new.finds c.read_entries.new.notes c.in_ok-read_entries.ensures.came
    c.push_found.new.finds c.push_found.ensures.queue c.push_found.ensures.rows
