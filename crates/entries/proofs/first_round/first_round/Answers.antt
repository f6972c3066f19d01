use Rattle.std.proofs.Common.{◌≤◌, length}
use Rattle.book.specs.Book.{held_of}
use Rattle.book.specs.Held.{book_held}
use Rattle.requests.specs.Asked.{declared_by}
use Rattle.entries.specs.Notes.{leads_told}
use Rattle.entries.proofs.Opening.{first_over, leads_unspent}
use Rattle.entries.proofs.first_round.first_round.Goals as goal

pub returns-clause-turned : goal.returns-clause-turned
returns-clause-turned g c =
    first_over (g.C.TypeCatalog.meaning c.args.catalog.now) (g.C.TypeCatalog.meaning c.enter.new.catalog) (book_held (held_of c.args.book.now))
    (declared_by c.args.host.now c.args.entries.now) (g.C.TypeCatalog.meaning c.close.new.self) c.ask_first-read.new.finds c.ask_first-read.new.notes
    c.ask_first-read.result c.in_ok-opened.ensures c.close.ensures c.ask_first-read.ensures.read

pub returns-clause-leads : goal.returns-clause-leads
returns-clause-leads g c =
    leads_unspent (g.C.TypeCatalog.meaning c.args.catalog.now) (g.C.TypeCatalog.meaning c.enter.new.catalog) (book_held (held_of c.args.book.now))
    (declared_by c.args.host.now c.args.entries.now) (length c.args.entries.now ≤ 256) (leads_told c.ask_first-read.new.notes)
    c.ask_first-read.result c.in_ok-opened.ensures c.ask_first-read.ensures.leads
