use Rattle.std.proofs.Common.{◌∙◌, ap, length, sym}
use Rattle.std.proofs.lemmas.List.{length-map}
use Rattle.book.specs.Book.{held_of}
use Rattle.book.specs.Held.{book_held}
use Rattle.requests.specs.Asked.{declared_by}
use Rattle.entries.specs.Tables.{noted}
use Rattle.entries.proofs.Walked.{walked_on}
use Rattle.entries.proofs.walking.walk_wanted.Goals as goal

pub returns-clause-walked : goal.returns-clause-walked
returns-clause-walked g c =
    walked_on (g.C.TypeCatalog.meaning c.args.catalog.now) (g.C.TypeCatalog.meaning c.first_round.new.catalog) (book_held (held_of c.args.book.now))
    (declared_by c.args.host.now c.args.entries.now) c.first_round.new.finds c.first_round.new.notes c.in_ok-first_round.ensures.turned
    (length c.apart.result.now) (sym (length-map c.apart.result.now noted) ∙ ap length c.apart.ensures)
    (g.C.TypeCatalog.meaning c.go_on.new.catalog) c.go_on.new.finds c.go_on.result
    c.go_on.ensures.outcome c.go_on.ensures.since c.go_on.ensures.cost c.go_on.ensures.read c.go_on.ensures.all
