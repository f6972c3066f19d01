use Rattle.std.proofs.Common.{◌∙◌, ap}
use Rattle.book.specs.Book.{held_of}
use Rattle.book.specs.Held.{book_held}
use Rattle.resolve.specs.Rounds.{with_all}
use Rattle.resolve.specs.Walks.{known_to}
use Rattle.resolve.proofs.Walking.{walk_begun}
use Rattle.resolve.proofs.rounds.walk.Goals as goal

pub returns-clause-outcome : goal.returns-clause-outcome
returns-clause-outcome g c =
    c.walk_on.ensures.outcome
    ∙ walk_begun (g.C.TypeCatalog.meaning c.args.catalog.now) (book_held (held_of c.args.book.now)).descriptors c.args.oids.now c.push_all.new.finds
    (c.push_all.ensures.queue ∙ ap (λ queue. with_all (known_to c.args.book.now) queue c.args.oids.now) c.clear.ensures.queue)
    (c.push_all.ensures.rows ∙ c.clear.ensures.rows)
