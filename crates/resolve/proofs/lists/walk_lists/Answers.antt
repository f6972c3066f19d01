use Rattle.std.proofs.Common.{◌∙◌, [], ap}
use Rattle.book.specs.Book.{held_of}
use Rattle.book.specs.Held.{book_held}
use Rattle.resolve.specs.Lists.{both_lists, types_of}
use Rattle.resolve.specs.Rounds.{with_all}
use Rattle.resolve.specs.Walks.{known_to}
use Rattle.resolve.proofs.Cut.{with_both}
use Rattle.resolve.proofs.Walking.{walk_begun}
use Rattle.resolve.proofs.lists.walk_lists.Goals as goal

pub returns-clause-outcome : goal.returns-clause-outcome
returns-clause-outcome g c =
    let known = known_to c.args.book.now in
    let os = c.args.oids.now in
    let types = types_of c.args.fields.now in
    c.walk_on.ensures.outcome
    ∙ walk_begun (g.C.TypeCatalog.meaning c.args.catalog.now) (book_held (held_of c.args.book.now)).descriptors (both_lists os c.args.fields.now) c.push_fields.new.finds
    (c.push_fields.ensures.queue
    ∙ ap (λ queue. with_all known queue types) (c.push_all.ensures.queue ∙ ap (λ queue. with_all known queue os) c.clear.ensures.queue)
    ∙ with_both known os types [])
    (c.push_fields.ensures.rows ∙ c.push_all.ensures.rows ∙ c.clear.ensures.rows)
