use Rattle.std.proofs.Common.{◌∙◌, ap}
use Rattle.resolve.specs.Walks.{known_to, walk_at}
use Rattle.resolve.proofs.rounds.go_on.Goals as goal

pub returns-clause-outcome : goal.returns-clause-outcome
returns-clause-outcome g c =
    c.walk_on.ensures.outcome
    ∙ ap (λ most. walk_at (g.C.TypeCatalog.meaning c.args.catalog.now) (known_to c.args.book.now) most 1 c.args.finds.now) c.beside.ensures
