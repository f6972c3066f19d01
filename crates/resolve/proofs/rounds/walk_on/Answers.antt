use Rattle.std.proofs.Common.{arith}
use Rattle.resolve.specs.Walks.{known_to}
use Rattle.resolve.proofs.Walking.{walking_done, walking_long}
use Rattle.resolve.proofs.rounds.walk_on.Goals as goal

pub returns-then-rounds-eq-MOST_ROUNDS-clause-outcome : goal.returns-then-rounds-eq-MOST_ROUNDS-clause-outcome
returns-then-rounds-eq-MOST_ROUNDS-clause-outcome g c =
    walking_long (g.C.TypeCatalog.meaning c.args.catalog.now) (g.C.TypeCatalog.meaning c.loop-most.catalog) (known_to c.args.book.now) c.args.most c.args.opened c.loop-most.rounds c.args.finds.now c.loop-most.finds
    c.loop-most.invariant c.if-rounds-eq-MOST_ROUNDS.true (omega (arith, c.row_count.ensures, c.oid_count.ensures, c.loop-most-test.true))

pub returns-clause-outcome : goal.returns-clause-outcome
returns-clause-outcome g c =
    walking_done (g.C.TypeCatalog.meaning c.args.catalog.now) (g.C.TypeCatalog.meaning c.loop-most.catalog) (known_to c.args.book.now) c.args.most c.args.opened c.loop-most.rounds c.args.finds.now c.loop-most.finds
    c.loop-most.invariant (omega (arith, c.row_count.ensures, c.oid_count.ensures, c.loop-most-test.false))
