use Rattle.std.proofs.Common.{◌-◌}
use Rattle.resolve.specs.Walks.{known_to}
use Rattle.resolve.proofs.Walking.{Walking}
use Rattle.resolve.proofs.rounds.walk_on.Given as goal

abbrev pub invariant-loop-most : goal.invariant-loop-most
invariant-loop-most g l = Walking (g.C.TypeCatalog.meaning l.fn.catalog) (g.C.TypeCatalog.meaning l.catalog) (known_to l.book) l.most l.opened l.rounds l.fn.finds l.finds

abbrev pub decreases-loop-most : goal.decreases-loop-most
decreases-loop-most g l = 64 - l.rounds
